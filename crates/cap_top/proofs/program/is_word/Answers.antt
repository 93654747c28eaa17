use Rattle.std.proofs.Common.{◌≡◌, sym, ◌∙◌, true}
use Rattle.std.specs.Str.{bytes_eq}
use Rattle.std.proofs.lemmas.Slice.Eq.{bytes_eq-Decides}
use Rattle.cap_top.proofs.program.is_word.Goals as goal

pub returns : goal.returns
returns c =
    let decides = bytes_eq-Decides c.as_str.result.now c.args.wanted.now in (
      λ yes_it_is. let e : bytes_eq c.as_str.result.now c.args.wanted.now ≡ true = sym c.eq.ensures ∙ yes_it_is in sym c.as_str.ensures.value ∙ decides.0 e,
      λ asked. c.eq.ensures ∙ decides.1 (c.as_str.ensures.value ∙ asked),
    )
