use Rattle.std.proofs.Common.{◌≡◌, length, get_or, ap, ◌∙◌, arith}
use Rattle.cap_grammar.specs.declared.symbol.Fixed.TheVariants as word
use Rattle.cap_grammar.specs.Texts.{fixed_text}
use Rattle.cap_symbols.specs.Words.{all_fixed}
use Rattle.cap_symbols.proofs.Fixeds.{index, index_within, at_index}
use Rattle.cap_symbols.proofs.words.fixed_by_text.Goals as goal

pub returns : goal.returns
returns c = λ w same.
    let list : c.all-fixed-items.result.now ≡ all_fixed = c.all-fixed-items.ensures in
    let long : length c.all-fixed-items.result.now ≡ length all_fixed = ap length list in
    let at : get_or c.all-fixed-items.result.now (index w) word.Table ≡ w = ap (λ l. get_or l (index w) word.Table) list ∙ at_index w in
    c.words.invariant (index w) (omega (arith, long, index_within w, c.words-test.false)) (ap fixed_text at ∙ same)
