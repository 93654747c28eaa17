use Rattle.std.proofs.Common.{◌≡◌, ◌+◌, ◌-◌, ◌∙◌, ap, sym, [], Some, arith}
use Rattle.std.specs.Prelude.{slice_get}
use Rattle.std.proofs.lemmas.Option.{get_or_from_slice_get}
use Rattle.cap_names.specs.Operations.{operation_names}
use Rattle.cap_cert.specs.Texts.{operation_word}
use Rattle.cap_cert.proofs.words.operation_word.Goals as goal

pub returns : goal.returns
unfolding operation_word
returns c =
    let same : (c.args.place + 1) - 1 ≡ c.args.place = omega arith in
    let name : slice_get operation_names c.args.place ≡ Some c.op_name.result.now = ap (slice_get operation_names) (sym same) ∙ c.op_name.ensures.name in
    sym (get_or_from_slice_get operation_names c.args.place c.op_name.result.now [] name)
