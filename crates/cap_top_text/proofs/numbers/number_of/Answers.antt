use Rattle.std.proofs.Common.{sym, ◌∙◌, arith}
use Rattle.cap_top_text.specs.Numbers.{is_of, is_object}
use Rattle.cap_top_text.proofs.Counted.{count_within, place_within}
use Rattle.cap_top_text.proofs.numbers.number_of.Goals as goal

pub overflow_add-result : goal.overflow_add-result
overflow_add-result c =
    let few = place_within (is_object c.args.object) (is_of c.args.category) c.args.seen.now c.in-Some.place (sym c.place_of.ensures ∙ c.in-Some.is) in
    omega (arith, few)

pub overflow_add-result-in-None : goal.overflow_add-result-in-None
overflow_add-result-in-None c =
    let few = count_within (is_of c.args.category) c.args.seen.now in
    omega (arith, few, c.count_of.ensures)
