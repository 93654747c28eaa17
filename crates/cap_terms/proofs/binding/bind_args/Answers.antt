use Rattle.std.proofs.Common.{sym, ◌∙◌, arith}
use Rattle.cap_terms.proofs.Loops.{args-unknown, args-refused, place-there, place-missing}
use Rattle.cap_terms.proofs.binding.bind_args.Goals as goal

pub returns-in_err-shape : goal.returns-in_err-shape
returns-in_err-shape c = λ full ss kn wa le.
    c.from_residual.ensures ∙ sym (c.loop-i.invariant full ss kn wa le ∙ args-unknown full c.loop-i.bindings ss c.args.args.now c.loop-i.i _ (omega arith) le (c.in_err-shape.ensures full kn))

pub returns-in_err-place : goal.returns-in_err-place
returns-in_err-place c = λ full ss kn wa le. absurd (place-missing c.args.wanted ss c.loop-i.i wa (omega arith) (omega arith) c.in_err-place.was)

pub returns-in_err-bindings : goal.returns-in_err-bindings
returns-in_err-bindings c = λ full ss kn wa le.
    c.from_residual-in_err-bindings.ensures
    ∙ sym (c.loop-i.invariant full ss kn wa le
    ∙ args-refused full c.loop-i.bindings ss c.args.args.now c.loop-i.i _ c.in_ok-place.place c.in_ok-shape.shape (place-there c.args.wanted ss c.loop-i.i wa (omega arith) ∙ c.in_ok-place.was) le (c.in_ok-shape.ensures full kn) c.in_err-bindings.ensures)
