use Rattle.std.proofs.Common.{◌≤◌, length, sym, ◌∙◌, refl, arith, None, inl, inr}
use Rattle.std.proofs.lemmas.List.{get_or_past}
use Rattle.cap_ops.proofs.Places.{none≢some}
use Rattle.cap_list_board.proofs.InLists.{below-or-past}
use Rattle.cap_list_board.proofs.offered.all_offered.Goals as goal

pub returns : goal.returns
returns g c = (
  λ t op n is. elim (below-or-past c.args.weights.now op) [
    | inl h ↦ c.loop-op.invariant op n (let last : length c.args.weights.now ≤ c.loop-op.op = omega arith in omega (arith, h, last)) is
    | inr h ↦ absurd (none≢some (sym (get_or_past c.args.weights.now op None h) ∙ is))
  ],
  λ a. refl,
)
