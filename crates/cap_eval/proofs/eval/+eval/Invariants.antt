use Rattle.std.proofs.Common.{◌+◌, ◌*◌}
use Rattle.cap_ops.specs.Arrows.{arguments}
use Rattle.cap_steps.specs.Slots.{slots}
use Rattle.cap_board.specs.Call.{depth}
use Rattle.cap_board.proofs.LoopSays.{LoopSays}
use Rattle.cap_eval.proofs.eval.+eval.Given as goal

abbrev pub decreases-value_of_key : goal.decreases-value_of_key
decreases-value_of_key g l = 3 * depth ((g.B.Board.state l.board.now).plan) l.key.now.op.0 + 2

abbrev pub decreases-run_rule : goal.decreases-run_rule
decreases-run_rule g l = 3 * depth ((g.B.Board.state l.board.now).plan) l.rule.now.cost.head.0 + 1

abbrev pub decreases-run_step : goal.decreases-run_step
decreases-run_step g l = 3 * depth ((g.B.Board.state l.board.now).plan) l.head.0

abbrev pub invariant-run_rule-loop-step : goal.invariant-run_rule-loop-step
invariant-run_rule-loop-step g l = g.B.Board.holds l.board × g.B.Board.onward l.initial.board l.board × LoopSays (g.C.Offer.offered l.offer) l.rule (arguments l.args) (g.B.Board.state l.initial.board) (g.B.Objects.told l.initial.board) l.step-index (slots l.env.items) (g.B.Board.state l.board) (g.B.Objects.told l.board)
