use Rattle.std.proofs.Common.{arith}
use Rattle.cap_ops.proofs.Letters.{few_letters}
use Rattle.cap_terms.proofs.Loops.{no-operation, wrong-number}
use Rattle.cap_terms.proofs.shapes.call_shape.Goals as goal
use Rattle.cap_terms.proofs.shapes.call_shape.Goals.{then-op-lt1-via-then-op-lt1, then-op-lt1-via-else-op-lt1+then-op-gt44, then-op-lt1-via-else-op-lt1+else-op-gt44+then-args-arity}

pub bind_args-requires : goal.bind_args-requires
bind_args-requires c = omega (arith, (few_letters c.args.op.0).2)

pub returns-then-op-lt1 : goal.returns-then-op-lt1
returns-then-op-lt1 c = λ full kn. elim c.then-op-lt1.branch [
  | then-op-lt1-via-then-op-lt1 w ↦ no-operation full c.args.step c.args.op.0 c.args.args.now (λ h. let low = h.0 in omega arith)
  | then-op-lt1-via-else-op-lt1+then-op-gt44 w ↦ no-operation full c.args.step c.args.op.0 c.args.args.now (λ h. let high = h.1 in omega arith)
  | then-op-lt1-via-else-op-lt1+else-op-gt44+then-args-arity w ↦ wrong-number full c.args.step c.args.op.0 c.args.args.now (λ e. omega arith)
]
