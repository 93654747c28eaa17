use Rattle.std.proofs.Common.{◌∙◌, arith}
use Rattle.cap_ops.specs.Ends.{profile_of}
use Rattle.cap_ops.proofs.Letters.{few_letters}
use Rattle.cap_terms.proofs.Loops.{parameters-none, parameters-more, parameters-all}
use Rattle.cap_terms.proofs.check.known_parameters.Goals as goal
use Rattle.cap_terms.proofs.check.known_parameters.Goals.{in-None, in-Some}

pub loop-place-preserved : goal.loop-place-preserved
loop-place-preserved c = (
  c.operation_ends.ensures.args,
  elim c.match-place.branch [
    | in-None w ↦ w.known-is ∙ parameters-none c.operation_ends.result.args (profile_of c.args.head.0).arguments c.loop-place.place-index c.loop-place.known c.operation_ends.ensures.args (omega arith) w.in-None.is c.loop-place.invariant.1
    | in-Some w ↦ parameters-more c.operation_ends.result.args (profile_of c.args.head.0).arguments c.loop-place.place-index c.loop-place.known c.match-place.known w.in-Some.shape w.given_shape.result
        c.operation_ends.ensures.args (omega arith) (few_letters c.args.head.0).2 w.in-Some.is w.given_shape.ensures (w.known-is ∙ w.push.ensures) c.loop-place.invariant.1
  ],
)

pub returns : goal.returns
returns c = parameters-all (profile_of c.args.head.0).arguments c.loop-place.place-index c.loop-place.known c.loop-place-test.false (few_letters c.args.head.0).2 c.loop-place.invariant.1
