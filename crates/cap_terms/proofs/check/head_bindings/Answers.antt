use Rattle.std.proofs.Common.{arith, length-take}
use Rattle.cap_ops.specs.Ends.{profile_of}
use Rattle.cap_ops.proofs.Letters.{few_letters}
use Rattle.cap_terms.specs.Checker.{first_variables}
use Rattle.cap_terms.proofs.check.head_bindings.Goals as goal

pub slice_bounds-vars-end : goal.slice_bounds-vars-end
slice_bounds-vars-end c = omega (arith, (few_letters c.args.head.0).2, c.requires.number)

pub slice_bounds-bind_args-end : goal.slice_bounds-bind_args-end
slice_bounds-bind_args-end c = omega (arith, (few_letters c.args.head.0).2, c.requires.number, length-take c.args.params first_variables)

pub returns : goal.returns
returns c = λ full kn. c.bind_args.ensures full (profile_of c.args.head.0).arguments kn c.operation_ends.ensures.args (omega (arith, (few_letters c.args.head.0).2, c.requires.number, length-take c.args.params first_variables))
