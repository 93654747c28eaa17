use Rattle.std.proofs.Common.{◌*◌, ◌/◌, refl, arith}
use Rattle.cap_field.proofs.Barrett.{quotient_low, quotient_high, reduced_once, reduced_twice}
use Rattle.cap_field.proofs.remainder.reduced.Goals as goal

pub overflow_sub-r : goal.overflow_sub-r
overflow_sub-r c = quotient_low c.args.x c.args.p c.args.m (c.args.x * c.args.m / 65536) c.requires.ratio refl

pub returns-then-r-p : goal.returns-then-r-p
returns-then-r-p c = reduced_once c.args.x c.args.p (c.args.x * c.args.m / 65536) c.requires.low
    (quotient_low c.args.x c.args.p c.args.m (c.args.x * c.args.m / 65536) c.requires.ratio refl) c.if-r-p.true

pub returns-else-r-p : goal.returns-else-r-p
returns-else-r-p c = reduced_twice c.args.x c.args.p (c.args.x * c.args.m / 65536) c.requires.low
    (quotient_low c.args.x c.args.p c.args.m (c.args.x * c.args.m / 65536) c.requires.ratio refl) c.if-r-p.false
    (quotient_high c.args.x c.args.p c.args.m (c.args.x * c.args.m / 65536) c.requires.low (omega arith) c.requires.ratio refl)
