use Rattle.std.proofs.Common.{rules, arith, ◌≡◌, get_or, None}
use Rattle.cap_seat.specs.Seats.{told_among}
use Rattle.cap_seat.proofs.Chunks.{found-here, not-here}
use Rattle.cap_seat.proofs.known.object_among.Goals as goal

pub returns-in-Some : goal.returns-in-Some
returns-in-Some g c =
    let chunk = c.as_slice.result.now in
    let is : chunk ≡ get_or c.args.known.now c.loop-i.i chunk = search rules in
    found-here c.args.known.now c.loop-i.i chunk c.args.h (omega arith) is c.loop-i.invariant c.in-Some.object.now c.in-Some.ensures

pub loop-i-preserved : goal.loop-i-preserved
loop-i-preserved g c =
    let chunk = c.as_slice.result.now in
    let is : chunk ≡ get_or c.args.known.now c.loop-i.i chunk = search rules in
    let none : None ≡ told_among chunk c.args.h = search rules in
    not-here c.args.known.now c.loop-i.i chunk c.args.h (omega arith) is c.loop-i.invariant none
