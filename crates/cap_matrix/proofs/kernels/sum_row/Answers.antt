use Rattle.std.proofs.Common.{◌+◌, ◌*◌, ◌<◌, get_or, arith}
use Rattle.cap_matrix.proofs.Writes.{sum_room}
use Rattle.cap_matrix.proofs.kernels.sum_row.Goals as goal

pub add_multiple-requires-clause-room : goal.add_multiple-requires-clause-room
add_multiple-requires-clause-room c = λ j lt.
    let below : j < c.args.cols = omega arith in
    let e = c.loop-k.invariant j below in
    let r = sum_room c.args.inner c.loop-k.k (λ q. get_or c.args.a.now (c.args.row * c.args.inner + q) 0) (λ q. get_or c.args.b.now (q * c.args.cols + j) 0)
    c.loop-k-test.true c.requires.short (λ q. c.requires.left_small (c.args.row * c.args.inner + q)) (λ q. c.requires.right_small (q * c.args.cols + j)) in
    omega (arith, e, r)
