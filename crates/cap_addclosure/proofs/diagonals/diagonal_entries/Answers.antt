use Rattle.std.proofs.Common.{◌≡◌, ◌*◌, length, ◌∙◌, arith}
use Rattle.cap_addclosure.proofs.Built.{entry-next, all-entries}
use Rattle.cap_addclosure.proofs.Units.{diagonal_piece}
use Rattle.cap_addclosure.proofs.diagonals.diagonal_entries.Goals as goal

pub loop-k-preserved : goal.loop-k-preserved
loop-k-preserved g c =
    let T = g.T.Table.table c.args.table.now in
    let a = c.args.a.now in
    let b = c.args.b.now in
    c.in_ok-push.ensures.items
    ∙ entry-next a b (diagonal_piece T a b c.args.row c.args.col) c.loop-k.k c.loop-k.entries.items c.in_ok-entry.entry c.loop-k.invariant
    c.in_ok-entry.ensures

pub returns : goal.returns
returns g c =
    let T = g.T.Table.table c.args.table.now in
    let a = c.args.a.now in
    let b = c.args.b.now in
    let done : c.loop-k.k ≡ length a * length b = omega (arith, c.loop-k-test.false, c.loop-k.auto.k-end) in
    all-entries a b (diagonal_piece T a b c.args.row c.args.col) c.loop-k.k c.loop-k.entries.items c.loop-k.invariant done
