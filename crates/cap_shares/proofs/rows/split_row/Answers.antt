use Rattle.cap_shares.specs.Shares.{fewer, given}
use Rattle.cap_shares.proofs.Splitting.{changes-by, grows-by}
use Rattle.cap_shares.proofs.rows.split_row.Goals as goal

pub categories-preserved : goal.categories-preserved
categories-preserved c =
    let v = c.categories.invariant in
    let all = c.args.categories.now in
    let now = c.categories.categories in
    let i = c.categories.category-index in
    let k = c.category-item.result in
    let h = c.categories-test.true in
    let at = c.category-item.is in (
      changes-by fewer all now i k c.split.new.self h v.0 at c.split.ensures.rest,
      grows-by fewer given all now i k c.categories.row.items c.push.new.self.items c.split.result h v.0 at v.1 c.split.ensures.seat c.in_ok-push.ensures.items,
    )
