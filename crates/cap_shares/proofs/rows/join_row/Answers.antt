use Rattle.std.proofs.Common.{rules, ◌≡◌, length}
use Rattle.cap_shares.specs.Shares.{Joins}
use Rattle.cap_shares.specs.Rows.{Belongs}
use Rattle.cap_shares.proofs.Joining.{joining-start, joining-more, at-last}
use Rattle.cap_shares.proofs.rows.join_row.Goals as goal

pub row-init : goal.row-init
row-init c = joining-start Joins c.args.categories.now c.args.row.items Belongs c.requires

pub join-requires : goal.join-requires
join-requires c =
    let row' = c.pop.new.self.items in
    let i = c.len.result in
    let last : i ≡ length row' = search rules in
    at-last Joins c.args.categories.now c.args.row.items Belongs c.requires c.row.categories c.row.row.items row' c.in-Some.seat i c.index-categories-len.result c.in-Some.ensures.items last c.index-categories-len.is c.row.invariant

pub row-preserved : goal.row-preserved
row-preserved c =
    let row' = c.pop.new.self.items in
    let i = c.len.result in
    let last : i ≡ length row' = search rules in
    joining-more Joins c.args.categories.now c.args.row.items c.row.categories c.row.row.items row' c.in-Some.seat i c.index-categories-len.result c.join.new.self c.in-Some.ensures.items last c.index-categories-len.is c.join.ensures c.row.invariant
