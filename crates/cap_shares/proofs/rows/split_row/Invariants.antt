use Rattle.std.proofs.Common.{◌≡◌, ◌++◌, map, take, drop}
use Rattle.cap_shares.specs.Shares.{fewer, given}
use Rattle.cap_shares.proofs.rows.split_row.Given as goal

-- those that came have given a share away, and the row has a seat of each
abbrev pub invariant-categories : goal.invariant-categories
invariant-categories l = (l.categories ≡ map fewer (take l.category-index l.fn.categories) ++ drop l.category-index l.fn.categories) × (l.row.items ≡ map given (take l.category-index l.fn.categories))
