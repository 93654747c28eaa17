use Rattle.std.proofs.Common.{◌≡◌, ◌++◌, take}
use Rattle.cap_session.proofs.answers.push_tables.Given as goal

abbrev pub invariant-tables : goal.invariant-tables
invariant-tables l = l.copies ≡ l.fn.copies ++ take l.table-index l.tables
