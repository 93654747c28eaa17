use Rattle.std.proofs.Common.{◌≡◌}
use Rattle.cap_kind_tests.proofs.vec.morphism.Given as goal

abbrev pub invariant-loop-i : goal.invariant-loop-i
invariant-loop-i g l = record { rows : l.m.row_count ≡ l.rows; columns : l.m.column_count ≡ l.cols; prime : l.m.prime ≡ l.field }

abbrev pub invariant-loop-j : goal.invariant-loop-j
invariant-loop-j g l = record { rows : l.m.row_count ≡ l.rows; columns : l.m.column_count ≡ l.cols; prime : l.m.prime ≡ l.field }
