-- The history of a category, by its number.
use Rattle.std.specs.Prelude.{ℕ, List, [], Option, Some, None, slice_get}
use Rattle.cap_history.specs.declared.entries.Entry.{Entry}
use Rattle.cap_report.specs.declared.report.History.{History}

-- the entries of a history that may not be there
abbrev pub entries_or_none : {O M : Type 0} → Option (History O M) → List (Entry O M)
entries_or_none None = []
entries_or_none (Some h) = h.entries

-- the entries of the category with a number; none where there is no such category
abbrev pub history_of : {O M : Type 0} → List (History O M) → ℕ → List (Entry O M)
history_of histories c = entries_or_none (slice_get histories c)
