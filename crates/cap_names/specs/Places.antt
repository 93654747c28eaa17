-- Places of a text as lines and columns.
use Rattle.std.specs.Prelude.{ℕ, ◌+◌, List, length, take, count_by, Bool, ◌==◌}
use Rattle.std.specs.List.{after_last}

abbrev pub ends_line : ℕ → Bool
ends_line b = b == 10

-- the line of a place, from 1: one more than there are LFs before it
abbrev pub line_at : List ℕ → ℕ → ℕ
line_at bs place = count_by ends_line (take place bs) + 1

-- the column of a place, from 1: one more than there are bytes before it behind the last LF, or from the beginning
abbrev pub column_at : List ℕ → ℕ → ℕ
column_at bs place = length (after_last ends_line (take place bs)) + 1
