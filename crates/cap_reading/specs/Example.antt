-- A small grammar over bytes, written as every grammar on this crate is: a language, a step for each production.
use Rattle.std.specs.Prelude.{ℕ, List, [], ◌∷◌, Bool, true, Option, Some, None, ◌==◌, ◌&&◌, ◌-◌, leb, if◌then◌else◌, is_some}
use Rattle.cap_reading.specs.Languages.{Language, one, valued, ◌·◌, maybe, each, separated}
use Rattle.cap_reading.specs.Faults.{IsFault}
use Rattle.cap_reading.specs.Lines.{text_of}
use Rattle.cap_reading.specs.Steps.{Read, take_one, skip, before, both, either, gives, optional, many, some}

abbrev pub is : ℕ → ℕ → Bool
is b t = t == b

-- a byte: "," is 44, "-" is 45, "." is 46, ";" is 59
abbrev pub byte : ℕ → Language ℕ
byte b = one (is b)

-- "0" to "9", and "o" for 0
abbrev pub digit_of : ℕ → Option ℕ
digit_of t = if t == 111 then Some 0 else (if leb 48 t && leb t 57 then Some (t - 48) else None)

abbrev pub digit : ℕ → Language ℕ
digit n = valued digit_of n

-- part = digit [ "." digit ]
abbrev pub part : ℕ × Option ℕ → Language ℕ
part x = digit x.0 · maybe (λ n. byte 46 · digit n) x.1

-- row = part { "," part }
abbrev pub row : List (ℕ × Option ℕ) → Language ℕ
row ps = separated part (byte 44) ps

-- line = "-" ";" | row ";"
abbrev pub line : List (ℕ × Option ℕ) → Language ℕ
line [] = byte 45 · byte 59
line (p ∷ ps) = row (p ∷ ps) · byte 59

unfoldable pub digit_at : List ℕ → Read ℕ ℕ
digit_at ts = take_one digit_of ts

unfoldable pub part_at : List ℕ → Read ℕ (ℕ × Option ℕ)
part_at ts = both digit_at (optional (is 46) (skip (is 46) digit_at)) ts

unfoldable pub next_part_at : List ℕ → Read ℕ (ℕ × Option ℕ)
next_part_at ts = skip (is 44) part_at ts

unfoldable pub row_at : List ℕ → Read ℕ (List (ℕ × Option ℕ))
row_at ts = some part_at (is 44) next_part_at ts

unfoldable pub line_at : List ℕ → Read ℕ (List (ℕ × Option ℕ))
line_at ts = either (is 45) (skip (is 45) (skip (is 59) (gives []))) (before row_at (is 59)) ts

-- page = { line }
abbrev pub page : List (List (ℕ × Option ℕ)) → Language ℕ
page ls = each line ls

abbrev pub starts_line : ℕ → Bool
starts_line t = if is 45 t then true else is_some (digit_of t)

unfoldable pub page_at : List ℕ → Read ℕ (List (List (ℕ × Option ℕ)))
page_at ts = many starts_line line_at ts

-- the place of a page's first fault in a text, or nothing known
abbrev pub FaultIs : List ℕ → Option ℕ → Type 0
FaultIs ts None = Unit {0}
FaultIs ts (Some n) = IsFault (text_of (is 59) 59 page) ts n
