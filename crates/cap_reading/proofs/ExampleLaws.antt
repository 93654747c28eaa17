-- The example's productions are read as its grammar says: a composition of laws for each.
use Rattle.std.proofs.Common.{◌≡◌, ℕ, List, [], ◌∷◌, Bool, true, false, Option, Some, None, Ok, Err, refl, inl, inr}
use Rattle.std.specs.Prelude.{◌⊎◌}
use Rattle.std.proofs.lemmas.Bool.{eqb-true}
use Rattle.cap_reading.specs.Languages.{◌·◌, maybe, just}
use Rattle.cap_reading.specs.Steps.{many, whole}
use Rattle.cap_reading.specs.Faults.{IsFault}
use Rattle.cap_reading.specs.Lines.{lines, text_of}
use Rattle.cap_reading.proofs.Lined.{Lined, lined_word, lined_valued, lined_end, lined_join, lined_maybe, lined_some, lined_each, fault_place, text_fault}
use Rattle.cap_reading.proofs.Whole.{fault}
use Rattle.cap_reading.specs.Example.{is, byte, digit_of, digit, part, row, line, digit_at, part_at, next_part_at, row_at, line_at, page, page_at, starts_line}
use Rattle.cap_reading.proofs.Law.{Law, Leads, Apart, never, one_of, law_as, apart_only, apart_sym, apart_never}
use Rattle.cap_reading.proofs.Items.{law_one, has, leads_valued}
use Rattle.cap_reading.proofs.Sequences.{law_skip, law_before, law_then, law_mark, law_skip_just, leads_one, leads_first, leads_before, one_begins}
use Rattle.cap_reading.proofs.Choices.{law_optional, law_either, from_or, from_just, leads_just, leads_or}
use Rattle.cap_reading.proofs.Repetitions.{law_some, law_many, leads_some, after_separator}

-- One byte passes the test of a byte.
byte_only : (b t : ℕ) → is b t ≡ true → t ≡ b
byte_only b t h = eqb-true t b h

pub law_digit : Law digit_at digit never
unfolding digit_at
law_digit = law_one digit_of 48 0 refl

-- digit [ "." digit ]
pub law_part : Law part_at part (one_of (is 46) never)
unfolding part_at
law_part = law_then law_digit (law_optional (is 46) (law_skip (is 46) 46 refl law_digit) (leads_one (is 46) digit))

pub law_next_part : Law next_part_at (λ p. byte 44 · part p) (one_of (is 46) never)
unfolding next_part_at
law_next_part = law_skip (is 44) 44 refl law_part

pub next_part_begins : Leads (is 44) (λ p. byte 44 · part p)
next_part_begins = leads_one (is 44) part

pub comma_apart : Apart (is 44) (one_of (is 46) never)
comma_apart = apart_only (one_of (is 46) never) 44 (byte_only 44) refl

-- part { "," part }
pub law_row : Law row_at row (one_of (is 44) (one_of (is 46) never))
unfolding row_at
law_row = law_some (is 44) law_part law_next_part next_part_begins comma_apart comma_apart (after_separator (is 44) (one_of (is 46) never))

row_begins : Leads (has digit_of) row
row_begins = leads_some (has digit_of) part (λ p. byte 44 · part p) (leads_first (has digit_of) digit (maybe (λ n. byte 46 · digit n)) (leads_valued digit_of))

-- "-" ";" | row ";"
rows_line : (ps : List (ℕ × Option ℕ)) (l : List ℕ) → (row ps · byte 59) l → line ps l
rows_line [] l h = absurd h.first
rows_line (p ∷ ps) l h = h

to_line : (ps : List (ℕ × Option ℕ)) (l : List ℕ) → just [] (byte 45 · byte 59) ps l ⊎ (row ps · byte 59) l → line ps l
to_line = from_or line (from_just line (λ l h. h)) rows_line

from_line : (ps : List (ℕ × Option ℕ)) (l : List ℕ) → line ps l → just [] (byte 45 · byte 59) ps l ⊎ (row ps · byte 59) l
from_line [] l h = inl (refl, h)
from_line (p ∷ ps) l h = inr h

pub law_line : Law line_at line never
unfolding line_at
law_line =
    law_as line to_line from_line
    (law_either (is 45)
    (law_skip_just (is 45) 45 refl (law_mark (is 59) 59 refl []))
    (law_before (is 59) 59 refl (apart_only (one_of (is 44) (one_of (is 46) never)) 59 (byte_only 59) refl) law_row)
    (has digit_of)
    (leads_just (is 45) [] (byte 45 · byte 59) (one_begins (is 45) (byte 59)))
    (leads_before (has digit_of) row (byte 59) row_begins)
    (apart_sym (apart_only (has digit_of) 45 (byte_only 45) refl)))

pub line_begins : Leads starts_line line
line_begins ps l h = leads_or (is 45) (has digit_of) (just [] (byte 45 · byte 59)) (λ ps. row ps · byte 59) (leads_just (is 45) [] (byte 45 · byte 59) (one_begins (is 45) (byte 59))) (leads_before (has digit_of) row (byte 59) row_begins) ps l (from_line ps l h)

-- { line }
pub law_page : Law page_at page (one_of starts_line never)
unfolding page_at
law_page = law_many starts_line law_line line_begins (apart_never starts_line)

-- A ";" ends a line: a page with empty lines, or without its last ";", has the faults of its lines.
lined_byte : (a : ℕ) → is 59 a ≡ false → (b : Bool) → Lined (is 59) b false (byte a)
lined_byte a h b = lined_word b (apart_only (is 59) a (byte_only a) h)

lined_digit : (b : Bool) (n : ℕ) → Lined (is 59) b false (digit n)
lined_digit b n = lined_valued b digit_of (apart_sym (apart_only (has digit_of) 59 (byte_only 59) refl)) n

lined_part : (b : Bool) (x : ℕ × Option ℕ) → Lined (is 59) b false (part x)
lined_part b x = lined_join (lined_digit b x.0) (lined_maybe (λ n. lined_join (lined_byte 46 refl false) (lined_digit false n)) x.1)

lined_line : (ps : List (ℕ × Option ℕ)) → Lined (is 59) true true (line ps)
lined_line [] = lined_join (lined_byte 45 refl true) (lined_end (is 59))
lined_line (p ∷ ps) = lined_join (lined_some (lined_part true) (λ p. lined_join (lined_byte 44 refl false) (lined_part false p)) (p ∷ ps)) (lined_end (is 59))

pub page_fault : (ts rest : List ℕ) → whole page_at (lines (is 59) 59 ts) ≡ Err rest → IsFault (text_of (is 59) 59 page) ts (fault_place (is 59) 59 ts rest)
page_fault = text_fault law_page (is 59) 59 refl (lined_each lined_line)

-- "7", "o.3" and "-" with their ends.
pub seven : whole line_at (55 ∷ 59 ∷ []) ≡ Ok ((7, None) ∷ [])
unfolding line_at row_at part_at next_part_at digit_at many
seven = refl

pub nought : whole line_at (111 ∷ 46 ∷ 51 ∷ 59 ∷ []) ≡ Ok ((0, Some 3) ∷ [])
unfolding line_at row_at part_at next_part_at digit_at many
nought = refl

-- "1.;" is no line, and its fault is the ";".
reads_none : whole line_at (49 ∷ 46 ∷ 59 ∷ []) ≡ Err (59 ∷ [])
unfolding line_at row_at part_at next_part_at digit_at many
reads_none = refl

pub no_line : IsFault line (49 ∷ 46 ∷ 59 ∷ []) 2
no_line = fault law_line (49 ∷ 46 ∷ 59 ∷ []) (59 ∷ []) reads_none
