-- Lemmas on what a sink with a fixed space keeps.
use Rattle.std.proofs.Common.{◌≡◌, ℕ, ◌+◌, ◌-◌, ◌<◌, ◌≤◌, min, Bool, true, false, ◌||◌, List, ◌++◌, take, length, arith, nat_lt, refl, ap, ◌∙◌}
use Rattle.std.proofs.lemmas.Bool.Decides.{nat_tests}
use Rattle.std.proofs.lemmas.List.{take_min}
use Rattle.cap_io.specs.Sure.{Spool, spooled, sure_space}

-- as many bytes are kept as there are and as there is room for
kept_of : (bytes : List ℕ) (room n : ℕ) → n ≡ min (length bytes) room → take n bytes ≡ take room bytes
kept_of bytes room n count =
    let same : n ≡ min room (length bytes) = omega arith in
    ap (λ k. take k bytes) same ∙ take_min room bytes

or_true : (b : Bool) → b || true ≡ true
or_true true = refl
or_true false = refl

or_false : (b : Bool) → b || false ≡ b
or_false true = refl
or_false false = refl

-- fewer bytes than there are were kept
pub spooled-part : (s : Spool) (bytes : List ℕ) (n : ℕ) → length s.kept ≤ sure_space → n ≡ min (length bytes) (sure_space - length s.kept) → n < length bytes
    → record { kept = s.kept ++ take n bytes; lost = true } ≡ spooled s bytes
spooled-part s bytes n within count part =
    let over : nat_lt sure_space (length s.kept + length bytes) ≡ true = grind (arith, nat_tests) in
    rw (kept_of bytes (sure_space - length s.kept) n count, over, or_true s.lost)

-- all bytes were kept
pub spooled-whole : (s : Spool) (bytes : List ℕ) (n : ℕ) → length s.kept ≤ sure_space → n ≡ min (length bytes) (sure_space - length s.kept) → length bytes ≤ n
    → record { kept = s.kept ++ take n bytes; lost = s.lost } ≡ spooled s bytes
spooled-whole s bytes n within count whole =
    let under : nat_lt sure_space (length s.kept + length bytes) ≡ false = grind (arith, nat_tests) in
    rw (kept_of bytes (sure_space - length s.kept) n count, under, or_false s.lost)
