-- Lemmas on the bytes that a sink tells.
use Rattle.std.proofs.Common.{◌≡◌, ℕ, ◌+◌, List, [], ◌++◌, take, drop, Option, Some, None, sym, ap, ◌∙◌, append_assoc, append-nil, take-append-drop}
use Rattle.std.proofs.Common.{◌-◌, ◌≤◌, length, length-drop, length-take, arith}
use Rattle.std.proofs.lemmas.List.{take_all}
use Rattle.std.proofs.Math.Seq.{take-add}
use Rattle.cap_io.specs.Writing.{Adds, AddsFront}

pub Adds-nil : (a : Option (List ℕ)) → Adds a a []
Adds-nil None = tt
Adds-nil (Some xs) = sym (append-nil xs)

pub Adds-trans : (a b c : Option (List ℕ)) (bs cs : List ℕ) → Adds a b bs → Adds b c cs → Adds a c (bs ++ cs)
Adds-trans None None None bs cs p q = tt
Adds-trans None None (Some z) bs cs p q = absurd q
Adds-trans None (Some y) c bs cs p q = absurd p
Adds-trans (Some x) None None bs cs p q = tt
Adds-trans (Some x) None (Some z) bs cs p q = absurd q
Adds-trans (Some x) (Some y) None bs cs p q = tt
Adds-trans (Some x) (Some y) (Some z) bs cs p q = q ∙ ap (λ l. l ++ cs) p ∙ append_assoc x bs cs

-- the first n bytes were added, and then k of those from n on
pub Adds-take_more : (a b c : Option (List ℕ)) (bytes : List ℕ) (n k : ℕ) → Adds a b (take n bytes) → Adds b c (take k (take (length bytes - n) (drop n bytes))) → Adds a c (take (n + k) bytes)
Adds-take_more a b c bytes n k p q =
    let short : length (drop n bytes) ≤ length bytes - n = omega (arith, length-drop n bytes) in
    let whole : take (length bytes - n) (drop n bytes) ≡ drop n bytes = take_all (length bytes - n) (drop n bytes) short in
    rw (take-add n k bytes) (Adds-trans a b c (take n bytes) (take k (drop n bytes)) p (rw whole at q))

-- the first n bytes were added, and after that nothing
pub AddsFront-take : (a b c : Option (List ℕ)) (bytes : List ℕ) (n : ℕ) → Adds a b (take n bytes) → c ≡ b → AddsFront a c bytes
AddsFront-take a b c bytes n p same = record {
  front = take n bytes;
  rest = drop n bytes;
  parts = sym (take-append-drop n bytes);
  added = rw same p;
}

-- from place n on there are no more bytes than are left
pub within_more : (n k : ℕ) (bytes : List ℕ) → n ≤ length bytes → k ≤ length (take (length bytes - n) (drop n bytes)) → n + k ≤ length bytes
within_more n k bytes p q = omega (arith, length-take (length bytes - n) (drop n bytes), length-drop n bytes)
