-- Lists whose numbers do not fall: what stands below a number, at it, and above it.
use Rattle.std.proofs.Common.{◌≡◌, ℕ, zero, suc, ◌<◌, ◌≤◌, Bool, true, false, List, [], ◌∷◌, ◌++◌, length, map, get_or, ltb, cond, refl, sym, ap, ◌∙◌, inl, inr, arith}
use Rattle.std.specs.Prelude.{◌==◌}
use Rattle.std.specs.List.{All, filter}
use Rattle.std.specs.List.Sorted.{IsNonDecreasing}
use Rattle.std.proofs.lemmas.Bool.{lt-ltb, le-ltb, eq-eqb, eqb-true}
use Rattle.std.proofs.lemmas.List.Elements.{All-head, All-tail}
use Rattle.cap_ops.proofs.DerivationsBounds.{lt_or_le}
use Rattle.cap_data.specs.declared.data.ObjData.{ObjData}
use Rattle.cap_data.specs.declared.data.MorData.{MorData}
use Rattle.cap_report.specs.declared.report.History.{History}
use Rattle.cap_report.specs.Histories.{history_of}
use Rattle.cap_commands.specs.Seats.{OfData}
use Rattle.cap_one_report.proofs.Commands.{Histories}

module _ {X : Type 0} where
  filter-yes : (p : X → Bool) (x : X) (xs : List X) → p x ≡ true → filter p (x ∷ xs) ≡ x ∷ filter p xs
  filter-yes p x xs e = ap (λ (t : Bool). cond t (x ∷ filter p xs) (filter p xs)) e

  filter-no : (p : X → Bool) (x : X) (xs : List X) → p x ≡ false → filter p (x ∷ xs) ≡ filter p xs
  filter-no p x xs e = ap (λ (t : Bool). cond t (x ∷ filter p xs) (filter p xs)) e

  cons≢nil : (x : X) (xs : List X) → x ∷ xs ≡ [] → ⊥
  cons≢nil x xs e = cc

  filter-tail : (p : X → Bool) (x : X) (xs : List X) → filter p (x ∷ xs) ≡ [] → filter p xs ≡ []
  filter-tail p x xs e = go (p x) e
    where
      go : (t : Bool) → cond t (x ∷ filter p xs) (filter p xs) ≡ [] → filter p xs ≡ []
      go true e = absurd (cons≢nil x (filter p xs) e)
      go false e = e

not-equal : (m n : ℕ) → (m ≡ n → ⊥) → (m == n) ≡ false
not-equal m n apart = go (m == n) (eqb-true m n)
  where
    go : (t : Bool) → (t ≡ true → m ≡ n) → t ≡ false
    go true h = absurd (apart (h refl))
    go false h = refl

module _ {X : Type 0} (key : X → ℕ) where
  abbrev pub below : ℕ → List X → List X
  below n xs = filter (λ x. ltb (key x) n) xs

  abbrev pub at : ℕ → List X → List X
  at n xs = filter (λ x. key x == n) xs

  abbrev pub above : ℕ → List X → List X
  above n xs = filter (λ x. ltb n (key x)) xs

  -- numbers from k on; numbers that do not fall; numbers below n
  abbrev From : ℕ → List X → Type 0
  From k [] = Unit {0}
  From k (x ∷ xs) = (k ≤ key x) × From k xs

  abbrev pub Rising : List X → Type 0
  Rising [] = Unit {0}
  Rising (x ∷ xs) = From (key x) xs × Rising xs

  abbrev pub Under : ℕ → List X → Type 0
  Under n [] = Unit {0}
  Under n (x ∷ xs) = (key x < n) × Under n xs

  from-less : (j k : ℕ) (xs : List X) → k ≤ j → From j xs → From k xs
  from-less j k [] le f = tt
  from-less j k (x ∷ xs) le f = (let first = f.0 in omega arith, from-less j k xs le f.1)

  none-below : (n : ℕ) (xs : List X) → From n xs → below n xs ≡ []
  none-below n [] f = refl
  none-below n (x ∷ xs) f = filter-no (λ x. ltb (key x) n) x xs (le-ltb (key x) n f.0) ∙ none-below n xs f.1

  none-at : (n : ℕ) (xs : List X) → From (suc n) xs → at n xs ≡ []
  none-at n [] f = refl
  none-at n (x ∷ xs) f = filter-no (λ x. key x == n) x xs (not-equal (key x) n (λ e. let first = f.0 in omega arith)) ∙ none-at n xs f.1

  pub parts : (n : ℕ) (xs : List X) → Rising xs → xs ≡ below n xs ++ (at n xs ++ above n xs)
  parts n [] r = refl
  parts n (x ∷ xs) r =
      let rest = parts n xs r.1 in
      elim (lt_or_le (key x) n) [
        | inl less ↦ (
            let b = filter-yes (λ x. ltb (key x) n) x xs (lt-ltb (key x) n less) in
            let e = filter-no (λ x. key x == n) x xs (not-equal (key x) n (λ q. omega arith)) in
            let a = filter-no (λ x. ltb n (key x)) x xs (le-ltb n (key x) (omega arith)) in
            ap (λ y. x ∷ y) rest ∙ sym (rw (b, e, a) refl))
        | inr more ↦ (
            let none : below n xs ≡ [] = none-below n xs (from-less (key x) n xs more r.0) in
            let b : below n (x ∷ xs) ≡ [] = filter-no (λ x. ltb (key x) n) x xs (le-ltb (key x) n more) ∙ none in
            let rest2 : xs ≡ at n xs ++ above n xs = rest ∙ ap (λ y. y ++ (at n xs ++ above n xs)) none in
            elim (lt_or_le n (key x)) [
              | inl beyond ↦ (
                  let e = none-at n (x ∷ xs) (beyond, from-less (key x) (suc n) xs beyond r.0) in
                  let tail = none-at n xs (from-less (key x) (suc n) xs beyond r.0) in
                  let a = filter-yes (λ x. ltb n (key x)) x xs (lt-ltb n (key x) beyond) in
                  ap (λ y. x ∷ y) (rest2 ∙ ap (λ y. y ++ above n xs) tail) ∙ sym (rw (b, e, a) refl))
              | inr equal ↦ (
                  let e = filter-yes (λ x. key x == n) x xs (eq-eqb (key x) n (omega arith)) in
                  let a = filter-no (λ x. ltb n (key x)) x xs (le-ltb n (key x) equal) in
                  ap (λ y. x ∷ y) rest2 ∙ sym (rw (b, e, a) refl))
            ])
      ]

  pub below-next : (n : ℕ) (xs : List X) → Rising xs → below (suc n) xs ≡ below n xs ++ at n xs
  below-next n [] r = refl
  below-next n (x ∷ xs) r =
      let rest = below-next n xs r.1 in
      elim (lt_or_le (key x) n) [
        | inl less ↦ (
            let s = filter-yes (λ x. ltb (key x) (suc n)) x xs (lt-ltb (key x) (suc n) (omega arith)) in
            let b = filter-yes (λ x. ltb (key x) n) x xs (lt-ltb (key x) n less) in
            let e = filter-no (λ x. key x == n) x xs (not-equal (key x) n (λ q. omega arith)) in
            s ∙ ap (λ y. x ∷ y) rest ∙ sym (rw (b, e) refl))
        | inr more ↦ (
            let none : below n xs ≡ [] = none-below n xs (from-less (key x) n xs more r.0) in
            let b : below n (x ∷ xs) ≡ [] = filter-no (λ x. ltb (key x) n) x xs (le-ltb (key x) n more) ∙ none in
            elim (lt_or_le n (key x)) [
              | inl beyond ↦ (
                  let f : From (suc n) (x ∷ xs) = (beyond, from-less (key x) (suc n) xs beyond r.0) in
                  none-below (suc n) (x ∷ xs) f ∙ sym (rw (b, none-at n (x ∷ xs) f) refl))
              | inr equal ↦ (
                  let s = filter-yes (λ x. ltb (key x) (suc n)) x xs (lt-ltb (key x) (suc n) (omega arith)) in
                  let e = filter-yes (λ x. key x == n) x xs (eq-eqb (key x) n (omega arith)) in
                  s ∙ ap (λ y. x ∷ y) (rest ∙ ap (λ y. y ++ at n xs) none) ∙ sym (rw (b, e) refl))
            ])
      ]

  pub all-below : (n : ℕ) (xs : List X) → Under n xs → below n xs ≡ xs
  all-below n [] u = refl
  all-below n (x ∷ xs) u = filter-yes (λ x. ltb (key x) n) x xs (lt-ltb (key x) n u.0) ∙ ap (λ y. x ∷ y) (all-below n xs u.1)

  pub below-none : (xs : List X) → below 0 xs ≡ []
  below-none [] = refl
  below-none (x ∷ xs) = filter-no (λ x. ltb (key x) 0) x xs (le-ltb (key x) 0 (omega arith)) ∙ below-none xs

  pub none-above : (n N : ℕ) (xs : List X) → Under N xs → ((m : ℕ) → n < m → m < N → at m xs ≡ []) → above n xs ≡ []
  none-above n N [] u h = refl
  none-above n N (x ∷ xs) u h =
      elim (lt_or_le n (key x)) [
        | inl beyond ↦ absurd (cons≢nil x (at (key x) xs) (sym (filter-yes (λ y. key y == key x) x xs (eq-eqb (key x) (key x) refl)) ∙ h (key x) beyond u.0))
        | inr within ↦ filter-no (λ x. ltb n (key x)) x xs (le-ltb n (key x) within) ∙ none-above n N xs u.1 (λ m l k. filter-tail (λ y. key y == m) x xs (h m l k))
      ]

  from-all : (k : ℕ) (xs : List X) → ((j : ℕ) → j < length (map key xs) → k ≤ get_or (map key xs) j 0) → From k xs
  from-all k [] h = tt
  from-all k (x ∷ xs) h = (h 0 (omega arith), from-all k xs (λ j l. h (suc j) (omega arith)))

  pub rising : (xs : List X) → IsNonDecreasing (map key xs) → Rising xs
  rising [] h = tt
  rising (x ∷ xs) h = (from-all (key x) xs (λ j l. h 0 (suc j) 0 (omega arith) (omega arith)), rising xs (λ i j d le lt. h (suc i) (suc j) d (omega arith) (omega arith)))

  pub under : (n : ℕ) (xs : List X) → All (λ x. key x < n) xs → Under n xs
  under n [] a = tt
  under n (x ∷ xs) a = (All-head (λ x. key x < n) x xs a, under n xs (All-tail (λ x. key x < n) x xs a))

-- what holds of each history holds of the history of each number
pub of-each : (P : List OfData → Type 0) → P [] → (H : Histories) → All (λ (h : History ObjData MorData). P h.entries) H → (c : ℕ) → P (history_of H c)
of-each P none [] a c = none
of-each P none (h ∷ H) a zero = All-head (λ (h : History ObjData MorData). P h.entries) h H a
of-each P none (h ∷ H) a (suc c) = of-each P none H (All-tail (λ (h : History ObjData MorData). P h.entries) h H a) c
