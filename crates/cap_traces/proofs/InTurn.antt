-- Blocks of sessions that count upwards do not fall.
use Rattle.std.proofs.Common.{◌≡◌, ℕ, zero, suc, ◌+◌, ◌<◌, ◌≤◌, List, [], ◌∷◌, ◌++◌, length, get_or, map, sym, subst, arith}
use Rattle.std.specs.List.{All}
use Rattle.std.specs.List.Sorted.{IsNonDecreasing}
use Rattle.std.proofs.lemmas.List.Elements.{All-head, All-tail}
use Rattle.std.proofs.lemmas.List.Sorted.{IsNonDecreasingBy-from_all_adjacent}
use Rattle.cap_history.specs.declared.entries.Entry.{Entry}
use Rattle.cap_report.specs.declared.report.Trace.{Trace}
use Rattle.cap_accounts.specs.Accounts.{of_category}
use Rattle.cap_traces.proofs.Sharing.{together, AreApart, HasNumber, block}

-- from a number on, none is less than the one before it
abbrev Rises : ℕ → List ℕ → Type 0
Rises n [] = Unit {0}
Rises n (x ∷ xs) = (n ≤ x) × Rises x xs

rises-lower : (m n : ℕ) (xs : List ℕ) → n ≤ m → Rises m xs → Rises n xs
rises-lower m n [] le r = tt
rises-lower m n (x ∷ xs) le r = (omega (arith, le, r.0), r.1)

adjacent : (n : ℕ) (xs : List ℕ) → Rises n xs → (k d : ℕ) → k + 1 < length xs → get_or xs k d ≤ get_or xs (k + 1) d
adjacent n [] r k d lt = absurd (omega (arith, lt))
adjacent n (x ∷ []) r k d lt = absurd (omega (arith, lt))
adjacent n (x ∷ y ∷ xs) r zero d lt = r.1.0
adjacent n (x ∷ y ∷ xs) r (suc k) d lt =
    let next : suc (k + 1) ≡ suc k + 1 = omega arith in
    subst (λ i. get_or (y ∷ xs) k d ≤ get_or (x ∷ y ∷ xs) i d) next (adjacent x (y ∷ xs) r.1 k d (omega (arith, lt)))

non-decreasing : (n : ℕ) (xs : List ℕ) → Rises n xs → IsNonDecreasing xs
non-decreasing n xs r = IsNonDecreasingBy-from_all_adjacent (λ x. x) xs (adjacent n xs r)

-- the sessions' numbers along a history
abbrev pub numbers : {O M : Type 0} → List (Entry O M) → List ℕ
numbers entries = map (λ e. e.session.0) entries

module _ {O M : Type 0} where
  rises-block : (n : ℕ) (xs ys : List (Entry O M)) → All (HasNumber n) xs → Rises n (numbers ys) → Rises n (numbers (xs ++ ys))
  rises-block n [] ys h r = r
  rises-block n (x ∷ xs) ys h r =
      let same : n ≡ x.session.0 = sym (All-head (HasNumber n) x xs h) in
      (omega (arith, same), subst (λ k. Rises k (numbers (xs ++ ys))) same (rises-block n xs ys (All-tail (HasNumber n) x xs h) r))

  rises-together : (n c : ℕ) (ts : List (Trace O M)) → AreApart n ts → Rises n (numbers (together c ts))
  rises-together n c [] a = tt
  rises-together n c (t ∷ ts) (number, own, rest) =
      rises-block n (of_category c t.events) (together c ts) (block n c t number own) (rises-lower (suc n) n (numbers (together c ts)) (omega arith) (rises-together (suc n) c ts rest))

  pub in-turn : (n c : ℕ) (ts : List (Trace O M)) → AreApart n ts → IsNonDecreasing (numbers (together c ts))
  in-turn n c ts a = non-decreasing n (numbers (together c ts)) (rises-together n c ts a)
