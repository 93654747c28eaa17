-- Marks that fit a text: each list of the language has as many symbols at least.
use Rattle.std.proofs.Common.{refl, ℕ, suc, ◌≤◌, List, [], ◌∷◌, ◌++◌, length, ap, sym, subst, append_assoc, arith, inl, inr}
use Rattle.cap_reading.specs.Languages.{item, no_list, ◌·◌, each, some_of}
use Rattle.cap_grammar.specs.declared.symbol.Symbol.{Symbol}
use Rattle.cap_grammar.specs.Grammar.{number}
use Rattle.cap_block_faults.specs.Marks.{Mark, each_from}
use Rattle.cap_block_faults.specs.Marks as marks
use Rattle.cap_sound.proofs.Lengths.{length_append}

pub record Fits (ms : List Mark) (p : List Symbol → Type 0) : Type 0 where
  pub holds : (l : List Symbol) → p l → length ms ≤ length l

-- no empty list is in the language
pub record Some1 (p : List Symbol → Type 0) : Type 0 where
  pub holds : (l : List Symbol) → p l → 1 ≤ length l

pub item_one : {s : Symbol} → Some1 (item s)
item_one = record { holds = λ l h. let e = ap length h in omega (arith, e) }

number_some : (n : ℕ) (l : List Symbol) → number n l → 1 ≤ length l
number_some n l (inl h) = let e = ap length h in omega (arith, e)
number_some n l (inr h) = let e = ap length h.1 in omega (arith, e)

pub number_one : {n : ℕ} → Some1 (number n)
number_one {n = n} = record { holds = number_some n }

pub none : {p : List Symbol → Type 0} → Fits [] p
none = record { holds = λ l h. omega arith }

pub never : {ms : List Mark} → Fits ms no_list
never = record { holds = λ l h. absurd h }

pub one : {m : Mark} {p : List Symbol → Type 0} → Some1 p → Fits (m ∷ []) p
one h = record { holds = λ l t. let a = h.holds l t in omega (arith, a) }

infixr 40 ◌then◌
pub ◌then◌ : {m : Mark} {ms : List Mark} {p q : List Symbol → Type 0} → Some1 p → Fits ms q → Fits (m ∷ ms) (p · q)
h then k = record {
  holds = λ l j.
      let a = h.holds j.front j.first in
      let b = k.holds j.rest j.second in
      let e = ap length j.split in
      let f = length_append j.front j.rest in
      omega (arith, a, b, e, f);
}

pub both : (a b : List Mark) {p q : List Symbol → Type 0} → Fits a p → Fits b q → Fits (a ++ b) (p · q)
both a b h k = record {
  holds = λ l j.
      let x = h.holds j.front j.first in
      let y = k.holds j.rest j.second in
      let e = ap length j.split in
      let f = length_append j.front j.rest in
      let g = length_append a b in
      omega (arith, x, y, e, f, g);
}

-- the marks of the front alone
pub front : {ms : List Mark} {p q : List Symbol → Type 0} → Fits ms p → Fits ms (p · q)
front h = record {
  holds = λ l j.
      let a = h.holds j.front j.first in
      let e = ap length j.split in
      let f = length_append j.front j.rest in
      omega (arith, a, e, f);
}

-- brackets
pub inward : {ms : List Mark} {p q r : List Symbol → Type 0} → Fits ms (p · q · r) → Fits ms ((p · q) · r)
inward h = record {
  holds = λ l j.
      let e = ap length j.split in
      let f = length_append j.front j.rest in
      let g = ap length j.first.split in
      let k = length_append j.first.front j.first.rest in
      let m = length_append j.first.rest j.rest in
      let n = length_append j.first.front (j.first.rest ++ j.rest) in
      let a = h.holds (j.first.front ++ (j.first.rest ++ j.rest)) (record { front = j.first.front; rest = j.first.rest ++ j.rest; split = refl; first = j.first.first; second = record { front = j.first.rest; rest = j.rest; split = refl; first = j.first.second; second = j.second } }) in
      omega (arith, a, e, f, g, k, m, n);
}

pub outward : {ms : List Mark} {p q r : List Symbol → Type 0} → Fits ms ((p · q) · r) → Fits ms (p · q · r)
outward h = record {
  holds = λ l j.
      let e = ap length j.split in
      let f = length_append j.front j.rest in
      let g = ap length j.second.split in
      let k = length_append j.second.front j.second.rest in
      let m = length_append j.front j.second.front in
      let n = length_append (j.front ++ j.second.front) j.second.rest in
      let a = h.holds ((j.front ++ j.second.front) ++ j.second.rest) (record { front = j.front ++ j.second.front; rest = j.second.rest; split = refl; first = record { front = j.front; rest = j.second.front; split = refl; first = j.first; second = j.second.first }; second = j.second.second }) in
      omega (arith, a, e, f, g, k, m, n);
}

pub regrouped : (a b c : List Mark) {p : List Symbol → Type 0} → Fits (a ++ (b ++ c)) p → Fits ((a ++ b) ++ c) p
regrouped a b c {p} h = subst (λ ms. Fits ms p) (sym (append_assoc a b c)) h

-- what each item has, and each item's text
pub each_fits : {A : Type 0} (has : ℕ → A → List Mark) (p : A → List Symbol → Type 0) → ((i : ℕ) (x : A) → Fits (has i x) (p x)) → (i : ℕ) (xs : List A) → Fits (each_from has i xs) (each p xs)
each_fits has p h i [] = none
each_fits has p h i (x ∷ xs) = both (has i x) (each_from has (suc i) xs) (h i x) (each_fits has p h (suc i) xs)

later_fits : {A : Type 0} (has : ℕ → A → List Mark) (p : A → List Symbol → Type 0) → ((i : ℕ) (x : A) → Fits (has (suc i) x) (p x)) → (i : ℕ) (xs : List A) → Fits (each_from has (suc i) xs) (each p xs)
later_fits has p h i [] = none
later_fits has p h i (x ∷ xs) = both (has (suc i) x) (each_from has (suc (suc i)) xs) (h i x) (later_fits has p h (suc i) xs)

pub some_fits : {A : Type 0} (has : ℕ → A → List Mark) (p q : A → List Symbol → Type 0) → ((x : A) → Fits (has 0 x) (p x)) → ((i : ℕ) (x : A) → Fits (has (suc i) x) (q x)) → (xs : List A) → Fits (marks.each has xs) (some_of p q xs)
some_fits has p q h k [] = none
some_fits has p q h k (x ∷ xs) = both (has 0 x) (each_from has 1 xs) (h x) (later_fits has q k 0 xs)
