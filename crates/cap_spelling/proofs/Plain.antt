-- Languages of which a list is the plain one: that of each of their lists with `0` for the number 0.
use Rattle.std.proofs.Common.{◌≡◌, ℕ, zero, suc, List, [], ◌∷◌, ◌++◌, map, false, refl, sym, ap, ◌∙◌, inl, inr, arith}
use Rattle.std.specs.Prelude.{◌==◌, if◌then◌else◌}
use Rattle.std.proofs.lemmas.Bool.Decides.{nat_tests}
use Rattle.std.specs.List.{flat_map}
use Rattle.std.proofs.lemmas.List.{map-append}
use Rattle.cap_reading.specs.Languages.{item, nothing, no_list, ◌·◌, each, some_of, separated}
use Rattle.cap_grammar.specs.declared.symbol.Fixed.{Fixed}
use Rattle.cap_grammar.specs.declared.symbol.Symbol.{Symbol}
use Rattle.cap_grammar.specs.declared.symbol.Symbol.TheVariants as symbol
use Rattle.cap_grammar.specs.Grammar.{fixed, name, operation, number}
use Rattle.cap_names.specs.declared.identifiers.OpId.{OpId}
use Rattle.cap_spelling.specs.Spelling.{separated_symbols, number_symbols}
use Rattle.cap_spelling.specs.Again.{plain_zero}

-- where the language has a list, x is in it, and is that list with `0` for the number 0
pub record Plain (p : List Symbol → Type 0) (x : List Symbol) : Type 0 where
  pub found : (l : List Symbol) → p l → p x
  pub same : (l : List Symbol) → p l → x ≡ map plain_zero l

pub plain_fixed : (w : Fixed) → Plain (fixed w) (symbol.Fixed w ∷ [])
plain_fixed w = record { found = λ l h. refl; same = λ l h. ap (map plain_zero) (sym h) }

pub plain_name : (n : List ℕ) → Plain (name n) (symbol.Name n ∷ [])
plain_name n = record { found = λ l h. refl; same = λ l h. ap (map plain_zero) (sym h) }

pub plain_operation : (op : OpId) → Plain (operation op) (symbol.Operation op ∷ [])
plain_operation op = record { found = λ l h. refl; same = λ l h. ap (map plain_zero) (sym h) }

pub plain_nought : Plain (item symbol.Nought) (symbol.Nought ∷ [])
plain_nought = record { found = λ l h. refl; same = λ l h. ap (map plain_zero) (sym h) }

number_same : (n : ℕ) (l : List Symbol) → number n l → number_symbols n ≡ map plain_zero l
number_same zero l (inl h) = ap (map plain_zero) (sym h)
number_same zero l (inr h) = ap (map plain_zero) (sym h.1)
number_same (suc n) l (inl h) = ap (map plain_zero) (sym h)
number_same (suc n) l (inr h) = cc

pub positive : (n : ℕ) → (suc n == 0) ≡ false
positive n = grind (arith, nat_tests)

-- a number other than 0 stays
pub plain_positive : (n : ℕ) → plain_zero (symbol.Number (suc n)) ≡ symbol.Number (suc n)
plain_positive n = ap (λ c. if c then symbol.Nought else symbol.Number (suc n)) (positive n)

number_found : (n : ℕ) → number n (number_symbols n)
number_found zero = inr (refl, refl)
number_found (suc n) = inl (ap (λ c. (if c then symbol.Nought else symbol.Number (suc n)) ∷ []) (positive n))

pub plain_number : (n : ℕ) → Plain (number n) (number_symbols n)
plain_number n = record { found = λ l h. number_found n; same = number_same n }

pub plain_nothing : Plain nothing []
plain_nothing = record { found = λ l h. refl; same = λ l h. ap (map plain_zero) (sym h) }

pub plain_none : (x : List Symbol) → Plain no_list x
plain_none x = record { found = λ l h. absurd h; same = λ l h. absurd h }

pub plain_joined : {p q : List Symbol → Type 0} {x y : List Symbol} → Plain p x → Plain q y → Plain (p · q) (x ++ y)
plain_joined {p} {q} {x} {y} a b = record {
  found = λ l j. record { front = x; rest = y; split = refl; first = a.found j.front j.first; second = b.found j.rest j.second };
  same = λ l j. (λ i. a.same j.front j.first i ++ b.same j.rest j.second i) ∙ sym (map-append plain_zero j.front j.rest) ∙ ap (map plain_zero) (sym j.split);
}

pub plain_each : {A : Type 0} {p : A → List Symbol → Type 0} {f : A → List Symbol} → ((a : A) → Plain (p a) (f a)) → (them : List A) → Plain (each p them) (flat_map f them)
plain_each h [] = plain_nothing
plain_each h (a ∷ them) = plain_joined (h a) (plain_each h them)

pub plain_some : {A : Type 0} {p : A → List Symbol → Type 0} {f : A → List Symbol} → ((a : A) → Plain (p a) (f a)) → (them : List A) → Plain (some_of p p them) (flat_map f them)
plain_some h [] = plain_none []
plain_some h (a ∷ them) = plain_joined (h a) (plain_each h them)

pub plain_separated : {A : Type 0} {p : A → List Symbol → Type 0} {f : A → List Symbol} (w : Fixed) → ((a : A) → Plain (p a) (f a)) → (them : List A) → Plain (separated p (fixed w) them) (separated_symbols f (symbol.Fixed w) them)
plain_separated w h [] = plain_none []
plain_separated {p = p} {f = f} w h (a ∷ them) = plain_joined (h a) (plain_each {p = λ b. fixed w · p b} {f = λ b. symbol.Fixed w ∷ f b} (λ b. plain_joined (plain_fixed w) (h b)) them)
