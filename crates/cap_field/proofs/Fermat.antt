-- Laws of the primes of the table, each by a computation over the table.
use Rattle.std.proofs.Common.{◌≡◌, ℕ, suc, ◌+◌, ◌-◌, ◌*◌, ◌/◌, ◌%◌, ◌^◌, ◌<◌, ◌≤◌, Bool, true, ◌&&◌, ◌||◌, List, [], ◌∷◌, refl, sym, ap, ◌∙◌, eqb, leb, arith, ⊎_elim, mul_assoc}
use Rattle.std.specs.List.{list_any, list_all}
use Rattle.std.proofs.lemmas.Bool.{and_parts, or_cases, eqb-true, leb-true, agree_below, agree_below_at, false≢true}
use Rattle.std.proofs.lemmas.Nat.{mul-mod_first, mul-mod_second, pow-mod, mul-pow, pow-add}
use Rattle.std.proofs.Math.Nat.{mod-lt, mod-eq_of_lt, div-add-mod, pow-succ', pow-zero, mul-one}
use Rattle.cap_field.specs.Residue.{is_tabled, primes}

-- what a test finds of each number of a list holds of each that is in it
pub passes_from_any : (f : ℕ → Bool) (ks : List ℕ) (p : ℕ) → list_all f ks ≡ true → list_any (λ q. eqb q p) ks ≡ true → f p ≡ true
passes_from_any f [] p a h = absurd (false≢true h)
passes_from_any f (k ∷ ks) p a h =
    let parts = and_parts (f k) (list_all f ks) a in
    ⊎_elim (λ e. ap f (sym (eqb-true k p e)) ∙ parts.0) (λ r. passes_from_any f ks p parts.1 r)
    (or_cases (eqb k p) (list_any (λ q. eqb q p) ks) h)

abbrev in_range : ℕ → Bool
in_range p = leb 2 p && leb p 251

pub tabled_range : (p : ℕ) → is_tabled p ≡ true → (2 ≤ p) × (p ≤ 251)
tabled_range p h =
    let parts = and_parts (leb 2 p) (leb p 251) (passes_from_any in_range primes p refl h) in
    (leb-true 2 p parts.0, leb-true p 251 parts.1)

-- whether the power p - 1 of a is 1, or a is 0
abbrev fermat_at : ℕ → ℕ → Bool
fermat_at p a = eqb a 0 || eqb ((a ^ (p - 1)) % p) 1

abbrev fermat_all : ℕ → Bool
fermat_all p = agree_below (fermat_at p) (λ _. true) p

fermat_checked : list_all fermat_all primes ≡ true
fermat_checked = refl

pub fermat : (p a : ℕ) → is_tabled p ≡ true → 0 < a → a < p → (a ^ (p - 1)) % p ≡ 1
fermat p a t pos below =
    let all = passes_from_any fermat_all primes p fermat_checked t in
    let at = agree_below_at (fermat_at p) (λ _. true) p a all below in
    ⊎_elim (λ z. absurd (let e : a ≡ 0 = eqb-true a 0 z in omega arith)) (λ e. eqb-true ((a ^ (p - 1)) % p) 1 e)
    (or_cases (eqb a 0) (eqb ((a ^ (p - 1)) % p) 1) at)

-- squaring under the remainder
square : (p r b h : ℕ) → (r * ((b * b) % p) ^ h) % p ≡ (r * b ^ (h + h)) % p
square p r b h =
    sym (mul-mod_second r (((b * b) % p) ^ h) p)
    ∙ ap (λ y. (r * y) % p) (pow-mod (b * b) h p)
    ∙ mul-mod_second r ((b * b) ^ h) p
    ∙ ap (λ y. (r * y) % p) (mul-pow b b h ∙ sym (pow-add b h h))

-- the step of the power: an even exponent, and an odd one
pub power-even : (p r b n : ℕ) → n % 2 ≡ 0 → (r * ((b * b) % p) ^ (n / 2)) % p ≡ (r * b ^ n) % p
power-even p r b n even =
    let e : n / 2 + n / 2 ≡ n = omega (arith, div-add-mod n 2) in
    square p r b (n / 2) ∙ ap (λ k. (r * b ^ k) % p) e

pub power-odd : (p r b n : ℕ) → n % 2 ≡ 1 → (((r * b) % p) * ((b * b) % p) ^ (n / 2)) % p ≡ (r * b ^ n) % p
power-odd p r b n odd =
    let e : suc (n / 2 + n / 2) ≡ n = omega (arith, div-add-mod n 2) in
    mul-mod_first (r * b) (((b * b) % p) ^ (n / 2)) p
    ∙ square p (r * b) b (n / 2)
    ∙ ap (λ y. y % p) (mul_assoc r b (b ^ (n / 2 + n / 2)))
    ∙ ap (λ y. (r * y) % p) (sym (pow-succ' b (n / 2 + n / 2)) ∙ ap (λ k. b ^ k) e)

pub inverse_from_power : (p a r b n : ℕ) → is_tabled p ≡ true → 0 < a → a < p → n ≤ 0 → (r * b ^ n) % p ≡ (a ^ (p - 2)) % p → (a * r) % p ≡ 1
inverse_from_power p a r b n t pos below done h =
    let none : n ≡ 0 = omega arith in
    let e : suc (p - 2) ≡ p - 1 = omega (arith, (tabled_range p t).0) in
    let s : r * b ^ n ≡ r = ap (λ k. r * b ^ k) none ∙ ap (λ y. r * y) (pow-zero b) ∙ mul-one r in
    sym (mul-mod_second a r p)
    ∙ ap (λ y. (a * (y % p)) % p) (sym s)
    ∙ ap (λ y. (a * y) % p) h
    ∙ mul-mod_second a (a ^ (p - 2)) p
    ∙ ap (λ y. y % p) (sym (pow-succ' a (p - 2)) ∙ ap (λ k. a ^ k) e)
    ∙ fermat p a t pos below

-- each residue but 0 has an inverse
pub tabled_inverse : (p a : ℕ) → is_tabled p ≡ true → 0 < a → a < p → (b : ℕ) × (b < p) × ((a * b) % p ≡ 1)
tabled_inverse p a t pos below =
    let some : 0 < p = omega arith in
    (a ^ (p - 2) % p, mod-lt (a ^ (p - 2)) some, inverse_from_power p a (a ^ (p - 2) % p) 1 0 t pos below (omega arith) (ap (λ y. y % p) (mul-one (a ^ (p - 2) % p)) ∙ mod-eq_of_lt (mod-lt (a ^ (p - 2)) some)))
