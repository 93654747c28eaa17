-- Lists of which no more is kept than variables can name.
use Rattle.std.proofs.Common.{◌≡◌, ℕ, zero, suc, ◌+◌, ◌<◌, ◌≤◌, List, [], ◌∷◌, ◌++◌, length, take, set, refl, sym, ap, ◌∙◌, arith, length-append, length-take}
use Rattle.std.specs.Prelude.{None, slice_get}
use Rattle.std.proofs.lemmas.List.{take_more_set, take-append-le}
use Rattle.std.proofs.lemmas.Option.{slice_get_past}
use Rattle.cap_terms.specs.Nameable.{nameable}

pub nameable_is : nameable ≡ 256
unfolding nameable
nameable_is = refl

pub take-enough : {X : Type 0} (n : ℕ) (xs : List X) → length xs ≤ n → take n xs ≡ xs
take-enough zero [] h = refl
take-enough zero (x ∷ xs) h = absurd (omega arith)
take-enough (suc n) [] h = refl
take-enough (suc n) (x ∷ xs) h = ap (λ ys. x ∷ ys) (take-enough n xs (omega arith))

pub take-push : {X : Type 0} (n : ℕ) (xs now : List X) (len : ℕ) (x : X) → take len xs ≡ now → len < n → length xs ≡ n → take (len + 1) (set xs len x) ≡ take n (now ++ x ∷ [])
take-push n xs now len x is inside many =
    take_more_set xs len x (omega arith) ∙ ap (λ ys. ys ++ x ∷ []) is
    ∙ sym (take-enough n (now ++ x ∷ []) (omega (arith, length-append now (x ∷ []), ap length is, length-take len xs)))

pub take-full : {X : Type 0} (n : ℕ) (xs now : List X) (len : ℕ) (x : X) → take len xs ≡ now → n ≤ len → len ≤ n → length xs ≡ n → now ≡ take n (now ++ x ∷ [])
take-full n xs now len x is low high many =
    let long : length now ≡ n = omega (arith, ap length is, length-take len xs) in
    sym (take-append-le n now (x ∷ []) (omega arith) ∙ take-enough n now (omega arith))

pub slice_get-taken : {X : Type 0} (n : ℕ) (full : List X) (i : ℕ) → i < n → slice_get (take n full) i ≡ slice_get full i
slice_get-taken zero full i h = absurd (omega arith)
slice_get-taken (suc n) [] i h = refl
slice_get-taken (suc n) (x ∷ full) zero h = refl
slice_get-taken (suc n) (x ∷ full) (suc i) h = slice_get-taken n full i (omega arith)

pub past_known : {X : Type 0} (n : ℕ) (xs now full : List X) (len i : ℕ) → take len xs ≡ now → now ≡ take n full → len ≤ n → length xs ≡ n → len ≤ i → i < n → None ≡ slice_get full i
past_known n xs now full len i is taken high many past inside =
    let long : length now ≡ len = omega (arith, ap length is, length-take len xs) in
    sym (slice_get_past now i (omega arith)) ∙ ap (λ ys. slice_get ys i) taken ∙ slice_get-taken n full i inside

pub take-push-taken : {X : Type 0} (n : ℕ) (full : List X) (x : X) → take n (take n full ++ x ∷ []) ≡ take n (full ++ x ∷ [])
take-push-taken zero full x = refl
take-push-taken (suc n) [] x = refl
take-push-taken (suc n) (y ∷ full) x = ap (λ ys. y ∷ ys) (take-push-taken n full x)
