-- Laws of sums over the numbers below n, over natural numbers and modulo p.
use Rattle.std.proofs.Common.{◌≡◌, ◌≢◌, ℕ, zero, suc, ◌+◌, ◌*◌, ◌%◌, ◌<◌, refl, sym, ap, ◌∙◌, arith, ⊎_elim}
use Rattle.std.proofs.lemmas.Nat.{mul-mod_first, mul-mod_second}
use Rattle.std.proofs.Math.Nat.{add-mod, mul-zero, zero-mul, mul_assoc, zero-add, add-zero}
use Rattle.std.proofs.lemmas.Bool.{cases_eq}
use Rattle.cap_matrix.specs.Grid.{total}

pub total-same : (n : ℕ) (f g : ℕ → ℕ) → ((i : ℕ) → i < n → f i ≡ g i) → total n f ≡ total n g
total-same zero f g h = refl
total-same (suc n) f g h =
    let e = total-same n f g (λ i lt. h i (omega arith)) in
    let d : f n ≡ g n = h n (omega arith) in
    cc

pub total-zeros : (n : ℕ) (f : ℕ → ℕ) → ((i : ℕ) → i < n → f i ≡ 0) → total n f ≡ 0
total-zeros zero f h = refl
total-zeros (suc n) f h =
    let e = total-zeros n f (λ i lt. h i (omega arith)) in
    let d : f n ≡ 0 = h n (omega arith) in
    omega arith

pub total-plus : (n : ℕ) (f g : ℕ → ℕ) → total n (λ i. f i + g i) ≡ total n f + total n g
total-plus zero f g = refl
total-plus (suc n) f g = omega (arith, total-plus n f g)

pub total-scale : (n c : ℕ) (f : ℕ → ℕ) → total n (λ i. c * f i) ≡ c * total n f
total-scale zero c f = sym (mul-zero c)
total-scale (suc n) c f = omega (arith, total-scale n c f)

pub total-scale_right : (n c : ℕ) (f : ℕ → ℕ) → total n (λ i. f i * c) ≡ total n f * c
total-scale_right zero c f = sym (zero-mul c)
total-scale_right (suc n) c f = omega (arith, total-scale_right n c f)

pub total-swap : (n m : ℕ) (f : ℕ → ℕ → ℕ) → total n (λ i. total m (λ j. f i j)) ≡ total m (λ j. total n (λ i. f i j))
total-swap zero m f = sym (total-zeros m (λ j. 0) (λ i lt. refl))
total-swap (suc n) m f =
    ap (λ s. s + total m (λ j. f n j)) (total-swap n m f)
    ∙ sym (total-plus m (λ j. total n (λ i. f i j)) (λ j. f n j))

pub total-mod : (p n : ℕ) (f g : ℕ → ℕ) → ((i : ℕ) → i < n → f i % p ≡ g i % p) → total n f % p ≡ total n g % p
total-mod p zero f g h = refl
total-mod p (suc n) f g h =
    let e = total-mod p n f g (λ i lt. h i (omega arith)) in
    let d : f n % p ≡ g n % p = h n (omega arith) in
    add-mod (total n f) (f n) p ∙ ap (λ s. (s + f n % p) % p) e ∙ ap (λ s. (total n g % p + s) % p) d
    ∙ sym (add-mod (total n g) (g n) p)

-- only one term counts
pub total-one : (n k : ℕ) (f : ℕ → ℕ) → k < n → ((i : ℕ) → i < n → i ≢ k → f i ≡ 0) → total n f ≡ f k
total-one zero k f lt h = absurd (omega arith)
total-one (suc n) k f lt h =
    let here : n < suc n = omega arith in
    ⊎_elim
    (λ same. let none = total-zeros n f (λ i below. h i (omega arith) (omega arith)) in
    ap (λ s. s + f n) none ∙ zero-add (f n) ∙ ap f same)
    (λ other. ap (λ s. total n f + s) (h n here other) ∙ add-zero (total n f)
    ∙ total-one n k f (let apart : n ≢ k = other in omega arith) (λ i below apart. h i (omega arith) apart))
    (cases_eq n k)

-- (x·A)·B is x·(A·B), entry by entry
pub times_assoc : (p n k : ℕ) (x : ℕ → ℕ) (a b : ℕ → ℕ → ℕ) (j : ℕ)
    → total k (λ l. (total n (λ i. x i * a i l) % p) * b l j) % p ≡ total n (λ i. x i * (total k (λ l. a i l * b l j) % p)) % p
times_assoc p n k x a b j =
    total-mod p k (λ l. (total n (λ i. x i * a i l) % p) * b l j) (λ l. total n (λ i. x i * a i l) * b l j)
    (λ l lt. mul-mod_first (total n (λ i. x i * a i l)) (b l j) p)
    ∙ ap (λ s. s % p)
    (total-same k (λ l. total n (λ i. x i * a i l) * b l j) (λ l. total n (λ i. x i * a i l * b l j))
    (λ l lt. sym (total-scale_right n (b l j) (λ i. x i * a i l)))
    ∙ total-swap k n (λ l i. x i * a i l * b l j)
    ∙ total-same n (λ i. total k (λ l. x i * a i l * b l j)) (λ i. x i * total k (λ l. a i l * b l j))
    (λ i lt. total-same k (λ l. x i * a i l * b l j) (λ l. x i * (a i l * b l j)) (λ l m. mul_assoc (x i) (a i l) (b l j))
    ∙ total-scale k (x i) (λ l. a i l * b l j)))
    ∙ total-mod p n (λ i. x i * total k (λ l. a i l * b l j)) (λ i. x i * (total k (λ l. a i l * b l j) % p))
    (λ i lt. sym (mul-mod_second (x i) (total k (λ l. a i l * b l j)) p))
