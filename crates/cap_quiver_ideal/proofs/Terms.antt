-- Products u·r·v, term by term and by their numbers.
use Rattle.std.proofs.Common.{◌≡◌, ℕ, ◌+◌, ◌*◌, ◌%◌, ◌<◌, ◌≤◌, cond, ltb, ◌&&◌, List, [], length, get_or, sym, ap, ◌∙◌, arith, add-one}
use Rattle.std.proofs.lemmas.Bool.{le-ltb}
use Rattle.std.proofs.Math.Nat.{mul-zero, zero-mod, mod-add-mod}
use Rattle.cap_matrix.specs.Grid.{total}
use Rattle.cap_matrix.proofs.Sums.{total-zeros}
use Rattle.cap_quiver_laws.specs.Quotient.{path_at, PathNumbers}
use Rattle.cap_quiver_laws.proofs.Congruence.{no-path}
use Rattle.cap_quiver_paths.specs.Numbers.{numbers_of}
use Rattle.cap_quiver_ideal.specs.Products.{product_at, NoneFollows, NoneFits}

-- one more term
pub term-step : (p k : ℕ) (f : ℕ → ℕ) (old now x : ℕ) → old ≡ total k f % p → now ≡ (old + x) % p → x ≡ f k → now ≡ total (k + 1) f % p
term-step p k f old now x h e d =
    e ∙ ap (λ y. (old + y) % p) d ∙ ap (λ y. (y + f k) % p) h ∙ mod-add-mod (total k f) p (f k) ∙ ap (λ y. y % p) (sym (ap (λ n. total n f) (add-one k)))

-- where no term fits, the product is 0
pub none-product : (p : ℕ) (A : PathNumbers) (terms : List (ℕ × List ℕ)) (list : List ℕ) (u v q : ℕ) → q < A.count → length list ≡ length terms → NoneFits A list u v → product_at p A terms list u v q ≡ 0
none-product p A terms list u v q lq long none =
    ap (λ s. s % p) (total-zeros (length terms) (λ k. (get_or terms k (0, [])).0 * path_at (A.join (A.join u (get_or list k 0)) v) q)
    (λ k lt. ap (λ x. (get_or terms k (0, [])).0 * x) (no-path A.count (A.join (A.join u (get_or list k 0)) v) q (none k (omega (arith, lt, long))) lq) ∙ mul-zero (get_or terms k (0, [])).0))
    ∙ zero-mod p

-- what is no path cannot be followed
none-left : (objects : ℕ) (ends : List (ℕ × ℕ)) (units joins : List ℕ) (a b : ℕ) → length ends ≤ a → (numbers_of objects ends units joins).join a b ≡ length ends
none-left objects ends units joins a b le = ap (λ c. cond (c && ltb b (length ends)) (get_or joins (a * length ends + b) 0) (length ends)) (le-ltb a (length ends) le)

pub none-fits : (objects : ℕ) (ends : List (ℕ × ℕ)) (units joins : List ℕ) (list : List ℕ) (u v : ℕ) → NoneFollows (numbers_of objects ends units joins) list u → NoneFits (numbers_of objects ends units joins) list u v
none-fits objects ends units joins list u v none k lt =
    let A = numbers_of objects ends units joins in
    omega (arith, none-left objects ends units joins (A.join u (get_or list k 0)) v (none k lt))
