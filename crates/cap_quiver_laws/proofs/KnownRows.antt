-- A row over the basis of a Hom is known by the class of its combination of paths.
use Rattle.std.proofs.Common.{◌≡◌, ℕ, ◌*◌, ◌%◌, ◌<◌, true, List, length, get_or, sym, ap, ◌∙◌, subst, arith}
use Rattle.std.specs.List.{Contains}
use Rattle.std.proofs.lemmas.List.Elements.{Contains-get_or}
use Rattle.std.proofs.Math.Nat.{mul-one, mul-zero}
use Rattle.cap_field.specs.Residue.{is_tabled}
use Rattle.cap_field.proofs.Fermat.{tabled_range}
use Rattle.cap_laws.specs.Table.{TableData, width_of}
use Rattle.cap_matrix.specs.Grid.{total}
use Rattle.cap_matrix.proofs.Sums.{total-zeros, total-one}
use Rattle.cap_matrix.proofs.Entries.{delta-same, delta-other}
use Rattle.cap_reduce.proofs.Inverses.{inverses}
use Rattle.cap_lincat_laws.proofs.Homs.{Member, hom_at, member, hom-one}
use Rattle.cap_quiver_laws.specs.Quotient.{path_at, IsCongruent, IsBasis, PathNumbers}
use Rattle.cap_quiver_laws.proofs.Unique.{basis-known, basis-one}

module _ (n : ℕ) (A : PathNumbers) (t : ℕ → ℕ → ℕ) (bs : List ℕ) (T : TableData) (prime : is_tabled T.prime ≡ true) (count : length T.basis ≡ length bs) (B : IsBasis T.prime n A.count t bs) where
  abbrev path : ℕ → ℕ
  path b = get_or bs b 0

  abbrev vector : ℕ → ℕ → (ℕ → ℕ) → ℕ → ℕ
  vector x y f q = total (width_of T x y) (λ k. f k * path_at (path (hom_at T x y k)) q)

  in-basis : {x y b : ℕ} → Member T x y b → b < length bs
  in-basis M = omega (arith, M.inside, count)

  -- the coefficient of a row is read at its path, and outside the basis there is none
  vector-at : (x y : ℕ) (f : ℕ → ℕ) (k : ℕ) → k < width_of T x y → vector x y f (path (hom_at T x y k)) ≡ f k
  vector-at x y f k lt =
      let a = path (hom_at T x y k) in
      total-one (width_of T x y) k (λ l. f l * path_at (path (hom_at T x y l)) a) lt
      (λ l below apart. ap (λ s. f l * s) (delta-other (path (hom_at T x y l)) a
      (λ e. apart (hom-one T x y l k below lt (basis-one B (hom_at T x y l) (hom_at T x y k) (in-basis (member T x y l below)) (in-basis (member T x y k lt)) e)))) ∙ mul-zero (f l))
      ∙ ap (λ s. f k * s) (delta-same a) ∙ mul-one (f k)

  vector-outside : (x y : ℕ) (f : ℕ → ℕ) (q : ℕ) → q < A.count → (Contains bs q → ⊥) → vector x y f q ≡ 0
  vector-outside x y f q lt out =
      total-zeros (width_of T x y) (λ k. f k * path_at (path (hom_at T x y k)) q)
      (λ k below. ap (λ s. f k * s) (delta-other (path (hom_at T x y k)) q (λ e. out (subst (λ a. Contains bs a) e (Contains-get_or bs (hom_at T x y k) 0 (in-basis (member T x y k below)))))) ∙ mul-zero (f k))

  -- so congruent rows are equal
  pub rows-known : (x y : ℕ) (f g : ℕ → ℕ) → IsCongruent T.prime n A.count t (vector x y f) (vector x y g) → (k : ℕ) → k < width_of T x y → f k % T.prime ≡ g k % T.prime
  rows-known x y f g c k lt =
      let b = hom_at T x y k in
      ap (λ s. s % T.prime) (sym (vector-at x y f k lt))
      ∙ basis-known T.prime n A.count t bs (tabled_range T.prime prime).0 (inverses T.prime prime) B (vector x y f) (vector x y g)
      (λ q below out. vector-outside x y f q below out) (λ q below out. vector-outside x y g q below out) c (path b) (B.inside b (in-basis (member T x y k lt)))
      ∙ ap (λ s. s % T.prime) (vector-at x y g k lt)
