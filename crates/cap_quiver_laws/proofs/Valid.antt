-- The quotient of paths by a two-sided ideal is a valid table.
use Rattle.std.proofs.Common.{◌≡◌, ℕ, ◌*◌, ◌%◌, ◌<◌, ◌≤◌, List, length, get_or, refl, sym, ap, ◌∙◌, subst, arith}
use Rattle.std.proofs.lemmas.Nat.{mul-mod_first}
use Rattle.std.proofs.Math.Nat.{mod-mod, mod-eq_of_lt, mul_assoc}
use Rattle.cap_field.proofs.Fermat.{tabled_range}
use Rattle.cap_laws.specs.Table.{TableData, IsTable, ends_of, width_of}
use Rattle.cap_matrix.specs.Grid.{total}
use Rattle.cap_matrix.proofs.Sums.{total-same, total-scale, total-scale_right, total-swap, total-mod}
use Rattle.cap_matrix.proofs.Entries.{delta, delta-small}
use Rattle.cap_lincat_laws.specs.Tests.{PassesTests}
use Rattle.cap_lincat_laws.proofs.Homs.{Member, hom_at, member, place}
use Rattle.cap_lincat_laws.proofs.Elements.{constant, element-sum}
use Rattle.cap_lincat_laws.proofs.Products.{unit_left_at, unit_right_at, left_triple_at, right_triple_at, sums-associative, sums-unmoved}
use Rattle.cap_lincat_laws.proofs.Valid.{tests-valid}
use Rattle.cap_quiver_laws.specs.Quotient.{path_at, IsCongruent, times_path, path_times, PathNumbers, IsPathAlgebra, IsTwoSided, IsQuotient}
use Rattle.cap_quiver_laws.proofs.Congruence.{pick, cong-same, cong-trans, cong-sym, cong-combine, cong-times_path, cong-path_times, path-times_path, path-path_times}
use Rattle.cap_quiver_laws.proofs.KnownRows.{rows-known}

module _ (n : ℕ) (A : PathNumbers) (t : ℕ → ℕ → ℕ) (bs : List ℕ) (T : TableData)
    (few_objects : T.objects ≤ 16) (few_elements : length T.basis ≤ 128) (K : IsPathAlgebra A) (two : IsTwoSided T.prime n A t) (Q : IsQuotient n A t bs T) where
  big : 2 ≤ T.prime
  big = (tabled_range T.prime Q.prime).0

  abbrev Cong : (ℕ → ℕ) → (ℕ → ℕ) → Type 0
  Cong v w = IsCongruent T.prime n A.count t v w

  -- the path of a basis element
  abbrev path : ℕ → ℕ
  path b = get_or bs b 0

  -- a row as a combination of basis paths
  abbrev vector : ℕ → ℕ → (ℕ → ℕ) → ℕ → ℕ
  vector x y f q = total (width_of T x y) (λ k. f k * path_at (path (hom_at T x y k)) q)

  in-basis : {x y b : ℕ} → Member T x y b → b < length bs
  in-basis M = omega (arith, M.inside, Q.count)

  short : {x y b : ℕ} → Member T x y b → path b < A.count
  short {x} {y} {b} M = Q.basis.inside b (in-basis M)

  starts : {x y b : ℕ} → Member T x y b → A.start (path b) ≡ x
  starts {x} {y} {b} M = sym (ap (λ (e : ℕ × ℕ). e.0) (Q.ends b (in-basis M))) ∙ M.from

  finishes : {x y b : ℕ} → Member T x y b → A.finish (path b) ≡ y
  finishes {x} {y} {b} M = sym (ap (λ (e : ℕ × ℕ). e.1) (Q.ends b (in-basis M))) ∙ M.to

  products : {x y z i j : ℕ} → Member T x y i → Member T y z j → Cong (vector x z (constant T i j)) (path_at (A.join (path i) (path j)))
  products {x} {y} {z} {i} {j} M N =
      let c = Q.products i j (in-basis M) (in-basis N) (M.to ∙ sym N.from) in
      subst (λ a. Cong (vector a z (constant T i j)) (path_at (A.join (path i) (path j)))) M.from
      (subst (λ b. Cong (vector (ends_of T i).0 b (constant T i j)) (path_at (A.join (path i) (path j)))) N.to c)

  -- a row times a basis element stands for the combination times its path, on either side
  sum-out : (w u : ℕ) (f : ℕ → ℕ) (c : ℕ → ℕ → ℕ) (d : ℕ → ℕ) → total w (λ k. total u (λ l. f l * c l k) % T.prime * d k) % T.prime ≡ total u (λ l. f l * total w (λ k. c l k * d k)) % T.prime
  sum-out w u f c d =
      total-mod T.prime w (λ k. total u (λ l. f l * c l k) % T.prime * d k) (λ k. total u (λ l. f l * c l k) * d k) (λ k lt. mul-mod_first (total u (λ l. f l * c l k)) (d k) T.prime)
      ∙ ap (λ s. s % T.prime)
      (total-same w (λ k. total u (λ l. f l * c l k) * d k) (λ k. total u (λ l. f l * c l k * d k)) (λ k lt. sym (total-scale_right u (d k) (λ l. f l * c l k)))
      ∙ total-swap w u (λ k l. f l * c l k * d k)
      ∙ total-same u (λ l. total w (λ k. f l * c l k * d k)) (λ l. f l * total w (λ k. c l k * d k))
      (λ l lt. total-same w (λ k. f l * c l k * d k) (λ k. f l * (c l k * d k)) (λ k below. mul_assoc (f l) (c l k) (d k)) ∙ total-scale w (f l) (λ k. c l k * d k)))

  -- a combination of joined paths is the combination of the paths, times a path
  joined : (u : ℕ) (f a : ℕ → ℕ) (g : ℕ → ℕ → ℕ) (q : ℕ) → ((l : ℕ) → l < u → a l < A.count)
      → total u (λ l. f l * path_at (g (a l) 0) q) ≡ total A.count (λ c. total u (λ l. f l * path_at (a l) c) * path_at (g c 0) q)
  joined u f a g q h =
      sym (total-same A.count (λ c. total u (λ l. f l * path_at (a l) c) * path_at (g c 0) q) (λ c. total u (λ l. f l * path_at (a l) c * path_at (g c 0) q)) (λ c lt. sym (total-scale_right u (path_at (g c 0) q) (λ l. f l * path_at (a l) c)))
      ∙ total-swap A.count u (λ c l. f l * path_at (a l) c * path_at (g c 0) q)
      ∙ total-same u (λ l. total A.count (λ c. f l * path_at (a l) c * path_at (g c 0) q)) (λ l. f l * path_at (g (a l) 0) q)
      (λ l lt. total-same A.count (λ c. f l * path_at (a l) c * path_at (g c 0) q) (λ c. f l * (path_at (a l) c * path_at (g c 0) q)) (λ c below. mul_assoc (f l) (path_at (a l) c) (path_at (g c 0) q))
      ∙ total-scale A.count (f l) (λ c. path_at (a l) c * path_at (g c 0) q)
      ∙ ap (λ s. f l * s) (pick A.count (a l) (λ c. path_at (g c 0) q) (h l lt))))

  right-product : {y z j : ℕ} (x : ℕ) (f : ℕ → ℕ) → Member T y z j
      → Cong (vector x z (λ k. total (width_of T x y) (λ l. f l * constant T (hom_at T x y l) j k) % T.prime)) (times_path A.count A.join (vector x y f) (path j))
  right-product {y} {z} {j} x f N =
      let u = width_of T x y in
      let a = λ (l : ℕ). path (hom_at T x y l) in
      let first = vector x z (λ k. total u (λ l. f l * constant T (hom_at T x y l) j k) % T.prime) in
      let middle = λ (q : ℕ). total u (λ l. f l * vector x z (constant T (hom_at T x y l) j) q) in
      let last = λ (q : ℕ). total u (λ l. f l * path_at (A.join (a l) (path j)) q) in
      cong-trans T.prime n A.count t
      (cong-same T.prime n A.count t first middle (λ q lt. sum-out (width_of T x z) u f (λ l k. constant T (hom_at T x y l) j k) (λ k. path_at (path (hom_at T x z k)) q)))
      (cong-trans T.prime n A.count t
      (cong-combine T.prime n A.count t u f (λ l. vector x z (constant T (hom_at T x y l) j)) (λ l. path_at (A.join (a l) (path j))) (λ l lt. products (member T x y l lt) N))
      (cong-same T.prime n A.count t last (times_path A.count A.join (vector x y f) (path j))
      (λ q lt. ap (λ s. s % T.prime) (joined u f a (λ c e. A.join c (path j)) q (λ l below. short (member T x y l below))))))

  left-product : {x y i : ℕ} (z : ℕ) (g : ℕ → ℕ) → Member T x y i
      → Cong (vector x z (λ k. total (width_of T y z) (λ l. g l * constant T i (hom_at T y z l) k) % T.prime)) (path_times A.count A.join (path i) (vector y z g))
  left-product {x} {y} {i} z g M =
      let u = width_of T y z in
      let a = λ (l : ℕ). path (hom_at T y z l) in
      let first = vector x z (λ k. total u (λ l. g l * constant T i (hom_at T y z l) k) % T.prime) in
      let middle = λ (q : ℕ). total u (λ l. g l * vector x z (constant T i (hom_at T y z l)) q) in
      let last = λ (q : ℕ). total u (λ l. g l * path_at (A.join (path i) (a l)) q) in
      cong-trans T.prime n A.count t
      (cong-same T.prime n A.count t first middle (λ q lt. sum-out (width_of T x z) u g (λ l k. constant T i (hom_at T y z l) k) (λ k. path_at (path (hom_at T x z k)) q)))
      (cong-trans T.prime n A.count t
      (cong-combine T.prime n A.count t u g (λ l. vector x z (constant T i (hom_at T y z l))) (λ l. path_at (A.join (path i) (a l))) (λ l lt. products M (member T y z l lt)))
      (cong-same T.prime n A.count t last (path_times A.count A.join (path i) (vector y z g))
      (λ q lt. ap (λ s. s % T.prime) (joined u g a (λ c e. A.join (path i) c) q (λ l below. short (member T y z l below))))))

  paths-same : (a b : ℕ) → a ≡ b → Cong (path_at a) (path_at b)
  paths-same a b e = cong-same T.prime n A.count t (path_at a) (path_at b) (λ q lt. ap (λ c. path_at c q % T.prime) e)

  times-path : (a h : ℕ) → Cong (times_path A.count A.join (path_at a) h) (path_at (A.join a h))
  times-path a h = cong-same T.prime n A.count t (times_path A.count A.join (path_at a) h) (path_at (A.join a h)) (λ q lt. ap (λ s. s % T.prime) (path-times_path A K a h q lt))

  path-times : (h a : ℕ) → Cong (path_times A.count A.join h (path_at a)) (path_at (A.join h a))
  path-times h a = cong-same T.prime n A.count t (path_times A.count A.join h (path_at a)) (path_at (A.join h a)) (λ q lt. ap (λ s. s % T.prime) (path-path_times A K h a q lt))

  -- a row that stands for a path, times a basis element
  class-right : {y z j : ℕ} (x : ℕ) (f : ℕ → ℕ) (a : ℕ) → Member T y z j → Cong (vector x y f) (path_at a)
      → Cong (vector x z (λ k. total (width_of T x y) (λ l. f l * constant T (hom_at T x y l) j k) % T.prime)) (path_at (A.join a (path j)))
  class-right {y} {z} {j} x f a N c =
      cong-trans T.prime n A.count t (right-product x f N)
      (cong-trans T.prime n A.count t (cong-times_path T.prime n A t two (vector x y f) (path_at a) (path j) (short N) c) (times-path a (path j)))

  class-left : {x y i : ℕ} (z : ℕ) (g : ℕ → ℕ) (a : ℕ) → Member T x y i → Cong (vector y z g) (path_at a)
      → Cong (vector x z (λ k. total (width_of T y z) (λ l. g l * constant T i (hom_at T y z l) k) % T.prime)) (path_at (A.join (path i) a))
  class-left {x} {y} {i} z g a M c =
      cong-trans T.prime n A.count t (left-product z g M)
      (cong-trans T.prime n A.count t (cong-path_times T.prime n A t two (path i) (vector y z g) (path_at a) (short M) c) (path-times (path i) a))

  -- rows below the prime that stand for one path are equal
  one-class : (x y : ℕ) (f g : ℕ → ℕ) (a b : ℕ) → a ≡ b → Cong (vector x y f) (path_at a) → Cong (vector x y g) (path_at b) → (k : ℕ) → k < width_of T x y → f k % T.prime ≡ g k % T.prime
  one-class x y f g a b e c d =
      rows-known n A t bs T Q.prime Q.count Q.basis x y f g (cong-trans T.prime n A.count t c (cong-trans T.prime n A.count t (paths-same a b e) (cong-sym T.prime n A.count t (omega (arith, big)) d)))

  own-class : {x y b : ℕ} (M : Member T x y b) → Cong (vector x y (λ k. delta (hom_at T x y k) b)) (path_at (path b))
  own-class {x} {y} {b} M = cong-same T.prime n A.count t (vector x y (λ k. delta (hom_at T x y k) b)) (path_at (path b))
      (λ q lt. ap (λ s. s % T.prime) (element-sum T (λ k. path_at (path (hom_at T x y k)) q) M ∙ ap (λ h. path_at (path h) q) (place T M).here))

  pub quotient-tested : PassesTests T
  quotient-tested = record {
    dimensioned = record {
      prime = Q.prime;
      few_objects = few_objects;
      few_elements = few_elements;
      ends = λ b lt.
          let inside : b < length bs = omega (arith, lt, Q.count) in
          let e = K.ends (path b) (Q.basis.inside b inside) in (
            omega (arith, ap (λ (e : ℕ × ℕ). e.0) (Q.ends b inside), e.0, Q.objects),
            omega (arith, ap (λ (e : ℕ × ℕ). e.1) (Q.ends b inside), e.1, Q.objects),
          );
      units = Q.unit_rows;
      products = λ i j li lj meet. Q.product_rows i j (omega (arith, li, Q.count)) (omega (arith, lj, Q.count)) meet;
    };
    unmoved = λ b lt.
        let x = (ends_of T b).0 in
        let y = (ends_of T b).1 in
        let M : Member T x y b = record { inside = lt; from = refl; to = refl } in
        let inside = in-basis M in
        let e = K.ends (path b) (short M) in
        let left : x < T.objects = omega (arith, starts M, e.0, Q.objects) in
        let right : y < T.objects = omega (arith, finishes M, e.1, Q.objects) in
        sums-unmoved T M
        (λ k below. sym (mod-mod (total (width_of T x x) (λ i. get_or (T.unit x) i 0 * constant T (hom_at T x x i) b k)) T.prime)
        ∙ one-class x y (unit_left_at T x b) (λ k. delta (hom_at T x y k) b) (A.join (A.unit x) (path b)) (path b)
        (ap (λ z. A.join (A.unit z) (path b)) (sym (starts M)) ∙ K.unit_left (path b) (short M))
        (class-right x (λ i. get_or (T.unit x) i 0) (A.unit x) M (Q.units x left)) (own-class M) k below
        ∙ mod-eq_of_lt (delta-small T.prime (hom_at T x y k) b big))
        (λ k below. sym (mod-mod (total (width_of T y y) (λ j. get_or (T.unit y) j 0 * constant T b (hom_at T y y j) k)) T.prime)
        ∙ one-class x y (unit_right_at T y b) (λ k. delta (hom_at T x y k) b) (A.join (path b) (A.unit y)) (path b)
        (ap (λ z. A.join (path b) (A.unit z)) (sym (finishes M)) ∙ K.unit_right (path b) (short M))
        (class-left y (λ j. get_or (T.unit y) j 0) (A.unit y) M (Q.units y right)) (own-class M) k below
        ∙ mod-eq_of_lt (delta-small T.prime (hom_at T x y k) b big));
    associative = λ i j k h.
        let x = (ends_of T i).0 in
        let y = (ends_of T i).1 in
        let z = (ends_of T j).1 in
        let w = (ends_of T k).1 in
        let M : Member T x y i = record { inside = h.first; from = refl; to = refl } in
        let N : Member T y z j = record { inside = h.second; from = sym h.left; to = refl } in
        let O : Member T z w k = record { inside = h.third; from = sym h.right; to = refl } in
        sums-associative T M N O
        (λ m lt. sym (mod-mod (total (width_of T x z) (λ l. constant T i j l * constant T (hom_at T x z l) k m)) T.prime)
        ∙ one-class x w (left_triple_at T x z i j k) (right_triple_at T y w i j k) (A.join (A.join (path i) (path j)) (path k)) (A.join (path i) (A.join (path j) (path k)))
        (K.assoc (path i) (path j) (path k))
        (class-right x (constant T i j) (A.join (path i) (path j)) O (products M N))
        (class-left w (constant T j k) (A.join (path j) (path k)) M (products N O)) m lt
        ∙ mod-mod (total (width_of T y w) (λ l. constant T j k l * constant T i (hom_at T y w l) m)) T.prime);
  }

  pub quotient-valid : IsTable T
  quotient-valid = tests-valid T quotient-tested
