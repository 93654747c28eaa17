-- Weak kernels by generators: the null rows at each generator, those dropped that factor through the sum of those kept.
use Rattle.std.proofs.Common.{◌≡◌, ℕ, zero, suc, ◌+◌, ◌*◌, ◌%◌, ◌<◌, ◌≤◌, List, [], ◌∷◌, ◌++◌, map, length, get_or, Option, refl, sym, ap, ◌∙◌, subst, arith, ⊎_elim}
use Rattle.std.specs.Prelude.{Some, None}
use Rattle.std.proofs.Math.Nat.{add-mod, zero-mod, mod-lt}
use Rattle.std.proofs.lemmas.Bool.{cases_lt}
use Rattle.cap_matrix.specs.Grid.{Grid, IsMatrixOf, entry, total, row_by, row_times}
use Rattle.cap_matrix.specs.Reduced.{IsInSpan, IsNullRow, IsNullBasis}
use Rattle.cap_matrix.proofs.Rows.{length-row_by, row_by-at}
use Rattle.cap_matrix.proofs.Entries.{small-at}
use Rattle.cap_reduce.proofs.Spans.{span_row}
use Rattle.cap_reduce.proofs.NullBasis.{basis-matrix, span-out}
use Rattle.cap_field.proofs.Fermat.{tabled_range}
use Rattle.cap_laws.specs.Linear.{CategoryData, IsLinear, Arrow, Same}
use Rattle.cap_laws.specs.Universal.{IsDirectSum, IsWeakKernel}
use Rattle.cap_laws.specs.Factor.{Through}
use Rattle.cap_laws.proofs.Calculus.{from-object, to-object, same, back, ◌⟫◌ as join, composed, added, assoc, unit-left, add-zero, add-compose, compose-zero, zero-compose}
use Rattle.cap_laws.proofs.Factor.{through-same, through-by, through-zero, through-add, through-scale, through-before}
use Rattle.cap_laws.proofs.Blocks.{rows-arrow, first-through, second-through}
use Rattle.cap_homlaw.specs.Rows.{AreResidues, row_sum, row_scaled, zero_row}
use Rattle.cap_homlaw.specs.Hom.{HomData, IsHom, IsSumOf, IsGenerator, hom_matrix}
use Rattle.cap_homlaw.specs.Hom.IsSumOf.{empty, more}
use Rattle.cap_homlaw.proofs.Rows.{row_ext, row_by-residues, sum-residues, times-at, times-long}
use Rattle.cap_homlaw.proofs.Images.{prime-positive, nu-zero, same-from-nu}
use Rattle.cap_homlaw.proofs.TwoSided.{hom_matrix-matrix, two-sided}
use Rattle.cap_solve_laws.specs.Sums.{SumData, HasSums}
use Rattle.cap_solve_laws.specs.Answers.{IsRowAnswer}
use Rattle.cap_solve_laws.specs.WeakKernels.{above, Keeps, AreNullFrom, IsKeptKernel}
use Rattle.cap_solve_laws.specs.WeakKernels.Keeps.{done, dropped, kept}
use Rattle.cap_solve_laws.proofs.Solver.{solution_row, solution_row-is, null_rows_of, null_rows_of-is}

-- the coefficients of some u with u·k = g, for k and g with one target, or none
abbrev pub factor_row : {Obj Mor : Type 0} → CategoryData Obj Mor → HomData Obj Mor → Mor → Mor → Option (List ℕ)
factor_row C H k g = solution_row C.prime (hom_matrix C H (C.identity (C.source g)) k) (H.nu g)

-- k where g factors through it, and else k above g
abbrev pub kept_by : {Obj Mor : Type 0} → CategoryData Obj Mor → SumData Obj Mor → Mor → Mor → Option (List ℕ) → Mor
kept_by C Z k g (Some row) = k
kept_by C Z k g None = above C Z k g

-- k with those of a list that don't factor, in order
abbrev pub kept_of : {Obj Mor : Type 0} → CategoryData Obj Mor → HomData Obj Mor → SumData Obj Mor → Mor → List Mor → Mor
kept_of C H Z k [] = k
kept_of C H Z k (g ∷ gs) = kept_of C H Z (kept_by C Z k g (factor_row C H k g)) gs

-- the morphisms out of generator n that f sends to 0: a basis of them
abbrev pub null_morphisms : {Obj Mor : Type 0} → CategoryData Obj Mor → HomData Obj Mor → Mor → ℕ → List Mor
null_morphisms C H f n = map (λ row. H.back (H.generator n) (C.source f) row) (null_rows_of C.prime (hom_matrix C H (C.identity (H.generator n)) f)).entries

-- those out of the first n generators, in order
abbrev pub first_morphisms : {Obj Mor : Type 0} → CategoryData Obj Mor → HomData Obj Mor → Mor → ℕ → List Mor
first_morphisms C H f zero = []
first_morphisms C H f (suc n) = first_morphisms C H f n ++ null_morphisms C H f n

-- the weak kernel of f by generators, a function of data
abbrev pub weak_kernel_of : {Obj Mor : Type 0} → CategoryData Obj Mor → HomData Obj Mor → SumData Obj Mor → Mor → Mor
weak_kernel_of C H Z f = kept_of C H Z (C.zero Z.zero_object (C.source f)) (first_morphisms C H f H.generators)

-- each of a list has the property
pub data Every {A : Type 0} (P : A → Type 0) : List A → Type 0 where
  nil : Every P []
  cons : {x : A} {xs : List A} → P x → Every P xs → Every P (x ∷ xs)

every-append : {A : Type 0} {P : A → Type 0} {xs ys : List A} → Every P xs → Every P ys → Every P (xs ++ ys)
every-append nil k = k
every-append (cons p h) k = cons p (every-append h k)

every-left : {A : Type 0} {P : A → Type 0} (xs ys : List A) → Every P (xs ++ ys) → Every P xs
every-left [] ys h = nil
every-left (x ∷ xs) ys (cons p h) = cons p (every-left xs ys h)

every-right : {A : Type 0} {P : A → Type 0} (xs ys : List A) → Every P (xs ++ ys) → Every P ys
every-right [] ys h = h
every-right (x ∷ xs) ys (cons p h) = every-right xs ys h

every-mapped : {A B : Type 0} (P : B → Type 0) (f : A → B) (d : A) (xs : List A) → ((i : ℕ) → i < length xs → P (f (get_or xs i d))) → Every P (map f xs)
every-mapped P f d [] h = nil
every-mapped P f d (x ∷ xs) h = cons (h 0 (omega arith)) (every-mapped P f d xs (λ i lt. h (suc i) (omega (arith, lt))))

every-at : {A B : Type 0} (P : B → Type 0) (f : A → B) (d : A) (xs : List A) → Every P (map f xs) → (i : ℕ) → i < length xs → P (f (get_or xs i d))
every-at P f d [] h i lt = absurd (omega (arith, lt))
every-at P f d (x ∷ xs) (cons p h) zero lt = p
every-at P f d (x ∷ xs) (cons p h) (suc i) lt = every-at P f d xs h i (omega (arith, lt))

-- g: ..→a is sent to 0 by f: a→b
pub record Vanishes {Obj Mor : Type 0} (C : CategoryData Obj Mor) (a b : Obj) (f g : Mor) : Type 0 where
  pub arrow : Arrow C (C.source g) a g
  pub null : Same C (C.source g) b (C.compose g f) (C.zero (C.source g) b)

module _ {Obj Mor : Type 0} {C : CategoryData Obj Mor} {H : HomData Obj Mor} {Z : SumData Obj Mor} (L : IsLinear C) (S : IsHom C H) (A : HasSums C Z) where
  infixr 5 ◌⟫◌
  ◌⟫◌ : {a b : Obj} {f g h : Mor} → Same C a b f g → Same C a b g h → Same C a b f h
  ◌⟫◌ s t = join L s t

  big : 2 ≤ C.prime
  big = (tabled_range C.prime L.prime_tabled).0

  -- what factors through k, which factors through m, factors through m
  through-through : {x r s b : Obj} {k m t : Mor} → Through C x r b k t → Through C r s b m k → Through C x s b m t
  through-through t k = through-same L t.holds (through-before L t.arrow k)

  module _ {a b : Obj} {f : Mor} (F : Arrow C a b f) where
    vanishes-at : {s : Obj} {g : Mor} → Arrow C s a g → Same C s b (C.compose g f) (C.zero s b) → Vanishes C a b f g
    vanishes-at {s} {g} G z = record {
      arrow = record { is = G.is; from = refl; to = G.to };
      null = subst (λ x. Same C x b (C.compose g f) (C.zero x b)) (sym G.from) z;
    }

    through-at : {x s : Obj} {k t : Mor} → Arrow C s a k → Through C x s a k t → Through C x (C.source k) a k t
    through-at {x} {s} {k} {t} K h = subst (λ z. Through C x z a k t) (sym K.from) h

    sum-of : {k g : Mor} → Vanishes C a b f k → Vanishes C a b f g → let d = Z.sum (C.source k) (C.source g) in IsDirectSum C (C.target d.i1) (C.source k) (C.source g) d.i1 d.i2 d.p1 d.p2
    sum-of {k} {g} K G = A.sum_is (C.source k) (C.source g) (from-object L K.arrow) (from-object L G.arrow)

    above-arrow : {k g : Mor} → Vanishes C a b f k → Vanishes C a b f g → Arrow C (C.target (Z.sum (C.source k) (C.source g)).i1) a (above C Z k g)
    above-arrow K G = rows-arrow L (sum-of K G) K.arrow G.arrow

    above-vanishes : {k g : Mor} → Vanishes C a b f k → Vanishes C a b f g → Vanishes C a b f (above C Z k g)
    above-vanishes {k} {g} K G =
        let D = sum-of K G in
        let o = to-object L F in
        vanishes-at (above-arrow K G)
        (add-compose L (L.compose_arrow D.out1 K.arrow) (L.compose_arrow D.out2 G.arrow) F
        ⟫ added L (assoc L D.out1 K.arrow F ⟫ composed L (same L D.out1) K.null ⟫ compose-zero L D.out1 o) (assoc L D.out2 G.arrow F ⟫ composed L (same L D.out2) G.null ⟫ compose-zero L D.out2 o)
        ⟫ add-zero L (L.zero_arrow (C.target (Z.sum (C.source k) (C.source g)).i1) b (from-object L D.out1) o))

    kept-vanishes : {k g : Mor} (o : Option (List ℕ)) → Vanishes C a b f k → Vanishes C a b f g → Vanishes C a b f (kept_by C Z k g o)
    kept-vanishes (Some row) K G = K
    kept-vanishes None K G = above-vanishes K G

    -- what factored through k factors through what is kept
    kept-old : {x : Obj} {k g t : Mor} (o : Option (List ℕ)) → Vanishes C a b f k → Vanishes C a b f g → Through C x (C.source k) a k t → Through C x (C.source (kept_by C Z k g o)) a (kept_by C Z k g o) t
    kept-old (Some row) K G h = h
    kept-old None K G h = through-at (above-arrow K G) (through-through h (first-through L (sum-of K G) K.arrow G.arrow))

    -- and so does g
    kept-new : {k g : Mor} (o : Option (List ℕ)) → IsRowAnswer (hom_matrix C H (C.identity (C.source g)) k) (H.nu g) o → Vanishes C a b f k → Vanishes C a b f g
        → Through C (C.source g) (C.source (kept_by C Z k g o)) a (kept_by C Z k g o) g
    kept-new {k} {g} (Some row) r K G =
        let x = from-object L G.arrow in
        let I = L.identity_arrow (C.source g) x in
        let M = hom_matrix-matrix L S I K.arrow in
        let R : AreResidues C.prime (H.dim (C.source g) (C.source k)) row = record {
          long = r.long ∙ M.from;
          residues = λ j lt. subst (λ p. get_or row j 0 < p) M.is.prime (r.residues j (omega (arith, lt, M.from)));
        } in
        let s = from-object L K.arrow in
        let U = S.back_arrow x s R in
        let u = H.back (C.source g) (C.source k) row in
        through-same L
        (same-from-nu L S G.arrow (L.compose_arrow (L.compose_arrow I U) K.arrow)
        (sym (two-sided L S I U K.arrow ∙ ap (λ w. row_times w (hom_matrix C H (C.identity (C.source g)) k)) (S.nu_back x s R) ∙ r.gives)))
        (through-by L (L.compose_arrow I U) K.arrow)
    kept-new None r K G = through-at (above-arrow K G) (second-through L (sum-of K G) K.arrow G.arrow)

    factor-answer : {k g : Mor} → Vanishes C a b f k → Vanishes C a b f g → IsRowAnswer (hom_matrix C H (C.identity (C.source g)) k) (H.nu g) (factor_row C H k g)
    factor-answer {k} {g} K G =
        let M = hom_matrix-matrix L S (L.identity_arrow (C.source g) (from-object L G.arrow)) K.arrow in
        let R = S.nu_row G.arrow in
        solution_row-is C.prime (hom_matrix C H (C.identity (C.source g)) k) (H.nu g) L.prime_tabled M.is
        (record { long = R.long ∙ sym M.to; residues = λ j lt. R.residues j (omega (arith, lt, M.to)) })

    -- a list of morphisms
    list-vanishes : (k : Mor) (gs : List Mor) → Vanishes C a b f k → Every (Vanishes C a b f) gs → Vanishes C a b f (kept_of C H Z k gs)
    list-vanishes k [] K nil = K
    list-vanishes k (g ∷ gs) K (cons G h) = list-vanishes (kept_by C Z k g (factor_row C H k g)) gs (kept-vanishes (factor_row C H k g) K G) h

    list-old : {x : Obj} {t : Mor} (k : Mor) (gs : List Mor) → Vanishes C a b f k → Every (Vanishes C a b f) gs → Through C x (C.source k) a k t → Through C x (C.source (kept_of C H Z k gs)) a (kept_of C H Z k gs) t
    list-old k [] K nil h = h
    list-old k (g ∷ gs) K (cons G e) h = list-old (kept_by C Z k g (factor_row C H k g)) gs (kept-vanishes (factor_row C H k g) K G) e (kept-old (factor_row C H k g) K G h)

    list-new : (k : Mor) (gs : List Mor) → Vanishes C a b f k → Every (Vanishes C a b f) gs → Every (λ g. Through C (C.source g) (C.source (kept_of C H Z k gs)) a (kept_of C H Z k gs) g) gs
    list-new k [] K nil = nil
    list-new k (g ∷ gs) K (cons G e) =
        let m = kept_by C Z k g (factor_row C H k g) in
        let M = kept-vanishes (factor_row C H k g) K G in
        cons (list-old m gs M e (kept-new (factor_row C H k g) (factor-answer K G) K G)) (list-new m gs M e)

    -- g factors through k only where the row of its coefficients is in the span of h(1, k)
    span-of-through : {k g : Mor} → Vanishes C a b f k → Vanishes C a b f g → Through C (C.source g) (C.source k) a k g → IsInSpan (hom_matrix C H (C.identity (C.source g)) k) (H.nu g)
    span-of-through {k} {g} K G t =
        let I = L.identity_arrow (C.source g) (from-object L G.arrow) in
        let M = hom_matrix-matrix L S I K.arrow in (
          H.nu t.by,
          (S.nu_row t.arrow).long ∙ sym M.from,
          S.nu_same t.holds ∙ S.nu_same (composed L (back L (unit-left L t.arrow)) (same L K.arrow)) ∙ two-sided L S I t.arrow K.arrow,
        )

    list-keeps : (k : Mor) (gs : List Mor) → Vanishes C a b f k → Every (Vanishes C a b f) gs → Keeps C Z a k gs (kept_of C H Z k gs)
    list-keeps k [] K nil = done
    list-keeps k (g ∷ gs) K (cons G h) =
        step (factor_row C H k g) (factor-answer K G) (list-keeps (kept_by C Z k g (factor_row C H k g)) gs (kept-vanishes (factor_row C H k g) K G) h)
      where
        step : {m : Mor} (o : Option (List ℕ)) → IsRowAnswer (hom_matrix C H (C.identity (C.source g)) k) (H.nu g) o → Keeps C Z a (kept_by C Z k g o) gs m → Keeps C Z a k (g ∷ gs) m
        step (Some row) r rest = dropped (kept-new (Some row) r K G) rest
        step None r rest = kept (λ t. r (span-of-through K G t)) rest

    -- the null rows at a generator
    module _ (x : Obj) (X : C.is_object x) where
      n-matrix : IsMatrixOf C.prime (H.dim x a) (H.dim x b) (hom_matrix C H (C.identity x) f)
      n-matrix = hom_matrix-matrix L S (L.identity_arrow x X) F

      null : Grid
      null = null_rows_of C.prime (hom_matrix C H (C.identity x) f)

      null-is : IsNullBasis (hom_matrix C H (C.identity x) f) null
      unfolding null
      null-is = null_rows_of-is C.prime (hom_matrix C H (C.identity x) f) L.prime_tabled n-matrix.is

      null-matrix : IsMatrixOf C.prime null.row_count (H.dim x a) null
      null-matrix = basis-matrix n-matrix null-is

      null-residues : (i : ℕ) → i < length null.entries → AreResidues C.prime (H.dim x a) (get_or null.entries i [])
      null-residues i lt =
          let N = null-matrix in
          let below : i < null.row_count = omega (arith, lt, N.is.shaped.row_many) in
          record { long = N.is.shaped.column_many i below ∙ N.to; residues = λ j inner. small-at N i j below inner }

      null-row : (i : ℕ) → i < length null.entries → IsNullRow (hom_matrix C H (C.identity x) f) (get_or null.entries i [])
      null-row i lt =
          let N = null-matrix in
          let below : i < null.row_count = omega (arith, lt, N.is.shaped.row_many) in
          let R = null-residues i lt in
          (null-is.spans (get_or null.entries i [])).0 (span-out N (get_or null.entries i []) R.long R.residues (span_row C.prime null.row_count (H.dim x a) (entry null.entries) i below))

      zeros : row_by (hom_matrix C H (C.identity x) f).column_count (λ j. 0) ≡ zero_row (H.dim x b)
      zeros = ap (λ n. row_by n (λ j. 0)) n-matrix.to

      -- 1·t·f has the row of t times the matrix
      row-after : {t : Mor} → Arrow C x a t → H.nu (C.compose t f) ≡ row_times (H.nu t) (hom_matrix C H (C.identity x) f)
      row-after T = S.nu_same (composed L (back L (unit-left L T)) (same L F)) ∙ two-sided L S (L.identity_arrow x X) T F

      null-vanishes : (i : ℕ) → i < length null.entries → Vanishes C a b f (H.back x a (get_or null.entries i []))
      null-vanishes i lt =
          let R = null-residues i lt in
          let oa = from-object L F in
          let ob = to-object L F in
          let G = S.back_arrow X oa R in
          vanishes-at G (same-from-nu L S (L.compose_arrow G F) (L.zero_arrow x b X ob)
          (row-after G ∙ ap (λ r. row_times r (hom_matrix C H (C.identity x) f)) (S.nu_back X oa R) ∙ (null-row i lt).null ∙ zeros ∙ sym (nu-zero L S X ob)))

      -- what f sends to 0 is in their span
      row-in-span : {t : Mor} → Arrow C x a t → Same C x b (C.compose t f) (C.zero x b) → IsInSpan null (H.nu t)
      row-in-span {t} T z =
          let R = S.nu_row T in
          let M = n-matrix in
          (null-is.spans (H.nu t)).1 (record {
            long = R.long ∙ sym M.from;
            residues = λ i lt. subst (λ p. get_or (H.nu t) i 0 < p) (sym M.is.prime) (R.residues i (omega (arith, lt, M.from)));
            null = sym (row-after T) ∙ S.nu_same z ∙ nu-zero L S X (to-object L F) ∙ sym zeros;
          })

      -- the first m rows, combined
      partial : List ℕ → ℕ → List ℕ
      partial c m = row_by (H.dim x a) (λ j. total m (λ i. get_or c i 0 * entry null.entries i j) % C.prime)

      partial-residues : (c : List ℕ) (m : ℕ) → AreResidues C.prime (H.dim x a) (partial c m)
      unfolding partial
      partial-residues c m = row_by-residues C.prime (H.dim x a) (λ j. total m (λ i. get_or c i 0 * entry null.entries i j) % C.prime)
          (λ j lt. mod-lt (total m (λ i. get_or c i 0 * entry null.entries i j)) (prime-positive L))

      partial-none : (c : List ℕ) → partial c 0 ≡ zero_row (H.dim x a)
      unfolding partial
      partial-none c = row_ext (partial-residues c 0).long (length-row_by (H.dim x a) (λ k. 0))
          (λ j lt. row_by-at (H.dim x a) (λ j. total 0 (λ i. get_or c i 0 * entry null.entries i j) % C.prime) j lt ∙ zero-mod C.prime ∙ sym (row_by-at (H.dim x a) (λ k. 0) j lt))

      partial-next : (c : List ℕ) (m : ℕ) → partial c (suc m) ≡ row_sum C.prime (H.dim x a) (partial c m) (row_scaled C.prime (H.dim x a) (get_or c m 0) (get_or null.entries m []))
      unfolding partial
      partial-next c m =
          let p = C.prime in
          let w = H.dim x a in
          let t = λ (j i : ℕ). get_or c i 0 * entry null.entries i j in
          let u = row_scaled p w (get_or c m 0) (get_or null.entries m []) in
          row_ext (partial-residues c (suc m)).long (sum-residues p w (prime-positive L) (partial c m) u).long
          (λ j lt. row_by-at w (λ j. total (suc m) (t j) % p) j lt ∙ add-mod (total m (t j)) (t j m) p
          ∙ ap (λ s. (s + t j m % p) % p) (sym (row_by-at w (λ j. total m (t j) % p) j lt))
          ∙ ap (λ s. (get_or (partial c m) j 0 + s) % p) (sym (row_by-at w (λ k. get_or c m 0 * get_or (get_or null.entries m []) k 0 % p) j lt))
          ∙ sym (row_by-at w (λ k. (get_or (partial c m) k 0 + get_or u k 0) % p) j lt))

      partial-all : (c : List ℕ) → row_times c null ≡ partial c null.row_count
      unfolding partial
      partial-all c =
          let N = null-matrix in
          row_ext (times-long N c) (partial-residues c null.row_count).long
          (λ j lt. times-at N c j lt ∙ sym (row_by-at (H.dim x a) (λ j. total null.row_count (λ i. get_or c i 0 * entry null.entries i j) % C.prime) j lt))

      module _ {s : Obj} {k : Mor} (K : Arrow C s a k) (each : (i : ℕ) → i < length null.entries → Through C x s a k (H.back x a (get_or null.entries i []))) where
        partial-through : (c : List ℕ) (m : ℕ) → m ≤ length null.entries → Through C x s a k (H.back x a (partial c m))
        partial-through c zero few =
            let oa = from-object L F in
            let P = partial-residues c 0 in
            through-same L (same-from-nu L S (S.back_arrow X oa P) (L.zero_arrow x a X oa) (S.nu_back X oa P ∙ partial-none c ∙ sym (nu-zero L S X oa))) (through-zero L X K)
        partial-through c (suc m) few =
            let oa = from-object L F in
            let p = C.prime in
            let w = H.dim x a in
            let v = get_or c m 0 in
            let row = get_or null.entries m [] in
            let P = partial-residues c (suc m) in
            let Q = partial-residues c m in
            let R = null-residues m (omega (arith, few)) in
            let B = S.back_arrow X oa Q in
            let E = S.back_arrow X oa R in
            through-same L
            (same-from-nu L S (S.back_arrow X oa P) (L.add_arrow B (L.scale_arrow v E))
            (S.nu_back X oa P ∙ partial-next c m
            ∙ sym (S.nu_add B (L.scale_arrow v E) ∙ ap (λ r. row_sum p w r (H.nu (C.scale v (H.back x a row)))) (S.nu_back X oa Q)
            ∙ ap (λ r. row_sum p w (partial c m) r) (S.nu_scale v E ∙ ap (λ r. row_scaled p w v r) (S.nu_back X oa R)))))
            (through-add L (partial-through c m (omega (arith, few))) (through-scale L v (each m (omega (arith, few)))))

        -- so it factors through what each of the rows factors through
        span-through : {t : Mor} → Arrow C x a t → Same C x b (C.compose t f) (C.zero x b) → Through C x s a k t
        span-through {t} T z =
            let r = row-in-span T z in
            let oa = from-object L F in
            let N = null-matrix in
            let P = partial-residues r.0 null.row_count in
            through-same L
            (same-from-nu L S T (S.back_arrow X oa P) (r.2 ∙ partial-all r.0 ∙ sym (S.nu_back X oa P)))
            (partial-through r.0 null.row_count (omega (arith, N.is.shaped.row_many)))

    -- the null rows at a generator, as morphisms
    generator-vanishes : (n : ℕ) → n < H.generators → Every (Vanishes C a b f) (null_morphisms C H f n)
    unfolding null
    generator-vanishes n lt =
        let x = H.generator n in
        let X = S.generator_object n lt in
        subst (λ z. Every (Vanishes C a b f) (map (λ row. H.back x z row) (null x X).entries)) (sym F.from)
        (every-mapped (Vanishes C a b f) (λ row. H.back x a row) [] (null x X).entries (λ i below. null-vanishes x X i below))

    all-vanish : (n : ℕ) → n ≤ H.generators → Every (Vanishes C a b f) (first_morphisms C H f n)
    all-vanish zero le = nil
    all-vanish (suc n) le = every-append (all-vanish n (omega (arith, le))) (generator-vanishes n le)

    start-vanishes : Vanishes C a b f (C.zero Z.zero_object (C.source f))
    start-vanishes =
        let z = A.zero_object_is.object in
        let oa = from-object L F in
        let ob = to-object L F in
        subst (λ w. Vanishes C a b f (C.zero Z.zero_object w)) (sym F.from) (vanishes-at (L.zero_arrow Z.zero_object a z oa) (zero-compose L z F))

    answer : Mor
    answer = weak_kernel_of C H Z f

    answer-vanishes : Vanishes C a b f answer
    unfolding answer
    answer-vanishes = list-vanishes (C.zero Z.zero_object (C.source f)) (first_morphisms C H f H.generators) start-vanishes (all-vanish H.generators (omega arith))

    answer-all : Every (λ g. Through C (C.source g) (C.source answer) a answer g) (first_morphisms C H f H.generators)
    unfolding answer
    answer-all = list-new (C.zero Z.zero_object (C.source f)) (first_morphisms C H f H.generators) start-vanishes (all-vanish H.generators (omega arith))

    of-generator : (P : Mor → Type 0) (m n : ℕ) → n < m → Every P (first_morphisms C H f m) → Every P (null_morphisms C H f n)
    of-generator P zero n lt e = absurd (omega (arith, lt))
    of-generator P (suc m) n lt e = ⊎_elim
        (λ (low : n < m). of-generator P m n low (every-left (first_morphisms C H f m) (null_morphisms C H f m) e))
        (λ (high : m ≤ n). let same_n : m ≡ n = omega (arith, lt, high) in subst (λ k. Every P (null_morphisms C H f k)) same_n (every-right (first_morphisms C H f m) (null_morphisms C H f m) e))
        (cases_lt n m)

    -- what f sends to 0, out of a generator
    generator-through : (n : ℕ) → n < H.generators → {t : Mor} → Arrow C (H.generator n) a t → Same C (H.generator n) b (C.compose t f) (C.zero (H.generator n) b) → Through C (H.generator n) (C.source answer) a answer t
    unfolding null
    generator-through n lt T z =
        let x = H.generator n in
        let X = S.generator_object n lt in
        let P = λ (g : Mor). Through C (C.source g) (C.source answer) a answer g in
        let e : Every P (map (λ row. H.back x a row) (null x X).entries) = subst (λ w. Every P (map (λ row. H.back x w row) (null x X).entries)) F.from (of-generator P H.generators n lt answer-all) in
        span-through x X answer-vanishes.arrow
        (λ i below. subst (λ w. Through C w (C.source answer) a answer (H.back x a (get_or (null x X).entries i []))) (S.back_arrow X (from-object L F) (null-residues x X i below)).from
        (every-at P (λ row. H.back x a row) [] (null x X).entries e i below))
        T z

    -- and out of a finite sum of them
    sum-through : {x : Obj} → IsSumOf C (IsGenerator H) x → {t : Mor} → Arrow C x a t → Same C x b (C.compose t f) (C.zero x b) → Through C x (C.source answer) a answer t
    sum-through (empty N) {t} T z =
        through-same L (back L (unit-left L T) ⟫ composed L N.unit (same L T) ⟫ zero-compose L N.object T) (through-zero L N.object answer-vanishes.arrow)
    sum-through (more {s = s} {a = x} {b = y} {i1 = i1} {i2 = i2} {p1 = p1} {p2 = p2} D g h) {t} T z =
        let ob = to-object L F in
        let first : Same C x b (C.compose (C.compose i1 t) f) (C.zero x b) = assoc L D.in1 T F ⟫ composed L (same L D.in1) z ⟫ compose-zero L D.in1 ob in
        let second : Same C y b (C.compose (C.compose i2 t) f) (C.zero y b) = assoc L D.in2 T F ⟫ composed L (same L D.in2) z ⟫ compose-zero L D.in2 ob in
        let one : Through C x (C.source answer) a answer (C.compose i1 t) = at-generator g (L.compose_arrow D.in1 T) first in
        through-same L
        (back L (unit-left L T) ⟫ composed L (back L D.total) (same L T) ⟫ add-compose L (L.compose_arrow D.out1 D.in1) (L.compose_arrow D.out2 D.in2) T ⟫ added L (assoc L D.out1 D.in1 T) (assoc L D.out2 D.in2 T))
        (through-add L (through-before L D.out1 one) (through-before L D.out2 (sum-through h (L.compose_arrow D.in2 T) second)))
      where
        at-generator : {x : Obj} → IsGenerator H x → {t : Mor} → Arrow C x a t → Same C x b (C.compose t f) (C.zero x b) → Through C x (C.source answer) a answer t
        at-generator {x} g {t} T z =
            subst (λ w. Through C w (C.source answer) a answer t) (sym g.is)
            (generator-through g.number g.below (subst (λ w. Arrow C w a t) g.is T) (subst (λ w. Same C w b (C.compose t f) (C.zero w b)) g.is z))

    -- it is a weak kernel, against every test object
    pub weak-kernel-is : IsWeakKernel C (C.source (weak_kernel_of C H Z f)) a b f (weak_kernel_of C H Z f)
    unfolding answer
    weak-kernel-is = record {
      arrow = answer-vanishes.arrow;
      zero = answer-vanishes.null;
      lift = λ {x} T z.
          let h = sum-through (S.generated x (from-object L T)) T z in
          record { by = h.by; arrow = h.arrow; holds = back L h.holds };
    }

    null-from : (n : ℕ) → n ≤ H.generators → AreNullFrom C H f n (first_morphisms C H f n)
    null-from zero le = AreNullFrom.none
    null-from (suc n) le =
        let x = H.generator n in
        AreNullFrom.next (null-from n (omega (arith, le)))
        (record { basis = null_rows_of C.prime (hom_matrix C H (C.identity x) f); is = null_rows_of-is C.prime (hom_matrix C H (C.identity x) f) L.prime_tabled (n-matrix x (S.generator_object n le)).is; each = refl })

    -- and the redundant generators are dropped
    pub weak-kernel-kept : IsKeptKernel C H Z f (weak_kernel_of C H Z f)
    weak-kernel-kept = record {
      morphisms = first_morphisms C H f H.generators;
      null = null-from H.generators (omega arith);
      keeps = subst (λ w. Keeps C Z w (C.zero Z.zero_object (C.source f)) (first_morphisms C H f H.generators) (weak_kernel_of C H Z f)) (sym F.from)
          (list-keeps (C.zero Z.zero_object (C.source f)) (first_morphisms C H f H.generators) start-vanishes (all-vanish H.generators (omega arith)));
    }
