-- Morphisms kept one after another.
use Rattle.std.proofs.Common.{◌≡◌, ℕ, zero, suc, ◌+◌, ◌-◌, ◌*◌, ◌<◌, List, [], ◌∷◌, ◌++◌, map, length, take, drop, get_or, Option, refl, sym, ap, ◌∙◌, subst, arith, ⊎_elim}
use Rattle.std.specs.Prelude.{Some, None}
use Rattle.std.proofs.lemmas.Bool.{cases_eq}
use Rattle.cap_matrix.specs.Grid.{Grid, IsMatrixOf}
use Rattle.cap_matrix.specs.Buffer.{IsBufferOf}
use Rattle.cap_matrix.proofs.Buffers.{buffer_matrix}
use Rattle.cap_matrix.proofs.Entries.{small-at}
use Rattle.cap_laws.specs.Linear.{CategoryData, IsLinear, Arrow}
use Rattle.cap_laws.specs.declared.values.Sum.{Sum}
use Rattle.cap_laws.proofs.Calculus.{from-object}
use Rattle.cap_laws.proofs.Blocks.{rows-arrow}
use Rattle.cap_homlaw.specs.Rows.{AreResidues}
use Rattle.cap_homlaw.proofs.Rows.{row_ext}
use Rattle.cap_solve_laws.specs.Sums.{SumData, HasSums}
use Rattle.cap_solve_laws.specs.WeakKernels.{above}
use Rattle.cap_solve_laws.proofs.WeakKernels.{kept_by, kept_of, factor_row, null_morphisms, first_morphisms}
use Rattle.cap_homlaw.specs.Meets.{HomMeets}
use Rattle.cap_homlaw.specs.Hom.{HomData, IsHom, hom_matrix}
use Rattle.cap_laws.specs.Answers.{Size}
use Rattle.cap_solve_laws.proofs.Solver.{solution_row}
use Rattle.cap_solve.specs.Sizes.{SumMeets, IsSizeInTest}
use Rattle.cap_solve.proofs.Additions.{line_part, line_length}

-- the sizes and the sums of a category's calls
abbrev pub sum_meets : {Obj Mor : Type 0} → (Size → Type 0) → (Obj → Size → Type 0) → (Obj → Obj → Size → Type 0) → (Mor → Mor → Size → Type 0) → (Mor → Mor → Size → Type 0) → (Obj → Obj → Size → Type 0) → SumMeets Obj Mor
sum_meets z i o a c d = record { zero_object = z; identity = i; zero = o; add = a; compose = c; direct_sum = d }

abbrev pub sum_data : {Obj Mor : Type 0} → Obj → (Obj → Obj → Sum Mor) → SumData Obj Mor
sum_data z s = record { zero_object = z; sum = s }

-- what is kept is a morphism into the same object
module _ {Obj Mor : Type 0} {C : CategoryData Obj Mor} {Z : SumData Obj Mor} (L : IsLinear C) (A : HasSums C Z) {a : Obj} where
  above-arrow : {k g : Mor} → Arrow C (C.source k) a k → Arrow C (C.source g) a g → Arrow C (C.source (above C Z k g)) a (above C Z k g)
  above-arrow {k} {g} K G =
      let R = rows-arrow L (A.sum_is (C.source k) (C.source g) (from-object L K) (from-object L G)) K G in
      record { is = R.is; from = refl; to = R.to }

  pub kept_by-arrow : {k g : Mor} (o : Option (List ℕ)) → Arrow C (C.source k) a k → Arrow C (C.source g) a g → Arrow C (C.source (kept_by C Z k g o)) a (kept_by C Z k g o)
  kept_by-arrow (Some row) K G = K
  kept_by-arrow None K G = above-arrow K G

module _ {Obj Mor : Type 0} (C : CategoryData Obj Mor) (H : HomData Obj Mor) (Z : SumData Obj Mor) where
  -- one row more
  kept-more : (f : List ℕ → Mor) (k : Mor) (rows : List (List ℕ)) (i : ℕ) → i < length rows
      → kept_of C H Z k (map f (take (suc i) rows)) ≡ kept_of C H Z (kept_of C H Z k (map f (take i rows))) (f (get_or rows i []) ∷ [])
  kept-more f k [] i lt = absurd (omega (arith, lt))
  kept-more f k (r ∷ rs) zero lt = refl
  kept-more f k (r ∷ rs) (suc i) lt = kept-more f (kept_by C Z k (f r) (factor_row C H k (f r))) rs i (omega (arith, lt))

  pub kept-next : (f : List ℕ → Mor) (k : Mor) (rows : List (List ℕ)) (i : ℕ) → i < length rows → let m = kept_of C H Z k (map f (take i rows)) in let g = f (get_or rows i []) in
      kept_of C H Z k (map f (take (i + 1) rows)) ≡ kept_by C Z m g (factor_row C H m g)
  kept-next f k rows i lt = ap (λ n. kept_of C H Z k (map f (take n rows))) (let e : i + 1 ≡ suc i = omega arith in e) ∙ kept-more f k rows i lt

  -- one list after another
  kept-append : (k : Mor) (xs ys : List Mor) → kept_of C H Z k (xs ++ ys) ≡ kept_of C H Z (kept_of C H Z k xs) ys
  kept-append k [] ys = refl
  kept-append k (x ∷ xs) ys = kept-append (kept_by C Z k x (factor_row C H k x)) xs ys

  pub generators-next : (f k : Mor) (n : ℕ) → kept_of C H Z k (first_morphisms C H f (n + 1)) ≡ kept_of C H Z (kept_of C H Z k (first_morphisms C H f n)) (null_morphisms C H f n)
  generators-next f k n = ap (λ m. kept_of C H Z k (first_morphisms C H f m)) (let e : n + 1 ≡ suc n = omega arith in e) ∙ kept-append k (first_morphisms C H f n) (null_morphisms C H f n)

-- a row of a matrix in its buffer
pub row-held : (g : Grid) (cells : List ℕ) (s e i : ℕ) → IsBufferOf g cells → i < g.row_count → s ≡ i * g.column_count → e ≡ s + g.column_count → take (e - s) (drop s cells) ≡ get_or g.entries i []
row-held g cells s e i held lt start end =
    row_ext (line_length g cells s e i held lt start end) ((buffer_matrix g cells held).is.shaped.column_many i lt)
    (λ t below. line_part g cells s e i held lt start end t below)

pub row-residues : {p n w : ℕ} {g : Grid} → IsMatrixOf p n w g → (i : ℕ) → i < n → AreResidues p w (get_or g.entries i [])
row-residues G i lt = record {
  long = G.is.shaped.column_many i (omega (arith, lt, G.from)) ∙ G.to;
  residues = λ j below. small-at G i j lt below;
}

-- the morphism of a row of a matrix in its buffer
module _ {Obj Mor : Type 0} {C : CategoryData Obj Mor} {H : HomData Obj Mor} (L : IsLinear C) (S : IsHom C H) {unit f : Mor} (U : C.is_morphism unit) (F : C.is_morphism f) (rows : Grid) (cells : List ℕ) (i n : ℕ)
    (held : IsBufferOf rows cells) (lt : i < rows.row_count) (R : IsMatrixOf C.prime rows.row_count (H.dim (C.source unit) (C.source f)) rows) (wide : n ≡ rows.column_count) (x a : Obj) (ex : x ≡ C.source unit) (ea : a ≡ C.source f) where
  pub part-is : take (i * n + n - i * n) (drop (i * n) cells) ≡ get_or rows.entries i []
  part-is = row-held rows cells (i * n) (i * n + n) i held lt (ap (λ z. i * z) wide) (ap (λ z. i * n + z) wide)

  pub part-fits : AreResidues C.prime (H.dim x a) (take (i * n + n - i * n) (drop (i * n) cells))
  part-fits =
      subst (λ r. AreResidues C.prime (H.dim x a) r) (sym part-is)
      (subst (λ y. AreResidues C.prime (H.dim y a) (get_or rows.entries i [])) (sym ex)
      (subst (λ y. AreResidues C.prime (H.dim (C.source unit) y) (get_or rows.entries i [])) (sym ea) (row-residues R i lt)))

  pub part-back : H.back x a (take (i * n + n - i * n) (drop (i * n) cells)) ≡ H.back (C.source unit) (C.source f) (get_or rows.entries i [])
  part-back = ap (λ y. H.back y a (take (i * n + n - i * n) (drop (i * n) cells))) ex ∙ ap (λ y. H.back (C.source unit) y (take (i * n + n - i * n) (drop (i * n) cells))) ea ∙ ap (λ r. H.back (C.source unit) (C.source f) r) part-is

  pub part-met : (P : Obj → Obj → List ℕ → Type 0) → P (C.source unit) (C.source f) (get_or rows.entries i []) → P x a (take (i * n + n - i * n) (drop (i * n) cells))
  part-met P h = subst (λ r. P x a r) (sym part-is) (subst (λ y. P y a (get_or rows.entries i [])) (sym ex) (subst (λ y. P (C.source unit) y (get_or rows.entries i [])) (sym ea) h))

  pub part-meets : (P : Obj → Obj → List ℕ → Type 0) → P x a (take (i * n + n - i * n) (drop (i * n) cells)) → P (C.source unit) (C.source f) (get_or rows.entries i [])
  part-meets P h = subst (λ y. P (C.source unit) y (get_or rows.entries i [])) ea (subst (λ y. P y a (get_or rows.entries i [])) ex (subst (λ r. P x a r) part-is h))

  pub row-arrow : (g : Mor) → g ≡ H.back (C.source unit) (C.source f) (get_or rows.entries i []) → Arrow C (C.source unit) (C.source f) g
  row-arrow g e = subst (λ z. Arrow C (C.source unit) (C.source f) z) (sym e) (S.back_arrow (L.source_object unit U) (L.source_object f F) (row-residues R i lt))

-- a test at equal morphisms
module _ {Obj Mor : Type 0} (V : SumMeets Obj Mor) (W : HomMeets Obj Mor) (C : CategoryData Obj Mor) (H : HomData Obj Mor) (Z : SumData Obj Mor) {unit k g unit' k' g' : Mor} (eu : unit ≡ unit') (ek : k ≡ k') (eg : g ≡ g') where
  pub test-moved : (s : Size) → IsSizeInTest V W C H Z unit k g s → IsSizeInTest V W C H Z unit' k' g' s
  test-moved s m = subst (λ z. IsSizeInTest V W C H Z unit' k' z s) eg (subst (λ z. IsSizeInTest V W C H Z unit' z g s) ek (subst (λ z. IsSizeInTest V W C H Z z k g s) eu m))

-- one morphism more is kept
pub kept-same : {Obj Mor : Type 0} (C : CategoryData Obj Mor) (H : HomData Obj Mor) (Z : SumData Obj Mor) {unit k g k' g' : Mor} → unit ≡ C.identity (C.source g) → k ≡ k' → g ≡ g'
    → kept_by C Z k g (solution_row C.prime (hom_matrix C H unit k) (H.nu g)) ≡ kept_by C Z k' g' (factor_row C H k' g')
kept-same C H Z {unit} {k} {g} {k'} {g'} eu ek eg =
    ap (λ u. kept_by C Z k g (solution_row C.prime (hom_matrix C H u k) (H.nu g))) eu ∙ ap (λ z. kept_by C Z z g (factor_row C H z g)) ek ∙ ap (λ z. kept_by C Z k' z (factor_row C H k' z)) eg

-- what holds at the places so far and at the next one
pub below-next : (P : ℕ → Type 0) (i : ℕ) → ((n : ℕ) → n < i → P n) → P i → (n : ℕ) → n < i + 1 → P n
below-next P i h p n lt = ⊎_elim (λ e. subst P (sym e) p) (λ ne. h n (omega arith)) (cases_eq n i)
