-- The sizes that systems and weak kernels meet: those of the calls on the category below that they make, and of the matrices that they reduce.
use Rattle.std.specs.Prelude.{◌≡◌, ◌⊎◌, ℕ, ◌<◌, List, [], map, take, drop, length, slice_index_or, Option, Some, None}
use Rattle.cap_laws.specs.Answers.{Size, numbers}
use Rattle.cap_laws.specs.Linear.{CategoryData}
use Rattle.cap_laws.specs.Universal.{opposite}
use Rattle.cap_laws.specs.Systems.{Nth}
use Rattle.cap_laws.specs.declared.values.Equation.{Equation}
use Rattle.cap_laws.specs.declared.values.System.{System}
use Rattle.cap_homlaw.specs.Hom.{HomData, hom_matrix, opposite_hom}
use Rattle.cap_homlaw.specs.Meets.{HomMeets}
use Rattle.cap_solve_laws.specs.Systems.{unknowns_width, system_matrix, values_row, values_width}
use Rattle.cap_solve_laws.specs.Sums.{SumData, opposite_sums}
use Rattle.cap_solve_laws.proofs.Solver.{solution_row, null_rows_of}
use Rattle.cap_solve_laws.proofs.WeakKernels.{kept_of, first_morphisms}

-- what the calls of an additive category meet that a weak kernel makes
pub record SumMeets (Obj Mor : Type 0) : Type 1 where
  pub zero_object : Size → Type 0
  pub identity : Obj → Size → Type 0
  pub zero : Obj → Obj → Size → Type 0
  pub add : Mor → Mor → Size → Type 0
  pub compose : Mor → Mor → Size → Type 0
  pub direct_sum : Obj → Obj → Size → Type 0

-- one of a list meets a size
pub record OneMeets {A : Type 0} (xs : List A) (P : A → Type 0) : Type 0 where
  pub number : ℕ
  pub item : A
  pub is : Nth xs number item
  pub meets : P item

-- the morphism of an unknown, for a row of all coefficients
pub record IsSizeInMorphisms {Obj Mor : Type 0} (W : HomMeets Obj Mor) (H : HomData Obj Mor) (us : List (Obj × Obj)) (row : List ℕ) (z : Size) : Type 0 where
  pub number : ℕ
  pub ends : Obj × Obj
  pub is : Nth us number ends
  pub meets : W.back ends.0 ends.1 (take (H.dim ends.0 ends.1) (drop (unknowns_width H (take number us)) row)) z

abbrev pub IsSizeInAnswer : {Obj Mor : Type 0} → HomMeets Obj Mor → HomData Obj Mor → List (Obj × Obj) → Option (List ℕ) → Size → Type 0
IsSizeInAnswer W H us (Some row) z = IsSizeInMorphisms W H us row z
IsSizeInAnswer W H us None z = ⊥

-- the terms and the values of the equations, by the calls h and nu
abbrev pub IsSizeInEquations : {Obj Mor : Type 0} → HomMeets Obj Mor → List (Equation Mor) → Size → Type 0
IsSizeInEquations W es z = OneMeets es (λ e. OneMeets e.terms (λ t. W.h t.left t.right z) ⊎ W.nu e.value z)

-- a system: its matrix, its terms and values, and the morphisms of its solution
abbrev pub IsSizeInSystem : {Obj Mor : Type 0} → HomMeets Obj Mor → CategoryData Obj Mor → HomData Obj Mor → System Obj Mor → Size → Type 0
IsSizeInSystem W C H s z =
    ((z ≡ numbers (unknowns_width H s.unknowns) (values_width C H s.equations)) ⊎ IsSizeInEquations W s.equations z)
    ⊎ IsSizeInAnswer W H s.unknowns (solution_row C.prime (system_matrix C H s.unknowns s.equations) (values_row H s.equations)) z

-- k above g: the direct sum of their sources, the two parts, and their sum
abbrev pub IsSizeInJoin : {Obj Mor : Type 0} → SumMeets Obj Mor → CategoryData Obj Mor → SumData Obj Mor → Mor → Mor → Size → Type 0
IsSizeInJoin V C Z k g z =
    let d = Z.sum (C.source k) (C.source g) in
    ((V.direct_sum (C.source k) (C.source g) z ⊎ V.compose d.p1 k z) ⊎ V.compose d.p2 g z) ⊎ V.add (C.compose d.p1 k) (C.compose d.p2 g) z

-- the join of a generator that isn't dropped
abbrev pub IsSizeInKeep : {Obj Mor : Type 0} → SumMeets Obj Mor → CategoryData Obj Mor → SumData Obj Mor → Mor → Mor → Option (List ℕ) → Size → Type 0
IsSizeInKeep V C Z k g (Some row) z = ⊥
IsSizeInKeep V C Z k g None z = IsSizeInJoin V C Z k g z

-- the system u·k = g by which g is tested, and its join to k where it has no solution
abbrev pub IsSizeInTest : {Obj Mor : Type 0} → SumMeets Obj Mor → HomMeets Obj Mor → CategoryData Obj Mor → HomData Obj Mor → SumData Obj Mor → Mor → Mor → Mor → Size → Type 0
IsSizeInTest V W C H Z unit k g z = (W.h unit k z ⊎ W.nu g z) ⊎ IsSizeInKeep V C Z k g (solution_row C.prime (hom_matrix C H unit k) (H.nu g)) z

-- the n-th row at x: its morphism g into a, the system u·k = g by which it is tested against those kept before, and its join to them
abbrev pub IsSizeAtRow : {Obj Mor : Type 0} → SumMeets Obj Mor → HomMeets Obj Mor → CategoryData Obj Mor → HomData Obj Mor → SumData Obj Mor → Obj → Obj → Mor → List (List ℕ) → ℕ → Size → Type 0
IsSizeAtRow V W C H Z x a k rows n z =
    let row = slice_index_or rows n [] in
    let g = H.back x a row in
    let kept = kept_of C H Z k (map (λ r. H.back x a r) (take n rows)) in
    W.back x a row z ⊎ IsSizeInTest V W C H Z (C.identity x) kept g z

-- rows at x one after another
pub record IsSizeInRows {Obj Mor : Type 0} (V : SumMeets Obj Mor) (W : HomMeets Obj Mor) (C : CategoryData Obj Mor) (H : HomData Obj Mor) (Z : SumData Obj Mor) (x a : Obj) (k : Mor) (rows : List (List ℕ)) (z : Size) : Type 0 where
  pub number : ℕ
  pub below : number < length rows
  pub meets : IsSizeAtRow V W C H Z x a k rows number z

-- the n-th generator: itself, its identity, h(1, f), its null rows uncut, and these rows one after another, on top of k
abbrev pub IsSizeAtGenerator : {Obj Mor : Type 0} → SumMeets Obj Mor → HomMeets Obj Mor → CategoryData Obj Mor → HomData Obj Mor → SumData Obj Mor → Mor → ℕ → Mor → Size → Type 0
IsSizeAtGenerator V W C H Z f n k z =
    let x = H.generator n in
    let rows = null_rows_of C.prime (hom_matrix C H (C.identity x) f) in
    (((W.generator n z ⊎ V.identity x z) ⊎ (W.h (C.identity x) f z ⊎ (z ≡ numbers rows.row_count rows.column_count)))
    ⊎ IsSizeInRows V W C H Z x (C.source f) k rows.entries z)

-- the generators one after another, each on top of what those before it left
pub record IsSizeInGenerators {Obj Mor : Type 0} (V : SumMeets Obj Mor) (W : HomMeets Obj Mor) (C : CategoryData Obj Mor) (H : HomData Obj Mor) (Z : SumData Obj Mor) (f : Mor) (z : Size) : Type 0 where
  pub number : ℕ
  pub below : number < H.generators
  pub meets : IsSizeAtGenerator V W C H Z f number (kept_of C H Z (C.zero Z.zero_object (C.source f)) (first_morphisms C H f number)) z

-- a weak kernel: the empty sum, and each generator
abbrev pub IsSizeInWeakKernel : {Obj Mor : Type 0} → SumMeets Obj Mor → HomMeets Obj Mor → CategoryData Obj Mor → HomData Obj Mor → SumData Obj Mor → Mor → Size → Type 0
IsSizeInWeakKernel V W C H Z f z = (V.zero_object z ⊎ V.zero Z.zero_object (C.source f) z) ⊎ IsSizeInGenerators V W C H Z f z

-- the same with all arrows turned round
abbrev pub opposite_sum_meets : {Obj Mor : Type 0} → SumMeets Obj Mor → SumMeets Obj Mor
opposite_sum_meets V = record { zero_object = V.zero_object; identity = V.identity; zero = λ a b. V.zero b a; add = V.add; compose = λ f g. V.compose g f; direct_sum = V.direct_sum }

abbrev pub opposite_hom_meets : {Obj Mor : Type 0} → HomMeets Obj Mor → HomMeets Obj Mor
opposite_hom_meets W = record { generator = W.generator; nu = W.nu; back = λ a b row. W.back b a row; h = λ l r. W.h r l }

-- a weak cokernel: the weak kernel of the opposite category
abbrev pub IsSizeInWeakCokernel : {Obj Mor : Type 0} → SumMeets Obj Mor → HomMeets Obj Mor → CategoryData Obj Mor → HomData Obj Mor → SumData Obj Mor → Mor → Size → Type 0
IsSizeInWeakCokernel V W C H Z f z = IsSizeInWeakKernel (opposite_sum_meets V) (opposite_hom_meets W) (opposite C) (opposite_hom H) (opposite_sums Z) f z
