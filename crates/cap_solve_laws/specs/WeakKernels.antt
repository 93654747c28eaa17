-- Weak kernels by generators: the null rows at each generator, those dropped that factor through the sum of those kept.
use Rattle.std.specs.Prelude.{◌≡◌, ℕ, suc, List, [], ◌∷◌, ◌++◌, map}
use Rattle.cap_matrix.specs.Grid.{Grid}
use Rattle.cap_matrix.specs.Reduced.{IsNullBasis}
use Rattle.cap_laws.specs.Linear.{CategoryData}
use Rattle.cap_laws.specs.Factor.{Through, rows}
use Rattle.cap_homlaw.specs.Hom.{HomData, hom_matrix}
use Rattle.cap_solve_laws.specs.Sums.{SumData}

-- k above g, out of the direct sum of their sources
abbrev pub above : {Obj Mor : Type 0} → CategoryData Obj Mor → SumData Obj Mor → Mor → Mor → Mor
above C Z k g = rows C (Z.sum (C.source k) (C.source g)).p1 (Z.sum (C.source k) (C.source g)).p2 k g

-- m is k with those of a list put below it, in order, that don't factor through what stands there
pub data Keeps {Obj Mor : Type 0} (C : CategoryData Obj Mor) (Z : SumData Obj Mor) (a : Obj) : Mor → List Mor → Mor → Type 0 where
  done : {k : Mor} → Keeps C Z a k [] k
  dropped : {k g m : Mor} {gs : List Mor} → Through C (C.source g) (C.source k) a k g → Keeps C Z a k gs m → Keeps C Z a k (g ∷ gs) m
  kept : {k g m : Mor} {gs : List Mor} → (Through C (C.source g) (C.source k) a k g → ⊥) → Keeps C Z a (above C Z k g) gs m → Keeps C Z a k (g ∷ gs) m

-- gs are the morphisms out of x whose coefficients are a null-row basis of h(1, f): a basis of those that f sends to 0
pub record AreNullAt {Obj Mor : Type 0} (C : CategoryData Obj Mor) (H : HomData Obj Mor) (f : Mor) (x : Obj) (gs : List Mor) : Type 0 where
  pub basis : Grid
  pub is : IsNullBasis (hom_matrix C H (C.identity x) f) basis
  pub each : gs ≡ map (λ row. H.back x (C.source f) row) basis.entries

-- they are those out of the first n generators, in order
pub data AreNullFrom {Obj Mor : Type 0} (C : CategoryData Obj Mor) (H : HomData Obj Mor) (f : Mor) : ℕ → List Mor → Type 0 where
  none : AreNullFrom C H f 0 []
  next : {n : ℕ} {gs hs : List Mor} → AreNullFrom C H f n gs → AreNullAt C H f (H.generator n) hs → AreNullFrom C H f (suc n) (gs ++ hs)

-- m is the weak kernel of f by generators: those of all generators, kept on top of 0 out of the zero object
pub record IsKeptKernel {Obj Mor : Type 0} (C : CategoryData Obj Mor) (H : HomData Obj Mor) (Z : SumData Obj Mor) (f m : Mor) : Type 0 where
  pub morphisms : List Mor
  pub null : AreNullFrom C H f H.generators morphisms
  pub keeps : Keeps C Z (C.source f) (C.zero Z.zero_object (C.source f)) morphisms m
