-- The sizes that the computations of the Freyd category meet: those of the calls below that they make.
use Rattle.std.specs.Prelude.{◌≡◌, ℕ, ◌⊎◌, ◌-◌}
use Rattle.cap_laws.specs.Answers.{Size}
use Rattle.cap_laws.specs.Linear.{CategoryData}
use Rattle.cap_laws.specs.Universal.{negate}

-- p1·f + p2·g can be formed
pub record RowsFit {Obj Mor : Type 0} (C : CategoryData Obj Mor) (p1 p2 f g : Mor) : Type 0 where
  pub first : C.is_morphism p1
  pub second : C.is_morphism p2
  pub top : C.is_morphism f
  pub bottom : C.is_morphism g
  pub meet1 : C.target p1 ≡ C.source f
  pub meet2 : C.target p2 ≡ C.source g
  pub sources : C.source p1 ≡ C.source p2
  pub targets : C.target f ≡ C.target g

-- met by p1·f + p2·g, from those met by composites and sums
abbrev pub rows_meets : {Obj Mor : Type 0} → CategoryData Obj Mor → (Mor → Mor → Size → Type 0) → (Mor → Mor → Size → Type 0) → Mor → Mor → Mor → Mor → Size → Type 0
rows_meets C compose add p1 p2 f g s = (compose p1 f s ⊎ compose p2 g s) ⊎ add (C.compose p1 f) (C.compose p2 g) s

-- met by f − g, from those met by multiples and sums
abbrev pub difference_meets : {Obj Mor : Type 0} → CategoryData Obj Mor → (ℕ → Mor → Size → Type 0) → (Mor → Mor → Size → Type 0) → Mor → Mor → Size → Type 0
difference_meets C scale add f g s = scale (C.prime - 1) g s ⊎ add f (negate C g) s
