-- Literals of objects and morphisms: which of their parts are wrong, which sizes they meet, which law they break, and the data that they stand for (this project's own script language).
use Rattle.std.specs.Prelude.{◌≡◌, ◌⊎◌, ℕ, ◌<◌, ◌≤◌, ℤ, [], length, slice_get, Some, Result, Ok, Err}
use Rattle.std.specs.List.{All, slice_index_or}
use Rattle.cap_field.specs.Residue.{IsResidueOf}
use Rattle.cap_matrix.specs.Grid.{Grid, IsMatrixOf, entry}
use Rattle.cap_names.specs.declared.literals.EntryLit.{EntryLit}
use Rattle.cap_names.specs.declared.literals.EntryLit.TheVariants.{Int, Coeffs}
use Rattle.cap_names.specs.declared.literals.MatLit.{MatLit}
use Rattle.cap_names.specs.declared.literals.ObjLit.{ObjLit}
use Rattle.cap_names.specs.declared.literals.ObjLit.TheVariants.{Dim, Parts, Relation, Dims}
use Rattle.cap_names.specs.declared.literals.MorLit.{MorLit}
use Rattle.cap_names.specs.declared.literals.MorLit.TheVariants as morphisms
use Rattle.cap_laws.specs.Answers.{Size, numbers, Fits, Names}
use Rattle.cap_data.specs.declared.data.ObjData.{ObjData}
use Rattle.cap_data.specs.declared.data.ObjData.TheVariants as objects
use Rattle.cap_data.specs.declared.data.MorData.{MorData}
use Rattle.cap_data.specs.declared.data.MorData.TheVariants.{Mat}
use Rattle.cap_data.specs.OfMatrices.{read_dimension}
use Rattle.cap_offer.specs.declared.faults.LitFault.{LitFault}
use Rattle.cap_offer.specs.declared.faults.LitFault.TheVariants.{Shape, NotAMorphism, NotUnital, NotAFunctor, NotNatural, TooLarge, NoMemory}
use Rattle.cap_offer.specs.Labels.{Label, vec}

-- a literal: its wrong parts by number, the sizes that it meets, the first law that it breaks, and what it stands for
pub record Literal (D : Type 0) : Type 1 where
  pub wrong : ℕ → Type 0
  pub met : Size → Type 0
  pub breaks : LitFault → Type 0
  pub reads : D → Type 0

-- the least number of which this holds
pub record IsLeast (P : ℕ → Type 0) (n : ℕ) : Type 0 where
  pub is : P n
  pub least : (k : ℕ) → P k → n ≤ k

-- no part is wrong; no size past the limits is met; no law is broken
abbrev pub HasShape : {D : Type 0} → Literal D → Type 0
HasShape L = (part : ℕ) → L.wrong part → ⊥

abbrev pub IsWithin : {D : Type 0} → Literal D → Type 0
IsWithin L = (s : Size) → L.met s → Fits s

abbrev pub IsLawful : {D : Type 0} → Literal D → Type 0
IsLawful L = (law : LitFault) → L.breaks law → ⊥

-- the first law that is broken, where all parts have their shapes and no size past the limits is met
pub record IsFirstBroken {D : Type 0} (L : Literal D) (law : LitFault) : Type 0 where
  pub shape : HasShape L
  pub within : IsWithin L
  pub breaks : L.breaks law

-- the data that the literal stands for, where nothing is wrong
pub record IsGiven {D : Type 0} (L : Literal D) (x : D) : Type 0 where
  pub shape : HasShape L
  pub within : IsWithin L
  pub lawful : IsLawful L
  pub reads : L.reads x

-- a size past the limits, where all parts have their shapes
pub record IsTooLarge {D : Type 0} (L : Literal D) (rows columns : ℕ) : Type 0 where
  pub shape : HasShape L
  pub names : Names L.met rows columns

-- The answer to a literal: the least wrong part, else the size of a matrix past the limits, else the first law that it breaks, else what it stands for. Memory may run out at any time.
abbrev pub Gives : {D : Type 0} → Literal D → Result D LitFault → Type 0
Gives L (Ok x) = IsGiven L x
Gives L (Err (Shape part)) = IsLeast L.wrong part
Gives L (Err (TooLarge size)) = IsTooLarge L size.rows size.cols
Gives L (Err NotAMorphism) = IsFirstBroken L NotAMorphism
Gives L (Err (NotUnital object)) = IsFirstBroken L (NotUnital object)
Gives L (Err (NotAFunctor i j)) = IsFirstBroken L (NotAFunctor i j)
Gives L (Err (NotNatural i)) = IsFirstBroken L (NotNatural i)
Gives L (Err NoMemory) = Unit {0}

-- a literal of another kind's form
abbrev pub of_another_kind : {D : Type 0} → Literal D
of_another_kind = record { wrong = λ part. ⊥; met = λ s. ⊥; breaks = λ law. ⊥; reads = λ x. ⊥ }

-- a dimension stands for itself
abbrev pub IsDimension : ObjLit → Type 0
IsDimension (Dim n) = Unit {0}
IsDimension (Parts parts) = ⊥
IsDimension (Relation src tgt rho) = ⊥
IsDimension (Dims dims maps) = ⊥

abbrev pub dimension_literal : ℕ → Literal ObjData
dimension_literal n = record { wrong = λ part. ⊥; met = λ s. ⊥; breaks = λ law. ⊥; reads = λ x. x ≡ objects.Dim n }

-- entries that are integers
abbrev pub IsInteger : EntryLit → Type 0
IsInteger (Int n) = Unit {0}
IsInteger (Coeffs coefficients) = ⊥

abbrev pub HasIntegers : MatLit → Type 0
HasIntegers m = All (λ row. All IsInteger row) m.rows

-- so many rows of so many entries each; `[]` stands for any matrix without rows or without columns
abbrev pub HasSize : ℕ → ℕ → MatLit → Type 0
HasSize rows columns m = ((length m.rows ≡ rows) × All (λ row. length row ≡ columns) m.rows) ⊎ ((m.rows ≡ []) × ((rows ≡ 0) ⊎ (columns ≡ 0)))

-- in row i and column j stands an integer whose residue modulo p is r
pub record IsResidueAt (p : ℕ) (m : MatLit) (i j r : ℕ) : Type 0 where
  pub integer : ℤ
  pub stands : slice_get (slice_index_or m.rows i []) j ≡ Some (Int integer)
  pub residue : IsResidueOf p integer r

-- the matrix modulo p whose entries are the residues of the literal's
pub record IsMatrixOfLiteral (p rows columns : ℕ) (m : MatLit) (g : Grid) : Type 0 where
  pub is : IsMatrixOf p rows columns g
  pub entries : (i j : ℕ) → i < rows → j < columns → IsResidueAt p m i j (entry g.entries i j)

-- A matrix between dimensions is part 1, and meets its own size.
abbrev pub matrix_literal : ℕ → ℕ → ℕ → MatLit → Literal MorData
matrix_literal p rows columns m = record {
  wrong = λ part. (part ≡ 1) × (HasSize rows columns m → ⊥);
  met = λ s. s ≡ numbers rows columns;
  breaks = λ law. ⊥;
  reads = λ x. (g : Grid) × (x ≡ Mat g) × IsMatrixOfLiteral p rows columns m g;
}

-- the literals of a morphism between dimensions
abbrev pub HasMatrix : MorLit → Type 0
HasMatrix (morphisms.Rows m) = HasIntegers m
HasMatrix (morphisms.Parts ms) = ⊥

abbrev pub matrix_between : ℕ → ObjData → ObjData → MorLit → Literal MorData
matrix_between p a b (morphisms.Rows m) = matrix_literal p (read_dimension a) (read_dimension b) m
matrix_between p a b (morphisms.Parts ms) = of_another_kind

-- and those of a dimension
abbrev pub dimension_of : ObjLit → ℕ
dimension_of (Dim n) = n
dimension_of (Parts parts) = 0
dimension_of (Relation src tgt rho) = 0
dimension_of (Dims dims maps) = 0

-- literals of the form that a category's kind asks for
abbrev pub HasObjectForm : Label → ObjLit → Type 0
HasObjectForm (vec p) lit = IsDimension lit

abbrev pub HasMorphismForm : Label → MorLit → Type 0
HasMorphismForm (vec p) lit = HasMatrix lit

-- the literals of a category's objects, and of its morphisms from a to b
abbrev pub object_literal : Label → ObjLit → Literal ObjData
object_literal (vec p) lit = dimension_literal (dimension_of lit)

abbrev pub morphism_literal : Label → ObjData → ObjData → MorLit → Literal MorData
morphism_literal (vec p) a b lit = matrix_between p a b lit
