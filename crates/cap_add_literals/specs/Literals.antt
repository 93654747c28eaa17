-- Literals of additive closures: lists of objects of a table, and matrices of combinations; which of their parts are wrong, which sizes they meet, and the data that they stand for (this project's own script language).
use Rattle.std.specs.Prelude.{◌≡◌, ◌≢◌, ◌⊎◌, ℕ, suc, ◌+◌, ◌*◌, ◌<◌, ◌≤◌, ℤ, pos, List, [], length, slice_get, slice_index, Some}
use Rattle.std.specs.List.{All, slice_index_or}
use Rattle.cap_field.specs.Residue.{IsResidueOf}
use Rattle.cap_names.specs.declared.literals.EntryLit.{EntryLit}
use Rattle.cap_names.specs.declared.literals.EntryLit.TheVariants.{Int, Coeffs}
use Rattle.cap_names.specs.declared.literals.MatLit.{MatLit}
use Rattle.cap_names.specs.declared.literals.ObjLit.{ObjLit}
use Rattle.cap_names.specs.declared.literals.ObjLit.TheVariants.{Dim, Parts, Relation, Dims}
use Rattle.cap_names.specs.declared.literals.MorLit.{MorLit}
use Rattle.cap_names.specs.declared.literals.MorLit.TheVariants as morphisms
use Rattle.cap_laws.specs.Table.{TableData, width_of}
use Rattle.cap_addclosure.specs.Sizes.{closure_size}
use Rattle.cap_data.specs.declared.data.ObjData.{ObjData}
use Rattle.cap_data.specs.declared.data.ObjData.TheVariants as objects
use Rattle.cap_data.specs.declared.data.MorData.{MorData}
use Rattle.cap_data.specs.declared.data.MorData.TheVariants.{Entries}
use Rattle.cap_encoded.specs.OfClosures.{read_list}
use Rattle.cap_offer.specs.Literals.{Literal, HasSize, of_another_kind}

-- a list of objects of a table stands for itself
abbrev pub IsList : ℕ → ObjLit → Type 0
IsList objects (Dim n) = ⊥
IsList objects (Parts parts) = (length parts ≤ 2048) × All (λ x. x < objects) parts
IsList objects (Relation src tgt rho) = ⊥
IsList objects (Dims dims maps) = ⊥

abbrev pub list_of : ObjLit → List ℕ
list_of (Dim n) = []
list_of (Parts parts) = parts
list_of (Relation src tgt rho) = []
list_of (Dims dims maps) = []

abbrev pub list_literal : List ℕ → Literal ObjData
list_literal parts = record { wrong = λ part. ⊥; met = λ s. ⊥; breaks = λ law. ⊥; reads = λ x. x ≡ objects.Parts parts }

-- entries that are coefficients
abbrev pub IsCoefficients : EntryLit → Type 0
IsCoefficients (Int n) = ⊥
IsCoefficients (Coeffs coefficients) = Unit {0}

abbrev pub HasCoefficients : MatLit → Type 0
HasCoefficients m = All (λ row. All IsCoefficients row) m.rows

-- in row i and column j stand these coefficients
abbrev pub StandAt : MatLit → ℕ → ℕ → List ℤ → Type 0
StandAt m i j coefficients = slice_get (slice_index_or m.rows i []) j ≡ Some (Coeffs coefficients)

-- An entry between the parts of two lists is numbered from 1, row by row; it is wrong where it has another number of coefficients than the Hom of its two parts.
pub record IsWrongEntry (T : TableData) (xs ys : List ℕ) (m : MatLit) (part : ℕ) : Type 0 where
  pub row : ℕ
  pub column : ℕ
  pub above : row < length xs
  pub beside : column < length ys
  pub number : part ≡ suc (row * length ys + column)
  pub coefficients : List ℤ
  pub stand : StandAt m row column coefficients
  pub wrong : length coefficients ≢ width_of T (slice_index xs row) (slice_index ys column)

-- the residues modulo p of coefficients, in order
pub record AreResiduesOf (p : ℕ) (coefficients : List ℤ) (residues : List ℕ) : Type 0 where
  pub many : length residues ≡ length coefficients
  pub each : (k : ℕ) → k < length coefficients → IsResidueOf p (slice_index_or coefficients k (pos 0)) (slice_index residues k)

-- in row i and column j stand coefficients whose residues modulo p are these
pub record AreResiduesAt (p : ℕ) (m : MatLit) (i j : ℕ) (residues : List ℕ) : Type 0 where
  pub coefficients : List ℤ
  pub stand : StandAt m i j coefficients
  pub are : AreResiduesOf p coefficients residues

-- the entries, row by row, whose coefficients are the residues of the literal's
pub record AreEntriesOfLiteral (p rows columns : ℕ) (m : MatLit) (entries : List (List ℕ)) : Type 0 where
  pub many : length entries ≡ rows * columns
  pub each : (i j : ℕ) → i < rows → j < columns → AreResiduesAt p m i j (slice_index_or entries (i * columns + j) [])

-- A matrix of combinations between two lists: its rows and columns are part 0, each entry is a part of its own, and it meets its own size.
abbrev pub entries_literal : TableData → List ℕ → List ℕ → MatLit → Literal MorData
entries_literal T xs ys m = record {
  wrong = λ part. ((part ≡ 0) × (HasSize (length xs) (length ys) m → ⊥)) ⊎ IsWrongEntry T xs ys m part;
  met = λ s. s ≡ closure_size T xs ys;
  breaks = λ law. ⊥;
  reads = λ x. (entries : List (List ℕ)) × (x ≡ Entries entries) × AreEntriesOfLiteral T.prime (length xs) (length ys) m entries;
}

-- the literals of a morphism between lists
abbrev pub HasEntries : MorLit → Type 0
HasEntries (morphisms.Rows m) = HasCoefficients m
HasEntries (morphisms.Parts ms) = ⊥

abbrev pub entries_between : TableData → ObjData → ObjData → MorLit → Literal MorData
entries_between T a b (morphisms.Rows m) = entries_literal T (read_list a) (read_list b) m
entries_between T a b (morphisms.Parts ms) = of_another_kind
