-- What literals stand for, and that it is one.
use Rattle.std.proofs.Common.{◌≡◌, ℕ, ℤ, true, List, refl, sym, ap, ◌∙◌, subst}
use Rattle.std.specs.Prelude.{Option, Some}
use Rattle.cap_field.specs.Residue.{IsResidueOf}
use Rattle.cap_field.proofs.Remainders.{residue_unique}
use Rattle.cap_matrix.specs.Grid.{Grid, fits_limits}
use Rattle.cap_matrix.specs.Buffer.{matrix_of}
use Rattle.cap_matrix.proofs.Filled.{fits_parts}
use Rattle.cap_laws.specs.Answers.{Fits}
use Rattle.cap_matrix.proofs.Entries.{matrix_ext}
use Rattle.cap_names.specs.declared.literals.EntryLit.{EntryLit}
use Rattle.cap_names.specs.declared.literals.EntryLit.TheVariants.{Int}
use Rattle.cap_names.specs.declared.literals.MatLit.{MatLit}
use Rattle.cap_names.specs.declared.literals.ObjLit.{ObjLit}
use Rattle.cap_names.specs.declared.literals.MorLit.{MorLit}
use Rattle.cap_names.specs.declared.literals.MorLit.TheVariants as morphisms
use Rattle.cap_data.specs.declared.data.ObjData.{ObjData}
use Rattle.cap_data.specs.declared.data.MorData.TheVariants.{Mat}
use Rattle.cap_offer.specs.Labels.{Label, vec}
use Rattle.cap_offer.proofs.Cells.{AreCells, matrix-of-literal}
use Rattle.cap_offer.specs.Literals.{HasSize, IsGiven, IsResidueAt, IsMatrixOfLiteral, matrix_literal, object_literal, morphism_literal, matrix_between}
use Rattle.cap_offer.specs.Laws.{ReadsOnce, LiteralsAreOne}

-- one integer stands at a place
one-integer : (a b : ℤ) (o : Option EntryLit) → o ≡ Some (Int a) → o ≡ Some (Int b) → a ≡ b
one-integer a b o h k = cc

one-residue : (p : ℕ) (m : MatLit) (i j r s : ℕ) → IsResidueAt p m i j r → IsResidueAt p m i j s → r ≡ s
one-residue p m i j r s h k =
    residue_unique p k.integer r s (subst (λ n. IsResidueOf p n r) (one-integer h.integer k.integer _ h.stands k.stands) h.residue) k.residue

one-matrix : (p rows columns : ℕ) (m : MatLit) (g h : Grid) → IsMatrixOfLiteral p rows columns m g → IsMatrixOfLiteral p rows columns m h → g ≡ h
one-matrix p rows columns m g h G H = matrix_ext G.is H.is (λ i j row column. one-residue p m i j _ _ (G.entries i j row column) (H.entries i j row column))

matrix-once : (p rows columns : ℕ) (m : MatLit) → ReadsOnce (matrix_literal p rows columns m)
matrix-once p rows columns m x y h k = h.1 ∙ ap (λ g. Mat g) (one-matrix p rows columns m h.0 k.0 h.2 k.2) ∙ sym k.1

between-once : (p : ℕ) (a b : ObjData) (lit : MorLit) → ReadsOnce (matrix_between p a b lit)
between-once p a b (morphisms.Rows m) = matrix-once p _ _ m
between-once p a b (morphisms.Parts ms) = λ x y h k. absurd h

objects-once : (l : Label) (lit : ObjLit) → ReadsOnce (object_literal l lit)
objects-once (vec p) lit = λ x y h k. h ∙ sym k

morphisms-once : (l : Label) (a b : ObjData) (lit : MorLit) → ReadsOnce (morphism_literal l a b lit)
morphisms-once (vec p) a b lit = between-once p a b lit

pub literals_are_one : LiteralsAreOne
literals_are_one = record { objects = objects-once; morphisms = morphisms-once }

-- the matrix of a literal's cells is what it stands for, within the limits
pub given-literal : (p rows columns : ℕ) (m : MatLit) (cells : List ℕ) (g : Grid) → AreCells p rows columns m cells → HasSize rows columns m → fits_limits rows columns ≡ true
    → g ≡ matrix_of p rows columns cells → IsGiven (matrix_literal p rows columns m) (Mat g)
given-literal p rows columns m cells g A size fits e = record {
  shape = λ part wrong. wrong.1 size;
  within = λ s is.
      let parts = fits_parts rows columns fits in
      subst Fits (sym is) (record { rows = parts.0; columns = parts.1; cells = parts.2 });
  lawful = λ law broken. absurd broken;
  reads = (g, refl, subst (IsMatrixOfLiteral p rows columns m) (sym e) (matrix-of-literal p rows columns m cells A));
}
