-- The residues of a literal of the right size, row after row, are the cells of the matrix that it stands for.
use Rattle.std.proofs.Common.{◌≡◌, ◌⊎◌, ℕ, ◌+◌, ◌*◌, ◌<◌, ℤ, pos, nat_abs, List, [], ◌∷◌, length, map, take, get_or, refl, sym, ap, ◌∙◌, subst, arith, inl, inr, length-append}
use Rattle.std.specs.Prelude.{Some}
use Rattle.std.specs.List.{All, flat_map}
use Rattle.std.proofs.lemmas.List.{length-map, get_or-map, length-take}
use Rattle.std.proofs.lemmas.List.Elements.{All-head, All-tail, All-take, All-get_or}
use Rattle.std.proofs.lemmas.List.Concat.{get_or-flat_map}
use Rattle.std.proofs.lemmas.Option.{slice_get-get_or}
use Rattle.cap_field.specs.Residue.{IsResidueOf}
use Rattle.cap_field.proofs.Remainders.{residue_is, residue_value}
use Rattle.cap_names.specs.declared.literals.EntryLit.{EntryLit}
use Rattle.cap_names.specs.declared.literals.EntryLit.TheVariants.{Int, Coeffs}
use Rattle.cap_names.specs.declared.literals.MatLit.{MatLit}
use Rattle.cap_matrix.specs.Buffer.{matrix_of}
use Rattle.cap_matrix.proofs.Entries.{matrix_by-at, matrix_by-is}
use Rattle.cap_matrix.proofs.Writes.{by_places}
use Rattle.cap_offer.specs.Cells.{residue_of, residues_of}
use Rattle.cap_offer.specs.Literals.{IsInteger, HasIntegers, HasSize, IsResidueAt, IsMatrixOfLiteral}

-- the residue of an integer is this one
pub residue-is-of : (p : ℕ) (n : ℤ) (r : ℕ) → IsResidueOf p n r → r ≡ residue_of p (Int n)
residue-is-of p n r h = ap nat_abs (sym (residue_value p n r h))

-- rows of one length have as many values as places, where each entry has one
pub length-mapped : {B : Type 0} (f : EntryLit → B) (columns : ℕ) (rows : List (List EntryLit)) → All (λ row. length row ≡ columns) rows → length (flat_map (map f) rows) ≡ length rows * columns
length-mapped f columns [] each = let none : 0 ≡ 0 * columns = omega arith in none
length-mapped f columns (row ∷ rows) each =
    let first : length row ≡ columns = All-head (λ row. length row ≡ columns) row rows each in
    let others : length (flat_map (map f) rows) ≡ length rows * columns = length-mapped f columns rows (All-tail (λ row. length row ≡ columns) row rows each) in
    let one : length (map f row) ≡ length row = length-map row f in
    grind (arith, length-append (map f row) (flat_map (map f) rows), first, others, one)

-- the one of row i and column j stands behind i whole rows
pub mapped-at : {B : Type 0} (f : EntryLit → B) (o : B) (columns : ℕ) (rows : List (List EntryLit)) (i j : ℕ) (d : EntryLit) → All (λ row. length row ≡ columns) rows → i < length rows → j < columns
    → get_or (flat_map (map f) rows) (i * columns + j) o ≡ f (get_or (get_or rows i []) j d)
mapped-at f o columns rows i j d each row column =
    let wide : length (get_or rows i []) ≡ columns = All-get_or (λ row. length row ≡ columns) rows i [] row each in
    let before : length (flat_map (map f) (take i rows)) ≡ i * columns = grind (arith, length-mapped f columns (take i rows) (All-take (λ row. length row ≡ columns) i rows each), length-take i rows) in
    let inside : j < length (map f (get_or rows i [])) = grind (arith, length-map (get_or rows i []) f, wide) in
    let found : get_or (flat_map (map f) rows) (length (flat_map (map f) (take i rows)) + j) o ≡ get_or (map f (get_or rows i [])) j o = get_or-flat_map (map f) rows i j [] o row inside in
    ap (λ k. get_or (flat_map (map f) rows) (k + j) o) (sym before) ∙ found ∙ get_or-map f (get_or rows i []) j d o (subst (λ n. j < n) (sym wide) column)

-- an entry that is an integer
pub record IsIntegerWith (p : ℕ) (e : EntryLit) : Type 0 where
  pub integer : ℤ
  pub same : e ≡ Int integer
  pub residue : IsResidueOf p integer (residue_of p e)

pub integer-with : (p : ℕ) (e : EntryLit) → 0 < p → IsInteger e → IsIntegerWith p e
integer-with p (Int n) some is = record { integer = n; same = refl; residue = residue_is p n some }
integer-with p (Coeffs coefficients) some is = absurd is

-- the cells that a literal has
pub record AreCells (p rows columns : ℕ) (m : MatLit) (cells : List ℕ) : Type 0 where
  pub many : length cells ≡ rows * columns
  pub at : (i j : ℕ) → i < rows → j < columns → IsResidueAt p m i j (get_or cells (i * columns + j) 0)

-- without rows or without columns there is no place
pub no-places : (rows columns : ℕ) → (rows ≡ 0) ⊎ (columns ≡ 0) → rows * columns ≡ 0
no-places rows columns (inl e) = ap (λ n. n * columns) e ∙ (let none : 0 * columns ≡ 0 = omega arith in none)
no-places rows columns (inr e) = ap (λ n. rows * n) e ∙ (let none : rows * 0 ≡ 0 = omega arith in none)

pub no-place : (rows columns i j : ℕ) → (rows ≡ 0) ⊎ (columns ≡ 0) → i < rows → j < columns → ⊥
no-place rows columns i j (inl e) row column = omega arith
no-place rows columns i j (inr e) row column = omega arith

module _ (p columns : ℕ) (m : MatLit) (some : 0 < p) (integers : HasIntegers m) where
  -- where the rows have this length
  cell-at : All (λ row. length row ≡ columns) m.rows → (i j : ℕ) → i < length m.rows → j < columns → IsResidueAt p m i j (get_or (residues_of p m.rows) (i * columns + j) 0)
  cell-at each i j row column =
      let wide : length (get_or m.rows i []) ≡ columns = All-get_or (λ row. length row ≡ columns) m.rows i [] row each in
      let inside : j < length (get_or m.rows i []) = subst (λ n. j < n) (sym wide) column in
      let whole : All IsInteger (get_or m.rows i []) = All-get_or (λ row. All IsInteger row) m.rows i [] row integers in
      let d : EntryLit = Int (pos 0) in
      let e = integer-with p (get_or (get_or m.rows i []) j d) some (All-get_or IsInteger (get_or m.rows i []) j d inside whole) in
      record {
        integer = e.integer;
        stands = slice_get-get_or (get_or m.rows i []) j d inside ∙ ap (λ x. Some x) e.same;
        residue = subst (IsResidueOf p e.integer) (sym (mapped-at (residue_of p) 0 columns m.rows i j d each row column)) e.residue;
      }

  -- a literal of the right size has them
  pub are_cells : (rows : ℕ) → HasSize rows columns m → AreCells p rows columns m (residues_of p m.rows)
  are_cells rows (inl h) = record {
    many = length-mapped (residue_of p) columns m.rows h.1 ∙ ap (λ n. n * columns) h.0;
    at = λ i j row column. cell-at h.1 i j (subst (λ n. i < n) (sym h.0) row) column;
  }
  are_cells rows (inr h) = record {
    many = ap (λ xs. length (residues_of p xs)) h.0 ∙ sym (no-places rows columns h.1);
    at = λ i j row column. absurd (no-place rows columns i j h.1 row column);
  }

pub read-cells : (p rows columns : ℕ) (m : MatLit) (cells : List ℕ) → 0 < p → HasIntegers m → HasSize rows columns m → cells ≡ residues_of p m.rows → AreCells p rows columns m cells
read-cells p rows columns m cells some integers size same = subst (AreCells p rows columns m) (sym same) (are_cells p columns m some integers rows size)

-- and the matrix of these cells is the one that the literal stands for
module _ (p rows columns : ℕ) (m : MatLit) (cells : List ℕ) (A : AreCells p rows columns m cells) where
  pub small-cells : (k : ℕ) → k < rows * columns → get_or cells k 0 < p
  small-cells = by_places p rows columns cells (λ i j row column. (A.at i j row column).residue.below)

  pub matrix-of-literal : IsMatrixOfLiteral p rows columns m (matrix_of p rows columns cells)
  matrix-of-literal = record {
    is = matrix_by-is p rows columns (λ i j. get_or cells (i * columns + j) 0) (λ i j row column. (A.at i j row column).residue.below);
    entries = λ i j row column. subst (IsResidueAt p m i j) (sym (matrix_by-at p rows columns (λ i j. get_or cells (i * columns + j) 0) i j row column)) (A.at i j row column);
  }
