-- A buffer of canonical solutions, row after row.
use Rattle.std.proofs.Common.{◌≡◌, ℕ, ◌+◌, ◌*◌, ◌<◌, List, [], get_or, refl, sym, ap, ◌∙◌, subst, arith}
use Rattle.cap_matrix.specs.Grid.{Grid}
use Rattle.cap_matrix.specs.Buffer.{matrix_of}
use Rattle.cap_matrix.specs.Reduced.{IsSolution}
use Rattle.cap_matrix.proofs.Rows.{rows_by-at, row_by-at}
use Rattle.cap_matrix.proofs.Entries.{matrix_by-at, matrix_by-is}
use Rattle.cap_matrix.proofs.Writes.{by_places}
use Rattle.cap_reduce.specs.Answers.{AreSolutions}
use Rattle.cap_vec.specs.Solved.{IsLiftBuffer}

-- the canonical solutions for the rows of x
abbrev RowsSolved : Grid → Grid → List ℕ → Type 0
RowsSolved x f cells = AreSolutions f x.row_count (λ i. get_or x.entries i []) cells

solved_residues : (x f : Grid) (cells : List ℕ) → RowsSolved x f cells → (i j : ℕ) → i < x.row_count → j < f.row_count → get_or cells (i * f.row_count + j) 0 < f.prime
solved_residues x f cells h i j lt below =
    subst (λ v. v < f.prime) (row_by-at f.row_count (λ j. get_or cells (i * f.row_count + j) 0) j below) ((h.each i lt).residues j below)

pub solved_buffer : (x f : Grid) (cells : List ℕ) → RowsSolved x f cells → IsLiftBuffer x f cells
solved_buffer x f cells h =
    let n = f.row_count in
    let U = matrix_by-is f.prime x.row_count n (λ i j. get_or cells (i * n + j) 0) (solved_residues x f cells h) in
    record {
      long = h.long;
      rows = record {
        shaped = U.is;
        high = refl;
        wide = refl;
        rows = λ i lt. subst (λ z. IsSolution f (get_or x.entries i []) z) (sym (rows_by-at x.row_count n (λ i j. get_or cells (i * n + j) 0) i lt)) (h.each i lt);
      };
    }

-- the entries of the buffer are residues
pub buffer_residues : (p rows cols : ℕ) (x f : Grid) (cells : List ℕ) → f.prime ≡ p → x.row_count ≡ rows → f.row_count ≡ cols → IsLiftBuffer x f cells → (k : ℕ) → k < rows * cols → get_or cells k 0 < p
buffer_residues p rows cols x f cells ep er ec h =
    by_places p rows cols cells (λ i j lt below.
    let n = f.row_count in
    let under : i < x.row_count = omega (arith, er) in
    let inner : j < n = omega (arith, ec) in
    let small = h.rows.shaped.residues i j under inner in
    subst (λ q. get_or cells (i * cols + j) 0 < q) ep
    (subst (λ w. get_or cells (i * w + j) 0 < f.prime) ec
    (subst (λ v. v < f.prime) (matrix_by-at f.prime x.row_count n (λ i j. get_or cells (i * n + j) 0) i j under inner) small)))

-- the matrix of the buffer, its counts written otherwise
pub buffer_matrix : (p rows cols : ℕ) (x f : Grid) (cells : List ℕ) → f.prime ≡ p → x.row_count ≡ rows → f.row_count ≡ cols → matrix_of p rows cols cells ≡ matrix_of f.prime x.row_count f.row_count cells
buffer_matrix p rows cols x f cells ep er ec =
    ap (λ n. matrix_of p rows n cells) (sym ec) ∙ ap (λ n. matrix_of p n f.row_count cells) (sym er) ∙ ap (λ q. matrix_of q x.row_count f.row_count cells) (sym ep)
