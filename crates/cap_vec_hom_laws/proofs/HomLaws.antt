-- The cells of matrices are a homomorphism structure.
use Rattle.std.proofs.Common.{◌≡◌, ℕ, zero, suc, ◌+◌, ◌*◌, ◌/◌, ◌%◌, ◌<◌, ◌≤◌, true, List, length, get_or, refl, sym, ap, ◌∙◌, subst, arith}
use Rattle.std.proofs.lemmas.Nat.{mul-add-lt, div_below, mod_below, div-mul-add, mod-mul-add}
use Rattle.std.proofs.Math.Nat.{div-add-mod', one-mul, zero-mul}
use Rattle.cap_field.specs.Residue.{is_tabled}
use Rattle.cap_field.proofs.Fermat.{tabled_range}
use Rattle.cap_matrix.specs.Grid.{Grid, IsMatrixOf, entry, product_of, transposed_of, kron_of}
use Rattle.cap_matrix.specs.Buffer.{matrix_of}
use Rattle.cap_matrix.proofs.Rows.{length-row_by, row_by-at}
use Rattle.cap_matrix.proofs.Sums.{total-one}
use Rattle.cap_matrix.proofs.Writes.{some_below}
use Rattle.cap_matrix.proofs.Entries.{matrix_ext, matrix_by-at, matrix_by-is, small-at, sum-matrix, sum-at, scaled-matrix, scaled-at, product-matrix, delta, delta-same, delta-other}
use Rattle.cap_matrix.proofs.Transpose.{transposed-matrix, transposed-at}
use Rattle.cap_matrix.proofs.TwoSided.{kron-matrix, kron-at, three-product-at}
use Rattle.cap_homlaw.specs.Rows.{AreResidues, unit_row}
use Rattle.cap_homlaw.specs.Hom.{IsHom, IsSumOf, IsGenerator, hom_matrix, basis_of}
use Rattle.cap_homlaw.specs.Hom.IsSumOf.{empty, more}
use Rattle.cap_homlaw.proofs.Rows.{row_ext, unit-residues}
use Rattle.cap_homlaw.proofs.TwoSided.{hom_matrix-matrix}
use Rattle.cap_vec_laws.specs.Vec.{vec_data}
use Rattle.cap_vec_laws.proofs.Arrows.{as-arrow, as-matrix}
use Rattle.cap_vec_laws.proofs.DirectSum.{direct_sum, zero_object}
use Rattle.cap_vec_laws.proofs.Linear.{vec_linear}
use Rattle.cap_vec_hom_laws.specs.Homs.{cells_row, vec_hom, HomIsKronecker}

-- the cells of a matrix, told by its ends
cells-many : {p a b : ℕ} {g : Grid} → IsMatrixOf p a b g → g.row_count * g.column_count ≡ a * b
cells-many {a = a} {g = g} G = ap (λ n. n * g.column_count) G.from ∙ ap (λ m. a * m) G.to

cells-long : {p a b : ℕ} {g : Grid} → IsMatrixOf p a b g → length (cells_row g) ≡ a * b
cells-long {g = g} G = length-row_by (g.row_count * g.column_count) (λ k. entry g.entries (k / g.column_count) (k % g.column_count)) ∙ cells-many G

cells-at : {p a b : ℕ} {g : Grid} → IsMatrixOf p a b g → (k : ℕ) → k < a * b → get_or (cells_row g) k 0 ≡ entry g.entries (k / b) (k % b)
cells-at {g = g} G k lt =
    let many = cells-many G in
    row_by-at (g.row_count * g.column_count) (λ k. entry g.entries (k / g.column_count) (k % g.column_count)) k (omega (arith, lt, many))
    ∙ ap (λ n. entry g.entries (k / n) (k % n)) G.to

-- the quotient and the remainder of a place are a row and a column
row-of : (k a b : ℕ) → k < a * b → k / b < a
row-of k a b lt = div_below k b a (some_below k a b lt) lt

column-of : (k a b : ℕ) → k < a * b → k % b < b
column-of k a b lt = mod_below k b (some_below k a b lt)

back-at : (p a b : ℕ) (row : List ℕ) (k : ℕ) → k < a * b → entry (matrix_of p a b row).entries (k / b) (k % b) ≡ get_or row k 0
back-at p a b row k lt =
    matrix_by-at p a b (λ i j. get_or row (i * b + j) 0) (k / b) (k % b) (row-of k a b lt) (column-of k a b lt) ∙ ap (λ n. get_or row n 0) (div-add-mod' k b)

module _ (p : ℕ) (t : is_tabled p ≡ true) where
  big : 2 ≤ p
  big = (tabled_range p t).0

  pos : 1 ≤ p
  pos = let h = big in omega (arith, h)

  cells-residues : {a b : ℕ} {g : Grid} → IsMatrixOf p a b g → AreResidues p (a * b) (cells_row g)
  cells-residues {a} {b} G = record {
    long = cells-long G;
    residues = λ k lt. subst (λ z. z < p) (sym (cells-at G k lt)) (small-at G (k / b) (k % b) (row-of k a b lt) (column-of k a b lt));
  }

  back-matrix : {a b : ℕ} {row : List ℕ} → AreResidues p (a * b) row → IsMatrixOf p a b (matrix_of p a b row)
  back-matrix {a} {b} {row} R = matrix_by-is p a b (λ i j. get_or row (i * b + j) 0) (λ i j lt below. R.residues (i * b + j) (omega (arith, mul-add-lt i b j a lt below)))

  cells-back : (a b : ℕ) {row : List ℕ} → AreResidues p (a * b) row → cells_row (matrix_of p a b row) ≡ row
  cells-back a b {row} R =
      let G = back-matrix R in
      row_ext (cells-long G) R.long (λ k lt. cells-at G k lt ∙ back-at p a b row k lt)

  cells-tell : {a b : ℕ} {f g : Grid} → IsMatrixOf p a b f → IsMatrixOf p a b g → cells_row f ≡ cells_row g → f ≡ g
  cells-tell {a} {b} {f} {g} F G e =
      matrix_ext F G
      (λ i j lt below.
      let k = i * b + j in
      let inside : k < a * b = omega (arith, mul-add-lt i b j a lt below) in
      let at = λ (h : Grid) (M : IsMatrixOf p a b h). cells-at M k inside ∙ ap (λ n. entry h.entries n (k % b)) (div-mul-add i b j below) ∙ ap (λ n. entry h.entries i n) (mod-mul-add i b j below) in
      sym (at f F) ∙ ap (λ (r : List ℕ). get_or r k 0) e ∙ at g G)

  -- each dimension is a sum of ones
  ones : (n : ℕ) → IsSumOf (vec_data p) (IsGenerator (vec_hom p)) n
  ones zero = empty (zero_object p t)
  ones (suc n) =
      let s : 1 + n ≡ suc n = omega arith in
      subst (λ m. IsSumOf (vec_data p) (IsGenerator (vec_hom p)) m) s (more (direct_sum p t 1 n) (record { number = 0; below = omega arith; is = refl }) (ones n))

  pub vec_has_hom : IsHom (vec_data p) (vec_hom p)
  vec_has_hom = record {
    nu_row = λ F. cells-residues (as-matrix F);
    back_arrow = λ a b R. as-arrow (back-matrix R);
    nu_back = λ {a} {b} o q R. cells-back a b R;
    nu_same = λ s. ap cells_row s.congruent;
    same_nu = λ F G e. cells-tell (as-matrix F) (as-matrix G) e;
    nu_add = λ {a} {b} {f} {g} F G.
        let A = as-matrix F in
        let B = as-matrix G in
        let S = sum-matrix g pos A in
        row_ext (cells-long S) (length-row_by (a * b) (λ k. (get_or (cells_row f) k 0 + get_or (cells_row g) k 0) % p))
        (λ k lt. cells-at S k lt ∙ sum-at g A (k / b) (k % b) (row-of k a b lt) (column-of k a b lt)
        ∙ ap (λ z. (z + entry g.entries (k / b) (k % b)) % p) (sym (cells-at A k lt)) ∙ ap (λ z. (get_or (cells_row f) k 0 + z) % p) (sym (cells-at B k lt))
        ∙ sym (row_by-at (a * b) (λ k. (get_or (cells_row f) k 0 + get_or (cells_row g) k 0) % p) k lt));
    nu_scale = λ {a} {b} {f} n F.
        let A = as-matrix F in
        let S = scaled-matrix n pos A in
        row_ext (cells-long S) (length-row_by (a * b) (λ k. n * get_or (cells_row f) k 0 % p))
        (λ k lt. cells-at S k lt ∙ scaled-at n A (k / b) (k % b) (row-of k a b lt) (column-of k a b lt)
        ∙ ap (λ z. n * z % p) (sym (cells-at A k lt)) ∙ sym (row_by-at (a * b) (λ k. n * get_or (cells_row f) k 0 % p) k lt));
    generator_object = λ n lt. tt;
    generated = λ a o. ones a;
  }

  -- row k of the matrix of l and r
  pub hom_is_kronecker : HomIsKronecker p
  hom_is_kronecker = record {
    law = λ {x} {a} {b} {y} {l} {r} A B.
        let L = vec_linear p t in
        let K = kron-matrix pos (transposed-matrix A) B in
        let M = hom_matrix-matrix L vec_has_hom (as-arrow A) (as-arrow B) in
        matrix_ext M K (λ k c lt below. same-entry A B M k c lt below);
  }
    where
      same-entry : {x a b y : ℕ} {l r : Grid} → IsMatrixOf p x a l → IsMatrixOf p b y r → IsMatrixOf p (a * b) (x * y) (hom_matrix (vec_data p) (vec_hom p) l r)
          → (k c : ℕ) → k < a * b → c < x * y → entry (hom_matrix (vec_data p) (vec_hom p) l r).entries k c ≡ entry (kron_of (transposed_of l) r).entries k c
      same-entry {x} {a} {b} {y} {l} {r} A B M k c lt below =
          let H = vec_hom p in
          let e = basis_of H a b k in
          let U = unit-residues p (a * b) k big in
          let E = back-matrix U in
          let P = product-matrix pos (product-matrix pos A E) B in
          let i = c / y in
          let j = c % y in
          let row = row-of c x y below in
          let column = column-of c x y below in
          let f = λ (q : ℕ). entry e.entries (q / b) (q % b) * (entry l.entries i (q / b) * entry r.entries (q % b) j) in
          let cell = λ (q : ℕ) (inner : q < a * b). back-at p a b (unit_row (a * b) k) q inner ∙ row_by-at (a * b) (λ n. delta n k) q inner in
          let rows = M.from in
          let columns = M.to in
          matrix_by-at p (H.dim l.column_count r.row_count) (H.dim l.row_count r.column_count)
          (λ k c. get_or (H.nu (product_of (product_of l (basis_of H l.column_count r.row_count k)) r)) c 0) k c (omega (arith, lt, rows)) (omega (arith, below, columns))
          ∙ ap (λ n. get_or (cells_row (product_of (product_of l (basis_of H n r.row_count k)) r)) c 0) A.to
          ∙ ap (λ n. get_or (cells_row (product_of (product_of l (basis_of H a n k)) r)) c 0) B.from
          ∙ cells-at P c below
          ∙ three-product-at pos A E B i j row column
          ∙ ap (λ s. s % p) (total-one (a * b) k f lt
          (λ q inner apart. ap (λ z. z * (entry l.entries i (q / b) * entry r.entries (q % b) j)) (cell q inner ∙ delta-other q k apart) ∙ zero-mul (entry l.entries i (q / b) * entry r.entries (q % b) j))
          ∙ ap (λ z. z * (entry l.entries i (k / b) * entry r.entries (k % b) j)) (cell k lt ∙ delta-same k) ∙ one-mul (entry l.entries i (k / b) * entry r.entries (k % b) j))
          ∙ ap (λ z. z * entry r.entries (k % b) j % p) (sym (transposed-at A (k / b) i (row-of k a b lt) row))
          ∙ sym (kron-at (transposed-matrix A) B k c lt below)
