-- The cells of a matrix in its buffer.
use Rattle.std.proofs.Common.{◌≡◌, ℕ, ◌*◌, ◌/◌, ◌%◌, List, get_or, sym, ap, ◌∙◌, subst}
use Rattle.std.proofs.lemmas.Nat.{div_below, mod_below}
use Rattle.std.proofs.Math.Nat.{div-add-mod'}
use Rattle.cap_matrix.specs.Grid.{Grid, entry}
use Rattle.cap_matrix.specs.Buffer.{IsBufferOf}
use Rattle.cap_matrix.proofs.Buffers.{buffer-at}
use Rattle.cap_matrix.proofs.Rows.{length-row_by, row_by-at}
use Rattle.cap_matrix.proofs.Writes.{some_below}
use Rattle.cap_laws.specs.Answers.{Size, Fits}
use Rattle.cap_homlaw.proofs.Rows.{row_ext}
use Rattle.cap_vec_hom_laws.specs.Homs.{cells_row}
use Rattle.cap_vec.specs.Sizes.{size_of, IsSizeOf}
use Rattle.cap_vec.proofs.Kernels.{fits_size}

pub cells-held : (g : Grid) (cells : List ℕ) → IsBufferOf g cells → cells ≡ cells_row g
cells-held g cells held =
    let n = g.column_count in
    let size = g.row_count * n in
    let f = λ (k : ℕ). entry g.entries (k / n) (k % n) in
    row_ext held.flat.cells_length (length-row_by size f)
    (λ k lt.
    let some = some_below k g.row_count n lt in
    ap (λ i. get_or cells i 0) (sym (div-add-mod' k n)) ∙ sym (buffer-at g cells held (k / n) (k % n) (div_below k n g.row_count some lt) (mod_below k n some)) ∙ sym (row_by-at size f k lt))

-- the size of a matrix that is held in a buffer is within the limits
pub size_met : (g : Grid) → Fits (size_of g) → (s : Size) → IsSizeOf g s → Fits s
size_met g h s e = subst (λ (z : Size). Fits z) (sym e) h

pub held_fits : (g : Grid) (cells : List ℕ) → IsBufferOf g cells → Fits (size_of g)
held_fits g cells held = fits_size g.row_count g.column_count held.flat.size
