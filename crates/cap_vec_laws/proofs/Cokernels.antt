-- Transposes turn products round, so a kernel of the transpose, transposed, is a cokernel, and a lift of transposes, transposed, a colift.
use Rattle.std.proofs.Common.{◌≡◌, ℕ, ◌≤◌, refl, sym, ap, ◌∙◌, arith}
use Rattle.std.specs.Prelude.{Some, None}
use Rattle.cap_field.proofs.Fermat.{tabled_range}
use Rattle.cap_matrix.specs.Grid.{Grid, IsMatrixOf, product_of, zero_of, transposed_of}
use Rattle.cap_matrix.specs.Reduced.{IsNullBasis}
use Rattle.cap_matrix.proofs.Entries.{product-matrix, zero-matrix}
use Rattle.cap_matrix.proofs.Transpose.{transposed-matrix, transposed-twice, transposed-product, transposed-zero}
use Rattle.cap_laws.specs.Universal.{IsKernel, IsCokernel}
use Rattle.cap_laws.proofs.Opposite.{turn, turned, turn-same}
use Rattle.cap_vec_laws.specs.Vec.{vec_data}
use Rattle.cap_vec_laws.specs.Laws.{NullBasisIsCokernel, ColiftByTransposes}
use Rattle.cap_vec_laws.proofs.Arrows.{as-arrow, as-matrix, as-same, whole-matrix}
use Rattle.cap_vec_laws.proofs.Kernels.{kernel-from-basis}

pub cokernel-by-transposes : {p k a b : ℕ} {f n : Grid} → 1 ≤ p → IsMatrixOf p a b f → IsKernel (vec_data p) k b a (transposed_of f) n
    → IsCokernel (vec_data p) a b k f (transposed_of n)
cokernel-by-transposes {p} {k} {a} {b} {f} {n} pos F K =
    let N = as-matrix K.arrow in
    let TN = transposed-matrix N in
    let TF = transposed-matrix F in
    -- f·n' = (n·f')'
    let zero : product_of f (transposed_of n) ≡ zero_of p a k =
    ap (λ x. product_of x (transposed_of n)) (sym (transposed-twice F)) ∙ sym (transposed-product pos N TF) ∙ ap transposed_of K.zero.congruent ∙ transposed-zero p k a pos in
    record {
      arrow = turn (as-arrow TN);
      zero = turn-same (as-same (product-matrix pos F TN) (zero-matrix p a k pos) zero);
      lift = λ {x} {t} T z.
          let X = as-matrix (turned T) in
          let TX = transposed-matrix X in
          let u = K.lift (as-arrow TX) (as-same (product-matrix pos TX TF) (zero-matrix p x a pos)
          (sym (transposed-product pos F X) ∙ ap transposed_of z.congruent ∙ transposed-zero p a x pos)) in
          let UM = as-matrix u.arrow in
          let U = transposed-matrix UM in
          record {
            by = transposed_of u.by;
            arrow = turn (as-arrow U);
            holds = turn-same (as-same (product-matrix pos TN U) X (sym (transposed-product pos UM N) ∙ ap transposed_of u.holds.congruent ∙ transposed-twice X));
            only = λ {v} {w} V W q r.
                let VM = as-matrix (turned V) in
                let WM = as-matrix (turned W) in
                let TV = transposed-matrix VM in
                let TW = transposed-matrix WM in
                let low : product_of (transposed_of v) n ≡ transposed_of t =
                ap (λ y. product_of (transposed_of v) y) (sym (transposed-twice N)) ∙ sym (transposed-product pos TN VM) ∙ ap transposed_of q.congruent in
                let high : product_of (transposed_of w) n ≡ transposed_of t =
                ap (λ y. product_of (transposed_of w) y) (sym (transposed-twice N)) ∙ sym (transposed-product pos TN WM) ∙ ap transposed_of r.congruent in
                let e = u.only (as-arrow TV) (as-arrow TW) (as-same (product-matrix pos TV N) TX low) (as-same (product-matrix pos TW N) TX high) in
                record { left = V; right = W; congruent = sym (transposed-twice VM) ∙ ap transposed_of e.congruent ∙ transposed-twice WM };
          };
    }

pub cokernel-from-basis : {p a b : ℕ} {m n : Grid} → 2 ≤ p → IsMatrixOf p a b m → IsNullBasis (transposed_of m) n
    → IsCokernel (vec_data p) a b n.row_count m (transposed_of n)
cokernel-from-basis big M B = cokernel-by-transposes (omega arith) M (kernel-from-basis big (transposed-matrix M) B)

pub null_basis_cokernel : NullBasisIsCokernel
null_basis_cokernel p t m n M B = cokernel-from-basis (tabled_range p t).0 (whole-matrix M) B

pub colift_by_transposes : ColiftByTransposes
colift_by_transposes p h t f (Some u) IT IF meet s =
    let pos : 1 ≤ p = omega (arith, (tabled_range p h).0) in
    let F = whole-matrix IF in
    let T : IsMatrixOf p f.row_count t.column_count t = record { is = IT; from = meet; to = refl } in
    let S = as-matrix s.0 in
    let U = transposed-matrix S in (
      turn (as-arrow U),
      turn-same (as-same (product-matrix pos F U) T
          (ap (λ x. product_of x (transposed_of u)) (sym (transposed-twice F)) ∙ sym (transposed-product pos S (transposed-matrix F)) ∙ ap transposed_of s.1.congruent ∙ transposed-twice T)),
    )
colift_by_transposes p h t f None IT IF meet n =
    let pos : 1 ≤ p = omega (arith, (tabled_range p h).0) in
    let F = whole-matrix IF in
    let T : IsMatrixOf p f.row_count t.column_count t = record { is = IT; from = meet; to = refl } in
    λ s.
    let W = as-matrix (turned s.arrow) in
    let TW = transposed-matrix W in
    n (record {
      by = transposed_of s.by;
      arrow = as-arrow TW;
      holds = as-same (product-matrix pos TW (transposed-matrix F)) (transposed-matrix T) (sym (transposed-product pos F W) ∙ ap transposed_of s.holds.congruent);
    })
