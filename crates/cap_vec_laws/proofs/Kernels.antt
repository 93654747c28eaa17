-- Kernels in plain matrices are the kernels of the category, and the null-row basis is one.
use Rattle.std.proofs.Common.{◌≡◌, ℕ, ◌≤◌, refl, sym, ap, ◌∙◌, subst, arith}
use Rattle.cap_field.proofs.Fermat.{tabled_range}
use Rattle.cap_matrix.specs.Grid.{Grid, IsMatrix, IsMatrixOf, product_of, zero_of}
use Rattle.cap_matrix.specs.Reduced.{IsNullBasis}
use Rattle.cap_matrix.specs.Kernel.{IsKernelOf}
use Rattle.cap_matrix.proofs.Entries.{product-matrix, zero-matrix}
use Rattle.cap_reduce.proofs.NullBasis.{null_basis_is_kernel}
use Rattle.cap_laws.specs.Universal.{IsKernel}
use Rattle.cap_vec_laws.specs.Vec.{vec_data}
use Rattle.cap_vec_laws.specs.Laws.{KernelInPlainMatrices, NullBasisIsKernel}
use Rattle.cap_vec_laws.proofs.Arrows.{as-arrow, as-matrix, as-same, whole-matrix}

-- the ends of a matrix say how many rows and columns a zero matrix has
zero_ends : {p x y a b : ℕ} → x ≡ a → y ≡ b → zero_of p x y ≡ zero_of p a b
zero_ends {p} {x} {y} {a} {b} e s = ap (λ n. zero_of p n y) e ∙ ap (λ n. zero_of p a n) s

pub kernel-of-plain : {p a b : ℕ} {f k : Grid} → 1 ≤ p → IsMatrixOf p a b f → IsKernelOf f k → IsKernel (vec_data p) k.row_count a b f k
kernel-of-plain {p} {a} {b} {f} {k} pos F K =
    let sf = F.is.prime in
    let KM : IsMatrixOf p k.row_count a k = subst (λ n. IsMatrixOf p k.row_count n k) F.from (subst (λ q. IsMatrixOf q k.row_count f.row_count k) sf K.matrix) in
    let sk : k.prime ≡ p = KM.is.prime in
    let r = k.row_count in
    record {
      arrow = as-arrow KM;
      zero = as-same (product-matrix pos KM F) (zero-matrix p r b pos)
          (K.zero ∙ ap (λ q. zero_of q r f.column_count) sf ∙ ap (λ n. zero_of p r n) F.to);
      lift = λ {x} {t} T z.
          let TM = as-matrix T in
          let there : IsMatrixOf f.prime t.row_count f.row_count t = record { is = subst (λ q. IsMatrix q t) (sym sf) TM.is; from = refl; to = TM.to ∙ sym F.from } in
          let null : product_of t f ≡ zero_of f.prime t.row_count f.column_count =
          z.congruent ∙ zero_ends (sym TM.from) (sym F.to) ∙ ap (λ q. zero_of q t.row_count f.column_count) (sym sf) in
          let u = K.lift t there null in
          let U : IsMatrixOf p x r u.factor = subst (λ n. IsMatrixOf p n r u.factor) TM.from (subst (λ q. IsMatrixOf q t.row_count r u.factor) sk u.is.matrix) in
          let known = λ (v : Grid) (V : IsMatrixOf p x r v) (e : product_of v k ≡ t).
          u.is.only v (subst (λ n. IsMatrixOf k.prime n r v) (sym TM.from) (subst (λ q. IsMatrixOf q x r v) (sym sk) V)) e in
          record {
            by = u.factor;
            arrow = as-arrow U;
            holds = as-same (product-matrix pos U KM) TM u.is.gives;
            only = λ {v} {w} V W e s. as-same (as-matrix V) (as-matrix W) (known v (as-matrix V) e.congruent ∙ sym (known w (as-matrix W) s.congruent));
          };
    }

pub plain-of-kernel : {p a b : ℕ} {f k : Grid} → 1 ≤ p → IsMatrixOf p a b f → IsKernel (vec_data p) k.row_count a b f k → IsKernelOf f k
plain-of-kernel {p} {a} {b} {f} {k} pos F K =
    let sf = F.is.prime in
    let KM = as-matrix K.arrow in
    let sk : k.prime ≡ p = KM.is.prime in
    let r = k.row_count in
    record {
      matrix = subst (λ n. IsMatrixOf f.prime r n k) (sym F.from) (subst (λ q. IsMatrixOf q r a k) (sym sf) KM);
      zero = K.zero.congruent ∙ ap (λ q. zero_of q r b) (sym sf) ∙ ap (λ n. zero_of f.prime r n) (sym F.to);
      lift = λ t T e.
          let n = t.row_count in
          let TM : IsMatrixOf p n a t = subst (λ c. IsMatrixOf p n c t) F.from (subst (λ q. IsMatrixOf q n f.row_count t) sf T) in
          let null : product_of t f ≡ zero_of p n b = e ∙ ap (λ q. zero_of q n f.column_count) sf ∙ ap (λ c. zero_of p n c) F.to in
          let u = K.lift (as-arrow TM) (as-same (product-matrix pos TM F) (zero-matrix p n b pos) null) in
          record {
            factor = u.by;
            is = record {
              matrix = subst (λ q. IsMatrixOf q n r u.by) (sym sk) (as-matrix u.arrow);
              gives = u.holds.congruent;
              only = λ v V s.
                  let VM : IsMatrixOf p n r v = subst (λ q. IsMatrixOf q n r v) sk V in
                  let same = u.only (as-arrow VM) u.arrow (as-same (product-matrix pos VM KM) TM s) u.holds in
                  same.congruent;
            };
          };
    }

pub kernel_in_plain_matrices : KernelInPlainMatrices
kernel_in_plain_matrices p t f k IF =
    let pos : 1 ≤ p = omega (arith, (tabled_range p t).0) in
    (λ K. kernel-of-plain pos (whole-matrix IF) K, λ K. plain-of-kernel pos (whole-matrix IF) K)

pub kernel-from-basis : {p a b : ℕ} {m n : Grid} → 2 ≤ p → IsMatrixOf p a b m → IsNullBasis m n → IsKernel (vec_data p) n.row_count a b m n
kernel-from-basis {p} {m = m} {n = n} big M B = kernel-of-plain (omega arith) M (null_basis_is_kernel p big m n M.is B)

pub null_basis_kernel : NullBasisIsKernel
null_basis_kernel p t m n M B = kernel-from-basis (tabled_range p t).0 (whole-matrix M) B
