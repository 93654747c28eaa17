-- The null-row basis of a matrix: from its rows, as a kernel, and only one.
use Rattle.std.proofs.Common.{◌≡◌, ℕ, ◌*◌, ◌%◌, ◌<◌, ◌≤◌, List, [], length, get_or, refl, sym, ap, ◌∙◌, subst, arith}
use Rattle.std.proofs.Math.Nat.{mod-lt, mod-mod, mod-eq_of_lt}
use Rattle.std.proofs.lemmas.Nat.{mul-mod_first}
use Rattle.cap_matrix.specs.Grid.{Grid, IsMatrix, IsMatrixOf, entry, total, row_by, product_of, matrix_by}
use Rattle.cap_matrix.proofs.Sums.{total-mod, total-same}
use Rattle.cap_matrix.proofs.Rows.{length-row_by, row_by-at, row_by-same}
use Rattle.cap_matrix.proofs.Entries.{matrix_ext, matrix_by-at, matrix_by-is, small-at, product-matrix, zero-matrix, product-at, zero-at, same-at}
use Rattle.cap_matrix.specs.Reduced.{InSpan, IsInSpan, IsReduced, IsReducedBy, IsNullRow, IsNullBasis}
use Rattle.cap_reduce.specs.Laws.{OneNullBasis, NullBasisIsKernel}
use Rattle.cap_reduce.proofs.Spans.{span_row, span_same}
use Rattle.cap_reduce.proofs.Unique.{factor_at_lead}
use Rattle.cap_reduce.proofs.Null.{IsNull, relation_in_span}
use Rattle.cap_reduce.proofs.OneReduced.{one_reduced_matrix, span_from_list, span_to_list}
use Rattle.cap_reduce.proofs.Reduced.{picked, picked-matrix, by_leads, reduced_same, span_of_same}

pub matrix-ends : {p : ℕ} {m : Grid} → IsMatrix p m → IsMatrixOf p m.row_count m.column_count m
matrix-ends M = record { is = M; from = refl; to = refl }

pub basis-matrix : {p a b : ℕ} {m n : Grid} → IsMatrixOf p a b m → IsNullBasis m n → IsMatrixOf p n.row_count a n
basis-matrix {p} {a} {b} {m} {n} M B =
    let same_prime : n.prime ≡ p = B.prime ∙ M.is.prime in
    record {
      is = record {
        prime = same_prime;
        shaped = B.reduced.shaped;
        residues = λ i j lt below. subst (λ q. entry n.entries i j < q) same_prime (B.reduced.by_leads.residues i j lt below);
      };
      from = refl;
      to = B.width ∙ M.from;
    }

-- a list is a null row where its entries are
pub null-from-list : {p a b : ℕ} {m : Grid} → IsMatrixOf p a b m → (x : List ℕ) → IsNullRow m x → IsNull p a b (entry m.entries) (λ i. get_or x i 0)
null-from-list {p} {a} {b} {m} M x h j lt =
    let inner : j < m.column_count = omega (arith, M.to) in
    sym (ap (λ q. total m.row_count (λ k. get_or x k 0 * entry m.entries k j) % q) M.is.prime ∙ ap (λ n. total n (λ k. get_or x k 0 * entry m.entries k j) % p) M.from)
    ∙ sym (row_by-at m.column_count (λ j. total m.row_count (λ k. get_or x k 0 * entry m.entries k j) % m.prime) j inner)
    ∙ ap (λ r. get_or r j 0) h.null ∙ row_by-at m.column_count (λ j. 0) j inner

pub null-to-list : {p a b : ℕ} {m : Grid} → IsMatrixOf p a b m → (x : List ℕ) → length x ≡ a → ((i : ℕ) → i < a → get_or x i 0 < p)
    → IsNull p a b (entry m.entries) (λ i. get_or x i 0) → IsNullRow m x
null-to-list {p} {a} {b} {m} M x long small h = record {
  long = long ∙ sym M.from;
  residues = λ i lt. let inner : i < a = omega (arith, M.from) in subst (λ q. get_or x i 0 < q) (sym M.is.prime) (small i inner);
  null = row_by-same m.column_count (λ j. total m.row_count (λ k. get_or x k 0 * entry m.entries k j) % m.prime) (λ j. 0)
      (λ j lt. let inner : j < b = omega (arith, M.to) in
      ap (λ q. total m.row_count (λ k. get_or x k 0 * entry m.entries k j) % q) M.is.prime ∙ ap (λ n. total n (λ k. get_or x k 0 * entry m.entries k j) % p) M.from ∙ h j inner);
}

-- the span of a matrix, of lists and of functions
pub span-in : {p k a : ℕ} {n : Grid} → IsMatrixOf p k a n → (v : List ℕ) → IsInSpan n v → InSpan p k a (entry n.entries) (λ j. get_or v j 0)
span-in {p} {k} {a} {n} N v s =
    let f = span_from_list n v s in (
      f.0,
      λ j lt. let inner : j < n.column_count = omega (arith, N.to) in
          sym (ap (λ q. total n.row_count (λ i. f.0 i * entry n.entries i j) % q) N.is.prime ∙ ap (λ c. total c (λ i. f.0 i * entry n.entries i j) % p) N.from)
          ∙ f.1 j inner ∙ ap (λ q. get_or v j 0 % q) N.is.prime,
    )

pub span-out : {p k a : ℕ} {n : Grid} → IsMatrixOf p k a n → (v : List ℕ) → length v ≡ a → ((j : ℕ) → j < a → get_or v j 0 < p) → InSpan p k a (entry n.entries) (λ j. get_or v j 0) → IsInSpan n v
span-out {p} {k} {a} {n} N v long small f =
    span_to_list n v (
      f.0,
      λ j lt. let inner : j < a = omega (arith, N.to) in
          ap (λ q. total n.row_count (λ i. f.0 i * entry n.entries i j) % q) N.is.prime ∙ ap (λ c. total c (λ i. f.0 i * entry n.entries i j) % p) N.from
          ∙ f.1 j inner ∙ ap (λ q. get_or v j 0 % q) (sym N.is.prime),
    )
    (long ∙ sym N.to)
    (λ j lt. let inner : j < a = omega (arith, N.to) in subst (λ q. get_or v j 0 < q) (sym N.is.prime) (small j inner))

-- the null-row basis, from what it is for functions
pub basis-from-rows : {p k a b : ℕ} {m n : Grid} → 1 ≤ p → IsMatrixOf p a b m → IsMatrixOf p k a n → IsReduced n
    → ((i : ℕ) → i < k → IsNull p a b (entry m.entries) (entry n.entries i))
    → ((x : ℕ → ℕ) → IsNull p a b (entry m.entries) x → InSpan p k a (entry n.entries) x)
    → IsNullBasis m n
basis-from-rows {p} {k} {a} {b} {m} {n} pos M N red null spanned = record {
  prime = N.is.prime ∙ sym M.is.prime;
  width = N.to ∙ sym M.from;
  reduced = red;
  spans = λ x. (
    (λ s.
        let long : length x ≡ a = ap length s.2 ∙ length-row_by n.column_count (λ j. total n.row_count (λ i. get_or s.0 i 0 * entry n.entries i j) % n.prime) ∙ N.to in
        null-to-list M x long
        (λ j lt. let inner : j < n.column_count = omega (arith, N.to) in
        let value = total n.row_count (λ i. get_or s.0 i 0 * entry n.entries i j) in
        let e : get_or x j 0 ≡ value % p = ap (λ r. get_or r j 0) s.2 ∙ row_by-at n.column_count (λ j. total n.row_count (λ i. get_or s.0 i 0 * entry n.entries i j) % n.prime) j inner ∙ ap (λ q. value % q) N.is.prime in
        subst (λ y. y < p) (sym e) (mod-lt value pos))
        (λ j below. relation_in_span p k a (entry n.entries) (λ i. get_or x i 0) (λ i. entry m.entries i j) (span-in N x s) (λ i lt. null i lt j below))),
    (λ h. span-out N x (h.long ∙ M.from)
        (λ j lt. let inner : j < m.row_count = omega (arith, M.from) in subst (λ q. get_or x j 0 < q) M.is.prime (h.residues j inner))
        (spanned (λ i. get_or x i 0) (null-from-list M x h))),
  );
}

-- the same for a table of entries
pub basis-from-table : {p a b : ℕ} {m : Grid} (k : ℕ) (t : ℕ → ℕ → ℕ) (lead : ℕ → ℕ) → 1 ≤ p → IsMatrixOf p a b m → IsReducedBy p k a t lead
    → ((i : ℕ) → i < k → IsNull p a b (entry m.entries) (t i))
    → ((x : ℕ → ℕ) → IsNull p a b (entry m.entries) x → InSpan p k a t x)
    → IsNullBasis m (matrix_by p k a t)
basis-from-table {p} {a} {b} {m} k t lead pos M h null spanned =
    let N = matrix_by-is p k a t h.residues in
    let at = matrix_by-at p k a t in
    let n = matrix_by p k a t in
    basis-from-rows pos M N (record { shaped = N.is.shaped; lead = lead; by_leads = reduced_same p k a t (entry n.entries) lead h at })
    (λ i lt j below. ap (λ y. y % p) (total-same a (λ c. entry n.entries i c * entry m.entries c j) (λ c. t i c * entry m.entries c j) (λ c inner. ap (λ y. y * entry m.entries c j) (at i c lt inner))) ∙ null i lt j below)
    (λ x z. span_of_same p k a t (entry n.entries) x at (spanned x z))

-- the rows of a null-row basis are null, and each null row is a combination of them
pub basis-null : {p a b : ℕ} {m n : Grid} → IsMatrixOf p a b m → IsNullBasis m n → (i : ℕ) → i < n.row_count → IsNull p a b (entry m.entries) (entry n.entries i)
basis-null {p} {a} {b} {m} {n} M B i lt =
    let N = basis-matrix M B in
    null-from-list M (get_or n.entries i [])
    ((B.spans (get_or n.entries i [])).0 (span-out N (get_or n.entries i []) (B.reduced.shaped.column_many i lt ∙ N.to) (λ j below. small-at N i j lt below) (span_row p n.row_count a (entry n.entries) i lt)))

pub basis-spans : {p a b : ℕ} {m n : Grid} → 1 ≤ p → IsMatrixOf p a b m → IsNullBasis m n → (x : ℕ → ℕ) → IsNull p a b (entry m.entries) x → InSpan p n.row_count a (entry n.entries) x
basis-spans {p} {a} {b} {m} {n} pos M B x h =
    let N = basis-matrix M B in
    let v = row_by a (λ i. x i % p) in
    let at = λ (i : ℕ) (lt : i < a). row_by-at a (λ i. x i % p) i lt in
    span_same p n.row_count a (entry n.entries) (λ j. get_or v j 0) x
    (span-in N v ((B.spans v).1 (null-to-list M v (length-row_by a (λ i. x i % p))
    (λ i lt. subst (λ y. y < p) (sym (at i lt)) (mod-lt (x i) pos))
    (λ j below. total-mod p a (λ i. get_or v i 0 * entry m.entries i j) (λ i. x i * entry m.entries i j)
    (λ i lt. ap (λ y. (y * entry m.entries i j) % p) (at i lt) ∙ mul-mod_first (x i) (entry m.entries i j) p)
    ∙ h j below))))
    (λ j lt. ap (λ y. y % p) (at j lt) ∙ mod-mod (x j) p)

pub basis-reduced : {p a b : ℕ} {m n : Grid} → IsMatrixOf p a b m → (B : IsNullBasis m n) → IsReducedBy p n.row_count a (entry n.entries) B.reduced.lead
basis-reduced {p} {a} {b} {m} {n} M B =
    let N = basis-matrix M B in
    let lead = B.reduced.lead in
    subst (λ w. IsReducedBy p n.row_count w (entry n.entries) lead) N.to (subst (λ q. IsReducedBy q n.row_count n.column_count (entry n.entries) lead) N.is.prime B.reduced.by_leads)

-- the factors of a product with a reduced matrix are the entries at the leads
pub factor-known : {p x k b : ℕ} {n t v : Grid} (lead : ℕ → ℕ) → 2 ≤ p → IsMatrixOf p k b n → IsReducedBy p k b (entry n.entries) lead → IsMatrixOf p x b t → IsMatrixOf p x k v
    → product_of v n ≡ t → v ≡ picked p x k lead t
factor-known {p} {x} {k} {b} {n} {t} {v} lead big N R T V e =
    matrix_ext V (picked-matrix lead big N R T)
    (λ i l lt below.
    sym (mod-eq_of_lt (small-at V i l lt below))
    ∙ factor_at_lead p k b (entry n.entries) lead (entry t.entries i) R
    (entry v.entries i, λ j inner. sym (mod-mod (total k (λ c. entry v.entries i c * entry n.entries c j)) p) ∙ ap (λ y. y % p) (sym (product-at V N i j lt inner) ∙ same-at e i j)) l below
    ∙ mod-eq_of_lt (small-at T i (lead l) lt (R.inside l below))
    ∙ sym (matrix_by-at p x k (λ i l. entry t.entries i (lead l)) i l lt below))

-- a null-row basis is a kernel
pub null_basis_is_kernel : NullBasisIsKernel
null_basis_is_kernel p big f k IF B =
    let q = f.prime in
    let large : 2 ≤ q = omega (arith, IF.prime) in
    let one : 1 ≤ q = omega arith in
    let F = matrix-ends (subst (λ s. IsMatrix s f) (sym IF.prime) IF) in
    let K = basis-matrix F B in
    let KF = product-matrix one K F in
    let Z = zero-matrix q k.row_count f.column_count one in
    let R = basis-reduced F B in
    let lead = B.reduced.lead in
    record {
      matrix = K;
      zero = matrix_ext KF Z (λ i j lt below. product-at K F i j lt below ∙ basis-null F B i lt j below ∙ sym (zero-at q k.row_count f.column_count i j lt below));
      lift = λ t T z. record {
        factor = picked q t.row_count k.row_count lead t;
        is = record {
          matrix = subst (λ s. IsMatrixOf s t.row_count k.row_count (picked q t.row_count k.row_count lead t)) (sym B.prime) (picked-matrix lead large K R T);
          gives = by_leads lead large K R T
              (λ i lt. basis-spans one F B (entry t.entries i) (λ j below. sym (product-at T F i j lt below) ∙ same-at z i j ∙ zero-at q t.row_count f.column_count i j lt below));
          only = λ v V e. factor-known lead large K R T (subst (λ s. IsMatrixOf s t.row_count k.row_count v) B.prime V) e;
        };
      };
    }

pub one_null_basis : OneNullBasis
one_null_basis p big m n k IM A B =
    one_reduced_matrix n k (omega (arith, A.prime, IM.prime)) (A.prime ∙ sym B.prime) (A.width ∙ sym B.width) A.reduced B.reduced
    (λ v. (λ s. (B.spans v).1 ((A.spans v).0 s), λ s. (A.spans v).1 ((B.spans v).0 s)))
