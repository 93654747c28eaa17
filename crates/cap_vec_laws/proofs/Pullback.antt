-- Pullbacks and pushouts by null-row bases.
use Rattle.std.proofs.Common.{◌≡◌, ℕ, ◌+◌, ◌-◌, ◌≤◌, true, refl, sym, ap, ◌∙◌, arith}
use Rattle.cap_field.specs.Residue.{is_tabled}
use Rattle.cap_field.proofs.Fermat.{tabled_range}
use Rattle.cap_matrix.specs.Grid.{Grid, IsMatrixOf, product_of, sum_of, scaled_of, transposed_of, stacked_of}
use Rattle.cap_matrix.specs.Reduced.{IsNullBasis}
use Rattle.cap_matrix.specs.Summands.{first_out, second_out}
use Rattle.cap_matrix.proofs.Entries.{product-matrix, sum-matrix, scaled-matrix}
use Rattle.cap_matrix.proofs.Algebra.{product-scaled}
use Rattle.cap_matrix.proofs.Blocks.{stacked-matrix, block-matrix}
use Rattle.cap_matrix.proofs.Summands.{first_out-matrix, second_out-matrix, summands-stacked, product-first_out, product-second_out}
use Rattle.cap_matrix.proofs.Transpose.{transposed-matrix, transposed-twice, transposed-product}
use Rattle.cap_reduce.proofs.NullBasis.{basis-matrix}
use Rattle.cap_laws.specs.Linear.{Same}
use Rattle.cap_laws.specs.Universal.{subtract, IsPullback, IsPushout}
use Rattle.cap_laws.proofs.Textbook.{pullback-from-kernel, pullback-of-same, kernel-of-same}
use Rattle.cap_laws.proofs.Opposite.{turn, turned, turn-same}
use Rattle.cap_vec_laws.specs.Vec.{vec_data, first_columns, last_columns, stacked_difference}
use Rattle.cap_vec_laws.specs.Laws.{PullbackByNullBasis, PushoutByNullBasis}
use Rattle.cap_vec_laws.proofs.Arrows.{as-arrow, as-matrix, as-same, whole-matrix}
use Rattle.cap_vec_laws.proofs.Linear.{vec_linear}
use Rattle.cap_vec_laws.proofs.DirectSum.{direct_sum}
use Rattle.cap_vec_laws.proofs.Kernels.{kernel-from-basis}

difference-is : {p a c : ℕ} {f : Grid} (g : Grid) → IsMatrixOf p a c f → stacked_difference f g ≡ stacked_of f (scaled_of (p - 1) g)
difference-is {f = f} g F = ap (λ q. stacked_of f (scaled_of (q - 1) g)) F.is.prime

pub difference-matrix : {p a b c : ℕ} {f g : Grid} → 1 ≤ p → IsMatrixOf p a c f → IsMatrixOf p b c g → IsMatrixOf p (a + b) c (stacked_difference f g)
difference-matrix {f = f} pos F G = stacked-matrix F (scaled-matrix (f.prime - 1) pos G)

-- f above −g is out1·f − out2·g
difference-same : {p a b c : ℕ} {f g : Grid} → 2 ≤ p → IsMatrixOf p a c f → IsMatrixOf p b c g
    → Same (vec_data p) (a + b) c (stacked_difference f g) (subtract (vec_data p) (product_of (first_out p a b) f) (product_of (second_out p a b) g))
difference-same {p} {a} {b} {c} {f} {g} big F G =
    let one : 1 ≤ p = omega arith in
    let O1 = first_out-matrix p a b big in
    let O2 = second_out-matrix p a b big in
    let NG = scaled-matrix (p - 1) one G in
    let first = product_of (first_out p a b) f in
    let second = product_of (second_out p a b) g in
    as-same (difference-matrix one F G) (sum-matrix (scaled_of (p - 1) second) one (product-matrix one O1 F))
    (difference-is g F ∙ sym (summands-stacked p a b big F NG) ∙ ap (λ x. sum_of first x) (product-scaled one (p - 1) O2 G))

pub pullback-from-basis : {p a b c : ℕ} {f g n : Grid} → is_tabled p ≡ true → IsMatrixOf p a c f → IsMatrixOf p b c g → IsNullBasis (stacked_difference f g) n
    → IsPullback (vec_data p) n.row_count a b c f g (first_columns a n) (last_columns a b n)
pullback-from-basis {p} {a} {b} {c} {f} {g} {n} t F G B =
    let big : 2 ≤ p = (tabled_range p t).0 in
    let one : 1 ≤ p = omega arith in
    let L = vec_linear p t in
    let k = n.row_count in
    let S = difference-matrix one F G in
    let N = basis-matrix S B in
    let K = kernel-of-same L (difference-same big F G) (kernel-from-basis big S B) in
    let A = block-matrix 0 0 k a (omega arith) (omega arith) N in
    let Q = block-matrix 0 a k b (omega arith) (omega arith) N in
    let O1 = first_out-matrix p a b big in
    let O2 = second_out-matrix p a b big in
    pullback-of-same L (as-arrow F) (as-arrow G)
    (as-same A (product-matrix one N O1) (sym (product-first_out p a b big N)))
    (as-same Q (product-matrix one N O2) (sym (product-second_out p a b big N)))
    (pullback-from-kernel L (as-arrow F) (as-arrow G) (direct_sum p t a b) K)

-- m'·y = u turned round
turned-back : {p k b x : ℕ} {m y u : Grid} → 1 ≤ p → IsMatrixOf p k b m → IsMatrixOf p k x y → IsMatrixOf p b x u → product_of (transposed_of m) y ≡ u
    → Same (vec_data p) x b (product_of (transposed_of y) m) (transposed_of u)
turned-back {m = m} {y = y} pos M Y U e =
    let TM = transposed-matrix M in
    let TY = transposed-matrix Y in
    as-same (product-matrix pos TY M) (transposed-matrix U)
    (ap (λ x. product_of (transposed_of y) x) (sym (transposed-twice M)) ∙ sym (transposed-product pos TM Y) ∙ ap transposed_of e)

-- a pullback of transposes, transposed, is a pushout
pub pushout-by-transposes : {p k b c a : ℕ} {f g m n : Grid} → 1 ≤ p → IsMatrixOf p a b f → IsMatrixOf p a c g
    → IsPullback (vec_data p) k b c a (transposed_of f) (transposed_of g) m n → IsPushout (vec_data p) a b c k f g (transposed_of m) (transposed_of n)
pushout-by-transposes {p} {k} {b} {c} {a} {f} {g} {m} {n} pos F G P =
    let M = as-matrix P.first in
    let N = as-matrix P.second in
    let TF = transposed-matrix F in
    let TG = transposed-matrix G in
    let TM = transposed-matrix M in
    let TN = transposed-matrix N in
    record {
      first = turn (as-arrow TM);
      second = turn (as-arrow TN);
      square = turn-same (as-same (product-matrix pos F TM) (product-matrix pos G TN)
          (ap (λ x. product_of x (transposed_of m)) (sym (transposed-twice F)) ∙ sym (transposed-product pos M TF) ∙ ap transposed_of P.square.congruent
          ∙ transposed-product pos N TG ∙ ap (λ x. product_of x (transposed_of n)) (transposed-twice G)));
      pair = λ {x} {u} {v} U V e.
          let CU = as-matrix (turned U) in
          let CV = as-matrix (turned V) in
          let TU = transposed-matrix CU in
          let TV = transposed-matrix CV in
          let w = P.pair (as-arrow TU) (as-arrow TV) (as-same (product-matrix pos TU TF) (product-matrix pos TV TG)
          (sym (transposed-product pos F CU) ∙ ap transposed_of e.congruent ∙ transposed-product pos G CV)) in
          let WM = as-matrix w.arrow in
          let W = transposed-matrix WM in
          record {
            by = transposed_of w.by;
            arrow = turn (as-arrow W);
            holds = record {
              first = turn-same (as-same (product-matrix pos TM W) CU (sym (transposed-product pos WM M) ∙ ap transposed_of w.holds.first.congruent ∙ transposed-twice CU));
              second = turn-same (as-same (product-matrix pos TN W) CV (sym (transposed-product pos WM N) ∙ ap transposed_of w.holds.second.congruent ∙ transposed-twice CV));
            };
            only = λ Y Z r s.
                let YM = as-matrix (turned Y) in
                let ZM = as-matrix (turned Z) in
                let got = w.only (as-arrow (transposed-matrix YM)) (as-arrow (transposed-matrix ZM))
                (record { first = turned-back pos M YM CU r.first.congruent; second = turned-back pos N YM CV r.second.congruent })
                (record { first = turned-back pos M ZM CU s.first.congruent; second = turned-back pos N ZM CV s.second.congruent }) in
                record { left = Y; right = Z; congruent = sym (transposed-twice YM) ∙ ap transposed_of got.congruent ∙ transposed-twice ZM };
          };
    }

pub pushout-from-basis : {p a b c : ℕ} {f g n : Grid} → is_tabled p ≡ true → IsMatrixOf p a b f → IsMatrixOf p a c g → IsNullBasis (stacked_difference (transposed_of f) (transposed_of g)) n
    → IsPushout (vec_data p) a b c n.row_count f g (transposed_of (first_columns b n)) (transposed_of (last_columns b c n))
pushout-from-basis {p} t F G B =
    let pos : 1 ≤ p = omega (arith, (tabled_range p t).0) in
    pushout-by-transposes pos F G (pullback-from-basis t (transposed-matrix F) (transposed-matrix G) B)

pub pullback_by_null_basis : PullbackByNullBasis
pullback_by_null_basis p t f g n IF IG meet B = pullback-from-basis t (whole-matrix IF) (record { is = IG; from = refl; to = sym meet }) B

pub pushout_by_null_basis : PushoutByNullBasis
pushout_by_null_basis p t f g n IF IG meet B = pushout-from-basis t (whole-matrix IF) (record { is = IG; from = sym meet; to = refl }) B
