-- Direct sums by block forms, and the zero object.
use Rattle.std.proofs.Common.{◌≡◌, ℕ, ◌+◌, ◌≤◌, true, arith}
use Rattle.cap_field.specs.Residue.{is_tabled}
use Rattle.cap_field.proofs.Fermat.{tabled_range}
use Rattle.cap_matrix.specs.Grid.{product_of}
use Rattle.cap_matrix.specs.Summands.{first_in, second_in, first_out, second_out}
use Rattle.cap_matrix.proofs.Entries.{matrix_ext, product-matrix, sum-matrix, zero-matrix, unit-matrix}
use Rattle.cap_matrix.proofs.Summands.{first_in-matrix, second_in-matrix, first_out-matrix, second_out-matrix, first_in-first_out, second_in-second_out, first_in-second_out, second_in-first_out, summands-total}
use Rattle.cap_laws.specs.Universal.{IsDirectSum, IsZeroObject, IsAdditive}
use Rattle.cap_vec_laws.specs.Vec.{vec_data}
use Rattle.cap_vec_laws.proofs.Arrows.{as-arrow, as-same}

pub direct_sum : (p : ℕ) → is_tabled p ≡ true → (a b : ℕ) → IsDirectSum (vec_data p) (a + b) a b (first_in p a b) (second_in p a b) (first_out p a b) (second_out p a b)
direct_sum p t a b =
    let big : 2 ≤ p = (tabled_range p t).0 in
    let one : 1 ≤ p = omega arith in
    let in1 = first_in-matrix p a b big in
    let in2 = second_in-matrix p a b big in
    let out1 = first_out-matrix p a b big in
    let out2 = second_out-matrix p a b big in
    record {
      in1 = as-arrow in1;
      in2 = as-arrow in2;
      out1 = as-arrow out1;
      out2 = as-arrow out2;
      unit1 = as-same (product-matrix one in1 out1) (unit-matrix p a big) (first_in-first_out p a b big);
      unit2 = as-same (product-matrix one in2 out2) (unit-matrix p b big) (second_in-second_out p a b big);
      zero12 = as-same (product-matrix one in1 out2) (zero-matrix p a b one) (first_in-second_out p a b big);
      zero21 = as-same (product-matrix one in2 out1) (zero-matrix p b a one) (second_in-first_out p a b big);
      total = as-same (sum-matrix (product_of (second_out p a b) (second_in p a b)) one (product-matrix one out1 in1)) (unit-matrix p (a + b) big) (summands-total p a b big);
    }

pub zero_object : (p : ℕ) → is_tabled p ≡ true → IsZeroObject (vec_data p) 0
zero_object p t =
    let big : 2 ≤ p = (tabled_range p t).0 in
    let U = unit-matrix p 0 big in
    let Z = zero-matrix p 0 0 (let e : 1 ≤ p = omega arith in e) in
    record { object = tt; unit = as-same U Z (matrix_ext U Z (λ i j lt below. absurd (omega arith))) }

pub additive : (p : ℕ) → is_tabled p ≡ true → IsAdditive (vec_data p)
additive p t = record {
  zero_object = record { object = 0; is = zero_object p t };
  direct_sum = λ a b o q. record { object = a + b; i1 = first_in p a b; i2 = second_in p a b; p1 = first_out p a b; p2 = second_out p a b; is = direct_sum p t a b };
}
