-- A remainder by a product and a shift.
use Rattle.std.proofs.Common.{◌≡◌, ℕ, ◌+◌, ◌-◌, ◌*◌, ◌/◌, ◌%◌, ◌<◌, ◌≤◌, sym, ap, ◌∙◌, arith}
use Rattle.std.proofs.Math.Nat.{div-mul-le_self, lt-div-mul-add, mul-le-mul_left, mul-le-mul_right, mul-lt-mul_of_pos_right, add-mul-mod_self_right, mod-eq_of_lt}

pub quotient_low : (x p m q : ℕ) → m ≡ 65536 / p → q ≡ x * m / 65536 → q * p ≤ x
quotient_low x p m q em eq =
    let a : m * p ≤ 65536 = omega (arith, ap (λ y. y * p) em, div-mul-le_self 65536 p) in
    let b : q * 65536 ≤ x * m = omega (arith, eq, div-mul-le_self (x * m) 65536) in
    let d = mul-le-mul_right p b in
    let e = mul-le-mul_left x a in
    omega (arith, d, e)

pub quotient_high : (x p m q : ℕ) → 2 ≤ p → x < 65536 → m ≡ 65536 / p → q ≡ x * m / 65536 → x < q * p + 2 * p
quotient_high x p m q big small em eq =
    let a : 65536 ≤ m * p + p = omega (arith, ap (λ y. y * p) em, lt-div-mul-add {a = 65536} {b = p} (omega arith)) in
    let b : x * m < q * 65536 + 65536 = omega (arith, eq, lt-div-mul-add {a = x * m} {b = 65536} (omega arith)) in
    let d = mul-lt-mul_of_pos_right {k = p} b (omega arith) in
    let e = mul-le-mul_left x a in
    let f = mul-lt-mul_of_pos_right {k = p} small (omega arith) in
    omega (arith, d, e, f)

pub reduced_once : (x p q : ℕ) → 2 ≤ p → q * p ≤ x → x - q * p < p → x - q * p ≡ x % p
reduced_once x p q big low less =
    sym (ap (λ y. y % p) (let e : x ≡ (x - q * p) + q * p = omega arith in e) ∙ add-mul-mod_self_right (x - q * p) q p ∙ mod-eq_of_lt less)

pub reduced_twice : (x p q : ℕ) → 2 ≤ p → q * p ≤ x → p ≤ x - q * p → x < q * p + 2 * p → x - q * p - p ≡ x % p
reduced_twice x p q big low more high =
    sym (ap (λ y. y % p) (let e : x ≡ (x - q * p - p) + (q + 1) * p = omega arith in e) ∙ add-mul-mod_self_right (x - q * p - p) (q + 1) p
    ∙ mod-eq_of_lt (omega arith))
