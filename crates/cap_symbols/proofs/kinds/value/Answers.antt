use Rattle.std.proofs.Common.{◌≡◌, ◌+◌, ◌*◌, ◌-◌, get_or, take, ap, ◌∙◌, arith}
use Rattle.std.specs.Str.Parse.{digits_value}
use Rattle.cap_symbols.proofs.Digits.{next_value, small_value}
use Rattle.cap_symbols.proofs.kinds.value.Goals as goal

step : (c : goal.In-digits) → c.digits.value * 10 + (get_or c.args.digits.now c.digits.digit-index 0 - 48) ≡ digits_value 10 (take (c.digits.digit-index + 1) c.args.digits.now)
step c = ap (λ v. v * 10 + (get_or c.args.digits.now c.digits.digit-index 0 - 48)) c.digits.invariant ∙ next_value c.args.digits.now c.digits.digit-index c.requires c.digits-test.true

pub overflow_mul-value : goal.overflow_mul-value
overflow_mul-value c = let s = step c in let b = small_value c.args.digits.now (c.digits.digit-index + 1) c.requires in omega (arith, s, b)

pub overflow_add-value : goal.overflow_add-value
overflow_add-value c =
    let s : c.digits.value * 10 + (get_or c.args.digits.now c.digits.digit-index 0 - 48) ≡ digits_value 10 (take (c.digits.digit-index + 1) c.args.digits.now) =
    ap (λ v. v * 10 + (get_or c.args.digits.now c.digits.digit-index 0 - 48)) c.digits.invariant ∙ next_value c.args.digits.now c.digits.digit-index c.requires c.digits-test.true
    in
    let b = small_value c.args.digits.now (c.digits.digit-index + 1) c.requires in
    omega (arith, s, b)

pub digits-preserved : goal.digits-preserved
digits-preserved c = ap (λ v. v * 10 + (get_or c.args.digits.now c.digits.digit-index 0 - 48)) c.digits.invariant ∙ next_value c.args.digits.now c.digits.digit-index c.requires c.digits-test.true
