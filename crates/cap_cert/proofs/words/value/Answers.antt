use Rattle.std.proofs.Common.{◌∙◌, ap, arith, sym, ◌*◌, ◌+◌, ◌-◌, get_or}
use Rattle.cap_cert.proofs.WordTests.{value_small, value_more, digit_at}
use Rattle.cap_cert.proofs.words.value.Goals as goal

pub overflow_mul-number : goal.overflow_mul-number
overflow_mul-number c = omega (arith, value_small c.args.text.now c.bytes.byte-index c.requires, c.bytes.invariant)

pub overflow_add-number : goal.overflow_add-number
overflow_add-number c = let d = digit_at c.args.text.now c.bytes.byte-index c.requires c.bytes-test.true in omega (arith, value_small c.args.text.now c.bytes.byte-index c.requires, c.bytes.invariant, d.0, d.1)

pub bytes-preserved : goal.bytes-preserved
bytes-preserved c = ap (λ n. n * 10 + (get_or c.args.text.now c.bytes.byte-index 0 - 48)) c.bytes.invariant ∙ sym (value_more c.args.text.now c.bytes.byte-index c.requires c.bytes-test.true)
