use Rattle.std.proofs.Common.{◌≡◌, ◌∙◌, sym, ap, refl, append_assoc, arith}
use Rattle.cap_block_faults.proofs.Each.{each_more, each_more_at, two, three}
use Rattle.cap_block_faults.specs.Literals.{coeff_item}
use Rattle.cap_block_faults.proofs.literals.put_coeffs.Goals as goal

pub integers-preserved : goal.integers-preserved
integers-preserved c = each_more_at coeff_item _ _ _ _ _ _ c.integers-test.true c.integers.invariant c.in_ok-put_int.ensures
