use Rattle.std.proofs.Common.{◌≡◌, ◌++◌, ◌∷◌, [], ◌∙◌, sym, ap, refl, append_assoc, arith}
use Rattle.cap_block_faults.specs.Marks.{free}
use Rattle.cap_block_faults.specs.Blocks.{combo_marks}
use Rattle.cap_block_faults.proofs.Each.{two}
use Rattle.cap_block_faults.proofs.blocks.put_line.Goals as goal

pub returns-in_ok-put_given-in-Product : goal.returns-in_ok-put_given-in-Product
returns-in_ok-put_given-in-Product c = rw c.in-Product.is (two _ _ _ _ (free ∷ combo_marks c.args.before.now c.in-Product.combo ++ free ∷ []) c.in_ok-put_factors-in-Product.ensures (rw (← c.as_slice-in-Product.ensures) c.in_ok-put_given-in-Product.ensures))
