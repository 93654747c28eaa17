use Rattle.std.proofs.Common.{w64, subst}
use Rattle.std.proofs.lemmas.Int.{to_z-of_z}
use Rattle.cap_field.specs.Residue.{IsResidueOf}
use Rattle.cap_offer.proofs.Cells.{residue-is-of}
use Rattle.cap_add_literals.proofs.combinations.residue.Goals as goal

pub returns : goal.returns
returns c = residue-is-of c.args.field c.args.n c.residue.result (subst (λ n. IsResidueOf c.args.field n c.residue.result) (to_z-of_z w64 c.args.n c.ranges.n) c.residue.ensures)
