use Rattle.std.proofs.Common.{rules, ◌≡◌, FitsSigned, w64, to_z, of_z, sym, subst}
use Rattle.std.proofs.lemmas.Int.{to_z-of_z}
use Rattle.cap_field.specs.Residue.{IsResidueOf}
use Rattle.cap_offer.specs.Cells.{residue_of}
use Rattle.cap_offer.proofs.Cells.{residue-is-of}
use Rattle.cap_offer.proofs.matrices.residue.Goals as goal

pub returns : goal.returns
returns c =
    let fits : FitsSigned w64 c.in-Int.n = search rules in
    let same : to_z w64 (of_z w64 c.in-Int.n) ≡ c.in-Int.n = to_z-of_z w64 c.in-Int.n fits in
    let is : IsResidueOf c.args.field c.in-Int.n c.residue.result = subst (λ n. IsResidueOf c.args.field n c.residue.result) same c.residue.ensures in
    subst (λ e. c.residue.result ≡ residue_of c.args.field e) (sym c.in-Int.is) (residue-is-of c.args.field c.in-Int.n c.residue.result is)
