use Rattle.std.proofs.Common.{rules, ◌≡◌, ◌<◌, pos, FitsSigned, w64, to_z, of_z, subst, sym, ap, ◌∙◌, arith, nat_abs}
use Rattle.std.proofs.lemmas.Int.{ints, to_z-of_z}
use Rattle.std.specs.Int.{int_rem_euclid}
use Rattle.cap_field.specs.Residue.{IsResidueOf}
use Rattle.cap_field.proofs.Remainders.{residue_is}
use Rattle.cap_field.proofs.Fermat.{tabled_range}
use Rattle.cap_field.proofs.Field.residue.Goals as goal

pub returns : goal.returns
returns c =
    let some : 0 < c.self.inside.p = omega (arith, (tabled_range c.self.inside.p c.self.invariant).0) in
    let fits : FitsSigned w64 c.rem_euclid.result = search rules in
    let dividend : to_z w64 (of_z w64 c.args.n) ≡ c.args.n = to_z-of_z w64 c.args.n c.ranges.n in
    let divisor : to_z w64 c.self.inside.p ≡ pos c.self.inside.p = omega (arith, ints, (tabled_range c.self.inside.p c.self.invariant).1) in
    let value : to_z w64 (of_z w64 c.rem_euclid.result) ≡ int_rem_euclid c.args.n (pos c.self.inside.p)
    = to_z-of_z w64 c.rem_euclid.result fits ∙ c.rem_euclid.ensures.value
    ∙ ap (λ x. int_rem_euclid x (to_z w64 c.self.inside.p)) dividend ∙ ap (λ x. int_rem_euclid c.args.n x) divisor in
    subst (λ p. IsResidueOf p c.args.n (nat_abs (to_z w64 (of_z w64 c.rem_euclid.result)))) c.self.view_is
    (subst (λ r. IsResidueOf c.self.inside.p c.args.n (nat_abs r)) (sym value) (residue_is c.self.inside.p c.args.n some))
