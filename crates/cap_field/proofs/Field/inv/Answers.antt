use Rattle.std.proofs.Common.{arith}
use Rattle.cap_field.proofs.Fermat.{power-even, power-odd, inverse_from_power}
use Rattle.cap_field.proofs.Field.inv.Goals as goal
use Rattle.cap_field.proofs.Field.inv.Goals.{then-left-eq1, else-left-eq1}

pub loop-left-preserved : goal.loop-left-preserved
loop-left-preserved c = record {
  small = omega arith;
  product_below = elim c.if-left-eq1.branch [ then-left-eq1 w ↦ omega arith | else-left-eq1 w ↦ omega arith ];
  base_below = omega arith;
  power =
      let odd = power-odd c.self.inside.p c.loop-left.product c.loop-left.base c.loop-left.left in
      let even = power-even c.self.inside.p c.loop-left.product c.loop-left.base c.loop-left.left in
      elim c.if-left-eq1.branch [
        | then-left-eq1 w ↦ let e = odd (omega arith) in cc
        | else-left-eq1 w ↦ let e = even (omega arith) in cc
      ];
}

pub returns-clause-inverse : goal.returns-clause-inverse
returns-clause-inverse c =
    let e = inverse_from_power c.self.inside.p c.args.a c.loop-left.product c.loop-left.base c.loop-left.left
    c.self.invariant c.requires.nonzero (omega arith) (omega arith) c.loop-left.invariant.power in
    cc
