use Rattle.std.proofs.Common.{◌≡◌, ◌+◌, None, length, get_or, refl, sym, ap, ◌∙◌, subst}
use Rattle.std.specs.List.{All}
use Rattle.std.proofs.lemmas.List.Elements.{All-replicate}
use Rattle.cap_ops.specs.Derivations.{IsWeight}
use Rattle.cap_registered.proofs.Asks.{follows_none, follows_some, follows_all, among_none}
use Rattle.cap_registered.proofs.registering.registered.Goals as goal
use Rattle.cap_registered.proofs.registering.registered.Goals.{in-Some, in_default}

pub asks-init : goal.asks-init
asks-init c = record {
  long = refl;
  ranged = All-replicate IsWeight 44 None (record { from = λ n h. absurd (cc (h)); to = λ n h. absurd (cc (h)) });
  each = λ k h. All-replicate (λ w. w ≡ None) 44 None refl k None h ∙ sym (among_none c.args.kind (k + 1));
}

pub asks-preserved : goal.asks-preserved
asks-preserved c =
    elim c.match-registration.branch [
      | in-Some w ↦ record {
        long = ap (λ r. length r.weights) w.regs-is ∙ w.register.ensures.long ∙ c.asks.invariant.long;
        ranged = subst (λ r. All IsWeight r.weights) (sym w.regs-is) w.register.ensures.ranged;
        each = follows_some c.args.kind c.args.name.now c.before_final-part-items.result.now c.asks.part-index c.part-item.result (w.in-Some.op, w.in-Some.weight)
            c.defaults-defaults.result.weights c.asks.regs.weights c.match-registration.regs.weights c.asks-test.true c.part-item.is
            (sym c.registration.ensures.value ∙ w.in-Some.is) c.defaults-defaults.ensures.value
            (λ k h. ap (λ r. get_or r.weights k None) w.regs-is ∙ w.register.ensures.each k h) c.asks.invariant.each;
      }
      | in_default w ↦ record {
        long = ap (λ r. length r.weights) w.regs-is ∙ c.asks.invariant.long;
        ranged = subst (λ r. All IsWeight r.weights) (sym w.regs-is) c.asks.invariant.ranged;
        each = follows_none c.args.kind c.args.name.now c.before_final-part-items.result.now c.asks.part-index c.part-item.result
            c.match-registration.regs.weights c.asks-test.true c.part-item.is
            (sym c.registration.ensures.value ∙ w.in_default.is)
            (λ k h. ap (λ r. get_or r.weights k None) w.regs-is ∙ c.asks.invariant.each k h);
      }
    ]

pub returns-clause-weights : goal.returns-clause-weights
returns-clause-weights c =
    follows_all c.args.kind c.args.name.now c.args.parts.now c.before_final-part-items.result.now c.asks.part-index c.asks.regs.weights
    c.asks-test.false c.before_final-part-items.ensures c.asks.invariant.long c.asks.invariant.each
