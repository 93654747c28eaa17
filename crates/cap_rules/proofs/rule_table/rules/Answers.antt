use Rattle.std.proofs.Common.{◌≡◌, ◌<◌, ◌∙◌, refl, sym, ap, subst, length, arith}
use Rattle.cap_terms.specs.Rules.{AreNumbered}
use Rattle.cap_rules.specs.Table.{rule_table, AreTyped, AreCounted}
use Rattle.cap_rules.proofs.TypedRules.{rules_are_typed, rules_are_counted, rules_are_numbered, joined-step}
use Rattle.cap_rules.proofs.rule_table.rules.Goals as goal

pub loop-i-preserved : goal.loop-i-preserved
loop-i-preserved c =
    let inside : c.loop-i.i < 59 = omega arith in
    joined-step c.costs-costs.result _ c.loop-i.i _ _ c.loop-i.rules.items c.push.new.self.items c.in_ok-body.body inside (ap length c.costs-costs.ensures.table) refl c.loop-i.invariant c.in_ok-body.ensures c.in_ok-push.ensures.items

pub new-requires : goal.new-requires
new-requires c =
    let e : c.loop-i.i ≡ 59 = omega arith in
    let whole : c.loop-i.rules.items ≡ rule_table = c.loop-i.invariant ∙ rw (e, c.costs-costs.ensures.table) refl in
    subst AreNumbered (sym whole) rules_are_numbered

pub returns-clause-typed : goal.returns-clause-typed
returns-clause-typed c =
    let e : c.loop-i.i ≡ 59 = omega arith in
    let whole : c.new.result ≡ rule_table = c.new.ensures ∙ c.loop-i.invariant ∙ rw (e, c.costs-costs.ensures.table) refl in
    subst AreTyped (sym whole) rules_are_typed

pub returns-clause-counted : goal.returns-clause-counted
returns-clause-counted c =
    let e : c.loop-i.i ≡ 59 = omega arith in
    let whole : c.new.result ≡ rule_table = c.new.ensures ∙ c.loop-i.invariant ∙ rw (e, c.costs-costs.ensures.table) refl in
    subst AreCounted (sym whole) rules_are_counted
