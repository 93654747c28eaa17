-- The values of calls have their operation's meaning.
use Rattle.std.proofs.Common.{◌≡◌, true, false, Bool, refl, sym, ◌∙◌, ap, ⊎_elim}
use Rattle.std.specs.Prelude.{not}
use Rattle.cap_laws.specs.Linear.{IsLinear}
use Rattle.cap_laws.specs.Universal.{IsAbelian}
use Rattle.cap_ops.specs.declared.plans.Kind.{Kind}
use Rattle.cap_ops.specs.declared.plans.Kind.TheVariants.{Add}
use Rattle.cap_ops.specs.declared.plans.RuleCost.{RuleCost}
use Rattle.cap_ops.specs.Derivations.{AreCosts, is_allowed}
use Rattle.cap_ops.specs.Told.{HasPlainEnds}
use Rattle.cap_ops.specs.Primitives.{OfferData, PrimsMean}
use Rattle.cap_ops.proofs.DerivationsCosts.{costs_pass}
use Rattle.cap_rules.specs.Table.{rule_table}
use Rattle.cap_rules.proofs.TypedRules.{rules_are_typed, rules_are_counted, rules_are_numbered}
use Rattle.cap_rule_laws.proofs.SoundRules.{all-unmarked-sound, all-sound}
use Rattle.cap_run.specs.Plans.{costs_of}
use Rattle.cap_run.proofs.TruePlans.{plans-are-true}
use Rattle.cap_run_laws.specs.Meant.{AllAllowedSound}
use Rattle.cap_run_laws.proofs.RunsMean.{run-means}
use Rattle.cap_call_laws.specs.Laws.{RulesCanRun, AllowsItsRules, ValuesMean}

pub costs_are : AreCosts (costs_of rule_table)
costs_are = costs_pass (costs_of rule_table) refl refl

pub rules_are : RulesCanRun
rules_are = record { numbered = rules_are_numbered; typed = rules_are_typed; counted = rules_are_counted; costs = costs_are.each }

negated : (b : Bool) → not b ≡ true → b ≡ false
negated true e = absurd (cc)
negated false e = refl

-- in additive closures the rules without the mark are allowed
unmarked : (kind : Kind) (cost : RuleCost) → kind ≡ Add → is_allowed kind cost ≡ true → cost.abelian ≡ false
unmarked kind cost add allowed =
    let e : not cost.abelian ≡ true = ap (λ k. is_allowed k cost) (sym add) ∙ allowed in
    negated cost.abelian e

allowed_sound : {O M : Type 0} (D : OfferData O M) → IsLinear D.category → AllowsItsRules D → AllAllowedSound D rule_table
allowed_sound D linear allows =
    ⊎_elim
    (λ (add : D.kind ≡ Add). λ k r below allowed. all-unmarked-sound linear k r below (unmarked D.kind _ add allowed))
    (λ (abelian : IsAbelian D.category). λ k r below allowed. all-sound linear abelian k r below)
    allows

pub values_mean : {O M : Type 0} (D : OfferData O M) → IsLinear D.category → HasPlainEnds D.category → PrimsMean D → ValuesMean D
values_mean D linear plain prims allows p plan told op is args v g =
    (run-means D plain prims).means rule_table p rules_are (allowed_sound D linear allows) ((plans-are-true D).law rule_table p rules_are plan) op is g.data_of g.out g.runs
