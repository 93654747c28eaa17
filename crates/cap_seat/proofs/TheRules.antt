-- The 59 rules are rules by which evaluation can run.
use Rattle.std.proofs.Common.{refl}
use Rattle.cap_ops.proofs.DerivationsCosts.{costs_pass}
use Rattle.cap_rules.specs.Table.{rule_table}
use Rattle.cap_rules.proofs.TypedRules.{rules_are_typed, rules_are_counted, rules_are_numbered}
use Rattle.cap_run.specs.Plans.{costs_of, AreRules}

pub rules-run : AreRules rule_table
rules-run = record { numbered = rules_are_numbered; typed = rules_are_typed; counted = rules_are_counted; costs = (costs_pass (costs_of rule_table) refl refl).each }
