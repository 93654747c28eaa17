use Rattle.std.proofs.Common.{◌≡◌, ◌≤◌, take}
use Rattle.cap_terms.specs.Rules.{occurrences}
use Rattle.cap_terms.proofs.occurrences.multiplicity.Given as goal

abbrev pub invariant-loop-step : goal.invariant-loop-step
invariant-loop-step l = (l.count ≡ occurrences l.op.0 (take l.step-index l.body.steps)) × (l.count ≤ l.step-index)
