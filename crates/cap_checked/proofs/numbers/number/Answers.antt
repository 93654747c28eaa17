use Rattle.std.proofs.Common.{sym, ap, ◌∙◌}
use Rattle.cap_block_faults.specs.Names.{same}
use Rattle.cap_checked.specs.Checked.{small}
use Rattle.cap_checked.proofs.Places.{place_some, place_none}
use Rattle.cap_checked.proofs.numbers.number.Goals as goal

pub returns-in-Some : goal.returns-in-Some
returns-in-Some c = c.small.ensures ∙ ap small (place_some (λ other. same other c.args.name) c.args.names.now _ (sym c.place.ensures ∙ c.in-Some.is))

pub returns-in-None : goal.returns-in-None
returns-in-None c = c.small-in-None.ensures ∙ ap small (place_none (λ other. same other c.args.name) c.args.names.now (sym c.place.ensures ∙ c.in-None.is))
