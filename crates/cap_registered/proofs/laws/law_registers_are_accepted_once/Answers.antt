use Rattle.cap_registered.proofs.PartByPart.{part_by_part}
use Rattle.cap_registered.proofs.laws.law_registers_are_accepted_once.Goals as goal

pub returns : goal.returns
returns c = part_by_part
