use Rattle.std.proofs.Common.{length, refl, ◌-◌}
use Rattle.cap_lines.proofs.Placing.{rest_shorter}
use Rattle.cap_parser.proofs.ScriptLaws.{node_reads, node_lengths, node_fails}
use Rattle.cap_parser.proofs.BlockLaws.{law_part}
use Rattle.cap_parser.specs.Scripts.{item_at}
use Rattle.cap_parser.proofs.nodes.item_of.Goals as goal

pub returns-in-Err-clause-marks : goal.returns-in-Err-clause-marks
unfolding item_at
returns-in-Err-clause-marks c = node_fails law_part c.in-Err.error c.args.symbols.now c.args.places.now c.requires c.in-Err.ensures

pub overflow_sub-count : goal.overflow_sub-count
overflow_sub-count c = rest_shorter law_part c.args.symbols.now c.in-Ok.read.0 c.in-Ok.read.1.now c.in-Ok.ensures

pub returns-clause-marks : goal.returns-clause-marks
unfolding item_at
returns-clause-marks c =
    node_reads law_part c.args.symbols.now c.args.places.now c.in-Ok.read.0 c.in-Ok.read.1.now (length c.args.symbols.now - length c.in-Ok.read.1.now) c.in_ok-placed.placed c.in_ok-placed.others.now c.requires c.in-Ok.ensures refl c.in_ok-placed.ensures.node c.in_ok-placed.ensures.places c.in_ok-placed.ensures.rest

pub returns-clause-lengths : goal.returns-clause-lengths
returns-clause-lengths c =
    node_lengths law_part c.args.symbols.now c.args.places.now c.in-Ok.read.0 c.in-Ok.read.1.now (length c.args.symbols.now - length c.in-Ok.read.1.now) c.in_ok-placed.others.now c.requires c.in-Ok.ensures refl c.in_ok-placed.ensures.rest
