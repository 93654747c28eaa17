use Rattle.cap_lincat.specs.Tables.{table_in}
use Rattle.cap_add_literals.proofs.Given.{list-object}
use Rattle.cap_add_literals.proofs.lists.read_list.Goals as goal

pub returns-clause-object : goal.returns-clause-object
returns-clause-object c = list-object (table_in c.args.table.now) c.args.lit.now c.in_ok-copied_list.field-0 c.requires c.in_ok-copied_list.ensures
