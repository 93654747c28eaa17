use Rattle.cap_list_board.proofs.Answering.{found-answers}
use Rattle.cap_list_board.proofs.list_board.ListBoard.found.Goals as goal

pub returns-clause-ok : goal.returns-clause-ok
returns-clause-ok g c = found-answers c.args.self.now c.args.key.now c.args.out c.add_put.new.self c.in_ok-value.value c.in_ok-copy_value.field-0 c.in_ok-value.ensures c.in_ok-copy_value.ensures c.in_ok-add_put.ensures.ok
