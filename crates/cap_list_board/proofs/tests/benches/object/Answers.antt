use Rattle.std.proofs.Common.{refl}
use Rattle.cap_data.specs.declared.data.ObjData.TheVariants.{Dim}
use Rattle.cap_vec_offer.proofs.Data.{objects_are}
use Rattle.cap_list_board.proofs.tests.benches.object.Goals as goal

pub declare-requires-clause-is_object : goal.declare-requires-clause-is_object
declare-requires-clause-is_object g c = (objects_are c.args.b.now.board.offer (Dim c.args.size)).1 (c.args.size, refl)
