use Rattle.std.proofs.Common.{refl}
use Rattle.cap_data.specs.declared.data.ObjData.TheVariants.{Dim}
use Rattle.cap_offer.proofs.Offers.{dimension-object}
use Rattle.cap_kind_tests.proofs.offer.rooms.read.Goals as goal

pub morphism-requires-clause-source : goal.morphism-requires-clause-source
morphism-requires-clause-source c = dimension-object c.args.room.now.cat c.args.rows (Dim c.args.rows) refl

pub morphism-requires-clause-target : goal.morphism-requires-clause-target
morphism-requires-clause-target c = dimension-object c.args.room.now.cat c.args.cols (Dim c.args.cols) refl
