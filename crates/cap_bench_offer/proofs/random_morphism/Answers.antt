use Rattle.std.proofs.Common.{refl}
use Rattle.cap_data.specs.declared.data.ObjData.TheVariants.{Dim}
use Rattle.cap_offer.proofs.Offers.{dimension-object}
use Rattle.cap_bench_offer.proofs.random_morphism.Goals as goal

pub morphism-requires-clause-source : goal.morphism-requires-clause-source
morphism-requires-clause-source c = dimension-object c.args.cat.now c.args.n (Dim c.args.n) refl

pub morphism-requires-clause-target : goal.morphism-requires-clause-target
morphism-requires-clause-target c = dimension-object c.args.cat.now c.args.n (Dim c.args.n) refl
