use Rattle.std.proofs.Common.{rules, ◌≡◌, [], ◌∷◌, ◌++◌, sym, subst}
use Rattle.cap_ops.specs.Arrows.{arguments}
use Rattle.cap_ops.specs.Told.{Known, told_in}
use Rattle.cap_offer.specs.Labels.{any_offer}
use Rattle.cap_offer.proofs.Known.{more-known}
use Rattle.cap_kind_tests.proofs.offer.rooms.known_arguments.Goals as goal

pub loop-given-preserved : goal.loop-given-preserved
loop-given-preserved g c =
    let told = told_in c.args.room.now.objects in
    let same : c.push.new.self.items ≡ c.loop-given.args.items ++ c.argument.result ∷ [] = search rules in
    subst (λ xs. Known (any_offer c.args.room.now.cat).category told (arguments xs)) (sym same)
    (more-known c.args.room.now.cat told c.loop-given.args.items c.argument.result c.loop-given.invariant c.argument.ensures)
