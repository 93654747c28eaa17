use Rattle.cap_ops.specs.Arrows.{arguments}
use Rattle.cap_ops.specs.Told.{Known, told_in}
use Rattle.cap_offer.specs.Labels.{any_offer}
use Rattle.cap_kind_tests.proofs.offer.rooms.known_arguments.Given as goal

abbrev pub invariant-loop-given : goal.invariant-loop-given
invariant-loop-given g l = Known (any_offer l.room.cat).category (told_in l.room.objects) (arguments l.args.items)
