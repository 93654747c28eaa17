use Rattle.std.proofs.Common.{take}
use Rattle.cap_ops.specs.Arrows.{arguments}
use Rattle.cap_ops.specs.Told.{Known, told_in}
use Rattle.cap_vec_offer.specs.Offer.{matrix_offer}
use Rattle.cap_list_board.proofs.tests.known.are_known.Given as goal

abbrev pub invariant-loop-arg : goal.invariant-loop-arg
invariant-loop-arg l = Known (matrix_offer l.b.offer).category (told_in l.objects) (arguments (take l.arg-index l.args))
