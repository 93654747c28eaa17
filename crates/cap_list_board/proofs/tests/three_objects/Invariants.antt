use Rattle.cap_vec_offer.specs.Offer.{matrix_offer}
use Rattle.cap_list_board.specs.Benches.{IsBench}
use Rattle.cap_list_board.proofs.tests.three_objects.Given as goal

abbrev pub invariant-loop-size : goal.invariant-loop-size
invariant-loop-size g l = IsBench matrix_offer l.b.board l.b.offer l.b.rules
