use Rattle.cap_vec_offer.specs.Offer.{matrix_offer}
use Rattle.cap_list_board.specs.Benches.{IsBench}
use Rattle.cap_list_board.proofs.tests.a_matrix_past_the_limits_is_not_kept.Given as goal

abbrev pub invariant-loop-size : goal.invariant-loop-size
invariant-loop-size g l = IsBench matrix_offer l.b.board l.b.offer l.b.rules

abbrev pub invariant-loop-asked : goal.invariant-loop-asked
invariant-loop-asked g l = IsBench matrix_offer l.b.board l.b.offer l.b.rules
