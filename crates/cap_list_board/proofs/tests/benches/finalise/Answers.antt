use Rattle.std.proofs.Common.{sym, subst}
use Rattle.cap_ops.specs.Primitives.{AreOffered}
use Rattle.cap_vec_offer.specs.Offer.{matrix_offer}
use Rattle.cap_list_board.proofs.tests.benches.finalise.Goals as goal

pub finalise-requires-clause-plannable : goal.finalise-requires-clause-plannable
finalise-requires-clause-plannable g c = record { registered = c.registered-regs.ensures; costs = c.costs.ensures.costs }

pub finalise-requires-clause-offered : goal.finalise-requires-clause-offered
finalise-requires-clause-offered g c = subst (λ o. AreOffered (matrix_offer o) c.registered-regs.result.weights) (sym c.requires.is.ready.offers) (c.are_offered.ensures.0 c.if-not-are_offered.false)
