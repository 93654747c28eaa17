use Rattle.std.proofs.Common.{sym, subst}
use Rattle.cap_rules.specs.Table.{rule_table}
use Rattle.cap_legal.specs.Legal.{TrueEvent}
use Rattle.cap_legal.proofs.Asking.{true-may}
use Rattle.cap_store.specs.State.{Steps, reply_of}
use Rattle.cap_desk.specs.Desks.{log_of}
use Rattle.cap_desk.proofs.Legality.{legal-after, ledger-after, steps-as}
use Rattle.cap_desk.proofs.ledger.Ledger.enter.Goals as goal

pub enter-requires : goal.enter-requires
enter-requires g c =
    let offer = c.self.inside.offer in
    true-may (g.C.Offer.offered offer) (g.met.C.Offer.few_objects offer) rule_table c.self.inside.state.entries c.args.event (subst (λ b. TrueEvent (g.C.Offer.offered b.offer) rule_table b.entries c.args.event) (sym c.self.view_is) c.requires)

pub invariant_of-self : goal.invariant_of-self
invariant_of-self g c =
    let D = g.C.Offer.offered c.self.inside.offer in
    ledger-after D g.C.O.Datum.cells_of g.C.M.Datum.cells_of c.self.inside.state c.enter.new.self c.args.session c.args.event (reply_of c.enter.result) (subst (λ b. TrueEvent (g.C.Offer.offered b.offer) rule_table b.entries c.args.event) (sym c.self.view_is) c.requires) c.self.invariant c.enter.ensures.steps

pub returns-clause-steps : goal.returns-clause-steps
returns-clause-steps g c =
    let D = g.C.Offer.offered c.self.inside.offer in
    subst (λ b. Steps g.C.O.Datum.cells_of g.C.M.Datum.cells_of (log_of (g.C.Offer.offered b.offer) b.entries) c.args.session c.args.event (reply_of c.enter.result) (log_of (g.C.Offer.offered b.offer) c.enter.new.self.entries)) c.self.view_is (steps-as D g.C.O.Datum.cells_of g.C.M.Datum.cells_of c.self.inside.state c.enter.new.self c.args.session c.args.event (reply_of c.enter.result) c.self.invariant.setup c.enter.ensures.steps)

pub returns-clause-legal : goal.returns-clause-legal
returns-clause-legal g c =
    let D = g.C.Offer.offered c.self.inside.offer in
    legal-after D g.C.O.Datum.cells_of g.C.M.Datum.cells_of c.self.inside.state c.enter.new.self c.args.session c.args.event (reply_of c.enter.result) (subst (λ b. TrueEvent (g.C.Offer.offered b.offer) rule_table b.entries c.args.event) (sym c.self.view_is) c.requires) c.self.invariant c.enter.ensures.steps
