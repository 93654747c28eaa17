use Rattle.std.proofs.Common.{ap, sym, subst}
use Rattle.cap_store.specs.Parts.{kept_of}
use Rattle.cap_store.proofs.FromHistory.{final-as, open-as, none-of}
use Rattle.cap_ops.specs.Derivations.{IsPlan, means}
use Rattle.cap_history.specs.Reading.{weights}
use Rattle.cap_store.specs.State.{Log}
use Rattle.cap_store.proofs.state.CatState.finalise_reply.Goals as goal

pub returns-in-Some : goal.returns-in-Some
returns-in-Some g c = (c.in-Some.finality.plan, final-as g.O.Datum.cells_of g.M.Datum.cells_of (record { kind = c.self.inside.kind; offered = c.self.inside.offered; costs = c.self.inside.costs }) (kept_of c.self.inside.parts) c.self.invariant c.args.self.now.entries (ap (λ l. l.entries) c.self.view_is) c.in-Some.finality c.in-Some.is)

pub returns : goal.returns
returns g c = (
  open-as g.O.Datum.cells_of g.M.Datum.cells_of (record { kind = c.self.inside.kind; offered = c.self.inside.offered; costs = c.self.inside.costs }) (kept_of c.self.inside.parts) c.self.invariant c.args.self.now.entries (ap (λ l. l.entries) c.self.view_is) (none-of c.self.inside.parts.finality c.in_default.not-Some),
  subst (λ (l : Log g.row.O.Denot g.row.M.Denot). IsPlan (means (record { weights = weights l.entries }) l.setup.costs l.setup.kind) c.in_ok-new.field-0) c.self.view_is
      (subst (λ ws. IsPlan (means (record { weights = ws }) c.self.inside.costs c.self.inside.kind) c.in_ok-new.field-0) c.self.invariant.weights_are (subst (IsPlan (means c.self.inside.parts.regs c.self.inside.costs c.self.inside.kind)) (sym c.in_ok-new.ensures) c.plan-plan.ensures)),
)
