use Rattle.std.proofs.Common.{ap}
use Rattle.cap_store.specs.Parts.{kept_of}
use Rattle.cap_store.proofs.FromHistory.{final-as}
use Rattle.cap_store.proofs.state.CatState.register_reply.Goals as goal

pub returns-in-Some : goal.returns-in-Some
returns-in-Some g c = (c.in-Some.finality.plan, final-as g.O.Datum.cells_of g.M.Datum.cells_of (record { kind = c.self.inside.kind; offered = c.self.inside.offered; costs = c.self.inside.costs }) (kept_of c.self.inside.parts) c.self.invariant c.args.self.now.entries (ap (λ l. l.entries) c.self.view_is) c.in-Some.finality c.in-Some.is)
