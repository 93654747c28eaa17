use Rattle.std.proofs.Common.{◌≡◌, ◌∙◌, ap, sym, subst, inr, length}
use Rattle.cap_store.specs.Parts.{kept_of}
use Rattle.cap_store.proofs.FromHistory.{new-name-as, named-as, objects-as, told-as, handle-there}
use Rattle.cap_store.specs.Lookups.{HasName, HasNoName}
use Rattle.cap_store.proofs.Finding.{not-by, get-by}
use Rattle.cap_store.proofs.state.CatState.declare_reply.Goals as goal

pub returns-in-None : goal.returns-in-None
returns-in-None g c = inr (
  new-name-as g.O.Datum.cells_of g.M.Datum.cells_of (record { kind = c.self.inside.kind; offered = c.self.inside.offered; costs = c.self.inside.costs }) (kept_of c.self.inside.parts) c.self.invariant c.args.self.now.entries (ap (λ l. l.entries) c.self.view_is) c.args.name.now (subst (λ ns. HasNoName ns c.args.name.now) c.deref.ensures.value c.in-None.ensures),
  c.len.ensures ∙ (c.self.inside.parts.objects.ok.0 ∙ ap length (objects-as g.O.Datum.cells_of g.M.Datum.cells_of (record { kind = c.self.inside.kind; offered = c.self.inside.offered; costs = c.self.inside.costs }) (kept_of c.self.inside.parts) c.self.invariant c.args.self.now.entries (ap (λ l. l.entries) c.self.view_is))),
)

pub returns-in_ok-object-in-Some : goal.returns-in_ok-object-in-Some
returns-in_ok-object-in-Some g c =
    let found = subst (λ ns. HasName ns c.args.name.now c.in-Some.handle) c.deref.ensures.value c.in-Some.ensures in (
      named-as g.O.Datum.cells_of g.M.Datum.cells_of (record { kind = c.self.inside.kind; offered = c.self.inside.offered; costs = c.self.inside.costs }) (kept_of c.self.inside.parts) c.self.invariant c.args.self.now.entries (ap (λ l. l.entries) c.self.view_is) c.args.name.now c.in-Some.handle found,
      told-as g.O.Datum.cells_of g.M.Datum.cells_of (record { kind = c.self.inside.kind; offered = c.self.inside.offered; costs = c.self.inside.costs }) (kept_of c.self.inside.parts) c.self.invariant c.args.self.now.entries (ap (λ l. l.entries) c.self.view_is) c.in-Some.handle c.in_ok-object-in-Some.object
          (get-by c.self.inside.parts.objects.items c.in-Some.handle.0 c.index-known.result.now c.in_ok-object-in-Some.object (handle-there g.O.Datum.cells_of g.M.Datum.cells_of (record { kind = c.self.inside.kind; offered = c.self.inside.offered; costs = c.self.inside.costs }) (kept_of c.self.inside.parts) c.self.invariant c.args.self.now.entries (ap (λ l. l.entries) c.self.view_is) c.args.name.now c.in-Some.handle found) c.index-known.ensures c.in_ok-object-in-Some.ensures),
      λ e. not-by c.same.result (c.index-known.result.now ≡ c.args.object.now) c.same.ensures.1 c.if-same.false (sym c.in_ok-object-in-Some.ensures ∙ e),
    )
