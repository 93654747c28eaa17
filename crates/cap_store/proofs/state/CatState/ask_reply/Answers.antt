use Rattle.std.proofs.Common.{◌∙◌, ◌++◌, [], ap, sym, subst}
use Rattle.cap_history.specs.Reading.{AreTold}
use Rattle.cap_store.specs.Lookups.{HasValue, HasNoValue}
use Rattle.cap_store.specs.Parts.{kept_of}
use Rattle.cap_store.proofs.FromHistory.{final-as, new-key-as, key-kept-as, told-kept-as}
use Rattle.cap_store.proofs.state.CatState.ask_reply.Goals as goal

pub returns-in-None-clause-replies : goal.returns-in-None-clause-replies
returns-in-None-clause-replies g c = (
  (c.in-Some.finality.at, c.in-Some.finality.plan, final-as g.O.Datum.cells_of g.M.Datum.cells_of (record { kind = c.self.inside.kind; offered = c.self.inside.offered; costs = c.self.inside.costs }) (kept_of c.self.inside.parts) c.self.invariant c.args.self.now.entries (ap (λ l. l.entries) c.self.view_is) c.in-Some.finality c.in-Some.is, sym c.choice_of.ensures),
  new-key-as g.O.Datum.cells_of g.M.Datum.cells_of (record { kind = c.self.inside.kind; offered = c.self.inside.offered; costs = c.self.inside.costs }) (kept_of c.self.inside.parts) c.self.invariant c.args.self.now.entries (ap (λ l. l.entries) c.self.view_is) c.args.key.now (subst (λ ks. HasNoValue ks c.args.key.now) c.deref.ensures.value c.in-None.ensures),
)

pub returns-in_ok-told-in-Some-kept_in-clause-replies : goal.returns-in_ok-told-in-Some-kept_in-clause-replies
returns-in_ok-told-in-Some-kept_in-clause-replies g c =
    let told = c.in_ok-told-in-Some-kept_in.field-0 in
    let found = subst (λ ks. HasValue ks c.args.key.now c.in-Some-kept_in.value.now) c.deref.ensures.value c.in-Some-kept_in.ensures in (
      (c.in-Some.finality.at, c.in-Some.finality.plan, final-as g.O.Datum.cells_of g.M.Datum.cells_of (record { kind = c.self.inside.kind; offered = c.self.inside.offered; costs = c.self.inside.costs }) (kept_of c.self.inside.parts) c.self.invariant c.args.self.now.entries (ap (λ l. l.entries) c.self.view_is) c.in-Some.finality c.in-Some.is),
      key-kept-as g.O.Datum.cells_of g.M.Datum.cells_of (record { kind = c.self.inside.kind; offered = c.self.inside.offered; costs = c.self.inside.costs }) (kept_of c.self.inside.parts) c.self.invariant c.args.self.now.entries (ap (λ l. l.entries) c.self.view_is) c.args.key.now told.value (subst (λ v. HasValue c.self.inside.parts.cache.items c.args.key.now v) (sym (c.in_ok-told-in-Some-kept_in.ensures.value ∙ c.in_ok-value-in-Some-kept_in.ensures)) found),
      told-kept-as g.O.Datum.cells_of g.M.Datum.cells_of (record { kind = c.self.inside.kind; offered = c.self.inside.offered; costs = c.self.inside.costs }) (kept_of c.self.inside.parts) c.self.invariant c.args.self.now.entries (ap (λ l. l.entries) c.self.view_is) told (subst (λ os. AreTold (os ++ []) told) c.deref-in-Some-kept_in.ensures.value c.in_ok-told-in-Some-kept_in.ensures.told),
    )
