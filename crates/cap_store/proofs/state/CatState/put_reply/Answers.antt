use Rattle.std.proofs.Common.{◌∙◌, ◌++◌, ◌+◌, ◌<◌, length, ap, sym, subst}
use Rattle.std.specs.List.{All}
use Rattle.cap_names.specs.declared.identifiers.Handle.{Handle}
use Rattle.cap_ops.specs.Mentions.{mentioned}
use Rattle.cap_settle.specs.Settled.{settled}
use Rattle.cap_history.specs.Reading.{AreTold}
use Rattle.cap_store.specs.Lookups.{HasValue, HasNoValue}
use Rattle.cap_store.specs.Parts.{kept_of}
use Rattle.cap_store.proofs.FromHistory.{new-key-as, kept-there, put-there, put-value, told-put-as}
use Rattle.cap_store.proofs.state.CatState.put_reply.Goals as goal

pub told-requires-clause-there : goal.told-requires-clause-there
told-requires-clause-there g c =
    let v = c.in_ok-value-in-None.value in
    let is = c.in_ok-value-in-None.ensures ∙ ap (λ n. settled n c.args.out.now.out) (c.len.ensures ∙ c.self.inside.parts.objects.ok.0) in
    let there = put-there g.O.Datum.cells_of g.M.Datum.cells_of (record { kind = c.self.inside.kind; offered = c.self.inside.offered; costs = c.self.inside.costs }) (kept_of c.self.inside.parts) c.self.invariant c.args.self.now.entries (ap (λ l. l.entries) c.self.view_is) c.args.key.now c.args.out.now v c.requires is in
    subst (λ os. All (λ (h : Handle). h.0 < length os + length c.as_slice-fresh.result.now) (mentioned v)) (sym c.deref-in-None.ensures.value)
    (subst (λ fs. All (λ (h : Handle). h.0 < length c.self.inside.parts.objects.items + length fs) (mentioned v)) (sym c.as_slice-fresh.ensures) there)

pub told-requires-in-Some-clause-there : goal.told-requires-in-Some-clause-there
told-requires-in-Some-clause-there g c =
    let found = subst (λ ks. HasValue ks c.args.key.now c.in-Some.value.now) c.deref.ensures.value c.in-Some.ensures in
    let there = kept-there g.O.Datum.cells_of g.M.Datum.cells_of (record { kind = c.self.inside.kind; offered = c.self.inside.offered; costs = c.self.inside.costs }) (kept_of c.self.inside.parts) c.self.invariant c.args.self.now.entries (ap (λ l. l.entries) c.self.view_is) c.args.key.now c.in-Some.value.now c.in_ok-value-in-Some.value found c.in_ok-value-in-Some.ensures in
    subst (λ os. All (λ (h : Handle). h.0 < length os + 0) (mentioned c.in_ok-value-in-Some.value)) (sym c.deref-in-Some.ensures.value) there

pub returns-in_ok-told-in-None-clause-replies : goal.returns-in_ok-told-in-None-clause-replies
returns-in_ok-told-in-None-clause-replies g c =
    let told = c.in_ok-told-in-None.field-0 in
    let is = c.in_ok-value-in-None.ensures ∙ ap (λ n. settled n c.args.out.now.out) (c.len.ensures ∙ c.self.inside.parts.objects.ok.0) in
    let tells = subst (λ fs. AreTold (c.deref-in-None.result.now ++ fs) told) c.as_slice-fresh.ensures c.in_ok-told-in-None.ensures.told in (
      new-key-as g.O.Datum.cells_of g.M.Datum.cells_of (record { kind = c.self.inside.kind; offered = c.self.inside.offered; costs = c.self.inside.costs }) (kept_of c.self.inside.parts) c.self.invariant c.args.self.now.entries (ap (λ l. l.entries) c.self.view_is) c.args.key.now (subst (λ ks. HasNoValue ks c.args.key.now) c.deref.ensures.value c.in-None.ensures),
      put-value g.O.Datum.cells_of g.M.Datum.cells_of (record { kind = c.self.inside.kind; offered = c.self.inside.offered; costs = c.self.inside.costs }) (kept_of c.self.inside.parts) c.self.invariant c.args.self.now.entries (ap (λ l. l.entries) c.self.view_is) c.args.out.now told.value (c.in_ok-told-in-None.ensures.value ∙ is),
      told-put-as g.O.Datum.cells_of g.M.Datum.cells_of (record { kind = c.self.inside.kind; offered = c.self.inside.offered; costs = c.self.inside.costs }) (kept_of c.self.inside.parts) c.self.invariant c.args.self.now.entries (ap (λ l. l.entries) c.self.view_is) c.args.out.now told (subst (λ os. AreTold (os ++ c.args.out.now.fresh) told) c.deref-in-None.ensures.value tells),
    )
