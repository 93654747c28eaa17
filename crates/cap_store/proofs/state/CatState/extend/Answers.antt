use Rattle.std.proofs.Common.{◌≡◌, ap, sym, subst}
use Rattle.cap_history.specs.May.{May}
use Rattle.cap_history.specs.Replies.{Setup, Replies}
use Rattle.cap_store.specs.Inside.{IsState, with_entry}
use Rattle.cap_store.specs.Parts.{kept_of, adding_of}
use Rattle.cap_store.specs.State.{Log}
use Rattle.cap_store.proofs.Next.{next-state, by-result, room-here}
use Rattle.cap_store.proofs.state.CatState.extend.Goals as goal

pub invariant_of-self : goal.invariant_of-self
invariant_of-self g c =
    let setup : Setup = record { kind = c.self.inside.kind; offered = c.self.inside.offered; costs = c.self.inside.costs } in
    let kept = kept_of c.self.inside.parts in
    let room = room-here g.O.Datum.cells_of g.M.Datum.cells_of setup kept c.self.invariant c.args.self.now.entries (ap (λ l. l.entries) c.self.view_is) c.requires.room in
    by-result c.add.result (kept_of c.add.new.parts ≡ with_entry kept c.args.entry (adding_of c.in_ok-added.added)) (kept_of c.add.new.parts ≡ kept) (IsState g.O.Datum.cells_of g.M.Datum.cells_of setup (kept_of c.add.new.parts)) c.add.ensures.ok c.add.ensures.err
    (λ e. subst (IsState g.O.Datum.cells_of g.M.Datum.cells_of setup) (sym e) (next-state g.O.Datum.cells_of g.M.Datum.cells_of setup kept c.self.invariant c.args.entry (subst (λ (l : Log g.row.O.Denot g.row.M.Denot). May l.entries c.args.entry.event) (sym c.self.view_is) c.requires.may) (subst (λ (l : Log g.row.O.Denot g.row.M.Denot). Replies l.setup l.entries c.args.entry.event c.args.entry.reply) (sym c.self.view_is) c.requires.replies) (adding_of c.in_ok-added.added) c.in_ok-added.ensures room.0 room.1))
    (λ e. subst (IsState g.O.Datum.cells_of g.M.Datum.cells_of setup) (sym e) c.self.invariant)
