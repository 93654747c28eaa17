use Rattle.std.proofs.Common.{◌∙◌, length, ap, refl}
use Rattle.cap_history.specs.Reading.{cells}
use Rattle.cap_store.proofs.state.CatState.step.Goals as goal

pub returns-then-is_full : goal.returns-then-is_full
returns-then-is_full g c = (
  c.if-is_full.ensures,
  c.len.ensures ∙ (c.self.inside.parts.entries.ok.0 ∙ ap (λ l. length l.entries) c.self.view_is),
  c.self.invariant.cells_are ∙ ap (λ l. cells g.O.Datum.cells_of g.M.Datum.cells_of l.entries) c.self.view_is,
  refl,
)
