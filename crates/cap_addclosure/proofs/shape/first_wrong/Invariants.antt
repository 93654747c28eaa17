use Rattle.cap_addclosure.specs.Shapes.{HasWidths}
use Rattle.cap_addclosure.proofs.shape.first_wrong.Given as goal

abbrev pub invariant-loop-k : goal.invariant-loop-k
invariant-loop-k g l = HasWidths (g.T.Table.table l.table) l.a l.b l.entries l.k
