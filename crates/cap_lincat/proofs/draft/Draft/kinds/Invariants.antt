use Rattle.cap_lincat.specs.Data.{table_of}
use Rattle.cap_lincat.specs.Kinds.{AreKindsSoFar}
use Rattle.cap_lincat.proofs.draft.Draft.kinds.Given as goal

abbrev pub invariant-loop-m : goal.invariant-loop-m
invariant-loop-m l = AreKindsSoFar (table_of l.self.field l.self.objects l.self.basis l.self.units l.self.rows) l.kinds.items l.m
