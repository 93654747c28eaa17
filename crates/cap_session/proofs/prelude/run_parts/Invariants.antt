use Rattle.std.proofs.Common.{take}
use Rattle.cap_session.specs.Preludes.{PreludeComes}
use Rattle.cap_session.proofs.PreludeParts.{Stood}
use Rattle.cap_session.proofs.prelude.run_parts.Given as goal

abbrev pub invariant-parts : goal.invariant-parts
invariant-parts g l = PreludeComes l.fn.course l.parts × Stood (take l.part-index l.parts) l.course
