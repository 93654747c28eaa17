use Rattle.std.proofs.Common.{drop}
use Rattle.cap_quiver_paths.specs.Data.{quiver}
use Rattle.cap_quiver_paths.proofs.Goes.{Goes}
use Rattle.cap_quiver_paths.proofs.relations.goes.Given as goal

abbrev pub invariant-loop-a : goal.invariant-loop-a
invariant-loop-a l = record {
  there : Goes (quiver 0 l.arrows 0) l.fn.x l.y l.list → Goes (quiver 0 l.arrows 0) l.at l.y (drop l.a-index l.list);
  back : Goes (quiver 0 l.arrows 0) l.at l.y (drop l.a-index l.list) → Goes (quiver 0 l.arrows 0) l.fn.x l.y l.list;
}
