use Rattle.std.proofs.Common.{◌<◌, ◌≤◌, length}
use Rattle.cap_quiver_laws.specs.Paths.{IsPathList, IsLevel}
use Rattle.cap_quiver_paths.specs.Data.{quiver}
use Rattle.cap_quiver_paths.proofs.walks.all_paths.Given as goal

abbrev pub invariant-loop-n : goal.invariant-loop-n
invariant-loop-n l = record {
  paths : IsPathList (quiver l.fn.objects l.arrows l.n) l.all.items;
  few : length l.all.items ≤ 128;
  level : l.n < l.fn.bound → IsLevel (quiver l.fn.objects l.arrows 0) l.n l.level.items;
  short : length l.level.items ≤ 128;
}
