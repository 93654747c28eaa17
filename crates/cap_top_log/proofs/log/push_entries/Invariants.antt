use Rattle.std.proofs.Common.{◌≡◌, ◌++◌, drop}
use Rattle.cap_top_log.specs.Log.{entries_text}
use Rattle.cap_top_log.proofs.log.push_entries.Given as goal

abbrev pub invariant-loop-place : goal.invariant-loop-place
invariant-loop-place l = l.out.items ++ entries_text l.place (drop l.place l.entries) ≡ l.fn.out.items ++ entries_text 0 l.entries
