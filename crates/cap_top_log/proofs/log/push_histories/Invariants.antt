use Rattle.std.proofs.Common.{◌≡◌, ◌++◌, drop, length}
use Rattle.std.specs.Prelude.{zip}
use Rattle.cap_top_log.specs.Log.{histories_text}
use Rattle.cap_top_log.proofs.log.push_histories.Given as goal

abbrev pub invariant-histories : goal.invariant-histories
invariant-histories l = l.out.items ++ histories_text (drop (length l.yielded) (zip l.names l.histories)) ≡ l.fn.out.items ++ histories_text (zip l.names l.histories)
