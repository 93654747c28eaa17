use Rattle.std.proofs.Common.{◌≡◌, ◌++◌, drop, length}
use Rattle.std.specs.Prelude.{zip}
use Rattle.cap_top_text.specs.Text.{sessions_text}
use Rattle.cap_top_text.proofs.text.push_sessions.Given as goal

abbrev pub invariant-sessions : goal.invariant-sessions
invariant-sessions l = l.out.items ++ sessions_text l.histories.all.now l.book (drop (length l.yielded) (zip l.sessions l.traces)) ≡ l.fn.out.items ++ sessions_text l.histories.all.now l.book (zip l.sessions l.traces)
