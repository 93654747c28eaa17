use Rattle.std.proofs.Common.{◌≡◌, ◌++◌, take}
use Rattle.std.specs.List.{flat_map}
use Rattle.cap_spelling.specs.Spelling.{session_symbols}
use Rattle.cap_spelling.proofs.script.push_sessions.Given as goal

abbrev pub invariant-sessions : goal.invariant-sessions
invariant-sessions l = l.out.items ≡ l.fn.out.items ++ flat_map (λ x. session_symbols x.node) (take l.session-index l.sessions)
