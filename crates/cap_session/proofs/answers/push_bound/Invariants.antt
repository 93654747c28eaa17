use Rattle.std.proofs.Common.{◌≡◌, ◌++◌, take}
use Rattle.cap_session.proofs.answers.push_bound.Given as goal

abbrev pub invariant-bound : goal.invariant-bound
invariant-bound l = l.copies ≡ l.fn.copies ++ take l.each-index l.bound
