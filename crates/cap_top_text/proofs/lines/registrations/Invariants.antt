use Rattle.std.proofs.Common.{◌≡◌, drop}
use Rattle.cap_history.specs.Reading.{read, registered, weights}
use Rattle.cap_top_text.proofs.lines.registrations.Given as goal

abbrev pub invariant-entries : goal.invariant-entries
invariant-entries l = read registered l.regs.weights (drop l.entry-index l.entries) ≡ weights l.entries
