use Rattle.std.proofs.Common.{◌≡◌, ◌++◌, drop, map}
use Rattle.std.specs.Prelude.{string_bytes}
use Rattle.std.specs.List.{flat_map}
use Rattle.cap_cert.specs.Texts.{line_text, reg_line, regs_from}
use Rattle.cap_cert.proofs.writer.push_regs.Given as goal

abbrev pub invariant-places : goal.invariant-places
invariant-places l = string_bytes l.out ++ flat_map line_text (map reg_line (regs_from l.place (drop l.place l.weights))) ≡ string_bytes l.fn.out ++ flat_map line_text (map reg_line (regs_from 0 l.weights))
