use Rattle.std.proofs.Common.{◌≡◌, ◌++◌, drop}
use Rattle.std.specs.Prelude.{string_bytes}
use Rattle.std.specs.List.{flat_map}
use Rattle.cap_cert.specs.Texts.{line_text, op_lines, ways_of}
use Rattle.cap_cert.proofs.writer.push_ops.Given as goal

abbrev pub invariant-places : goal.invariant-places
invariant-places l = string_bytes l.out ++ flat_map line_text (op_lines l.place (ways_of (drop l.place l.choices) (drop l.place l.bounds))) ≡ string_bytes l.fn.out ++ flat_map line_text (op_lines 0 (ways_of l.choices l.bounds))
