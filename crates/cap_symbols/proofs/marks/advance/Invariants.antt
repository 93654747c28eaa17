use Rattle.std.proofs.Common.{◌≡◌, ◌+◌, take}
use Rattle.std.specs.Prelude.{count_by, not}
use Rattle.std.specs.List.{suffix_len}
use Rattle.cap_names.specs.Places.{ends_line}
use Rattle.cap_symbols.proofs.marks.advance.Given as goal

abbrev pub invariant-bytes : goal.invariant-bytes
invariant-bytes l = record {
  line : l.line ≡ count_by ends_line (take l.index l.bytes) + 1;
  column : l.column ≡ suffix_len (λ b. not (ends_line b)) (take l.index l.bytes) + 1;
}
