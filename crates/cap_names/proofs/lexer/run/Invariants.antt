use Rattle.std.proofs.Common.{◌≡◌, ◌+◌, drop}
use Rattle.std.specs.List.{prefix_len}
use Rattle.cap_names.specs.Tokens.{goes_on}
use Rattle.cap_names.proofs.lexer.run.Given as goal

abbrev pub invariant-bytes : goal.invariant-bytes
invariant-bytes l = record {
  index : l.count ≡ l.byte-index;
  value : l.count + prefix_len (goes_on l.kind) (drop l.byte-index l.bytes) ≡ prefix_len (goes_on l.kind) l.bytes;
}
