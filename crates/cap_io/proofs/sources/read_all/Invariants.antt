use Rattle.std.proofs.Common.{◌≡◌, ◌≤◌, ◌-◌, length, vec_len}
use Rattle.std.specs.Io.KnownBytes.{Consumes}
use Rattle.cap_io.specs.Reading.{TellsAlike, piece_size}
use Rattle.cap_io.proofs.sources.read_all.Given as goal

abbrev pub invariant-pieces : goal.invariant-pieces
invariant-pieces g l = record {
  taken : Consumes (g.S.Source.left l.initial.source) (g.S.Source.left l.source) l.bytes.items;
  told : TellsAlike (g.S.Source.left l.initial.source) (g.S.Source.left l.source);
  stays : g.S.Source.faults l.source ≡ g.S.Source.faults l.initial.source;
  within : vec_len l.bytes ≤ l.limit;
  room : length l.piece ≡ piece_size;
}

abbrev pub decreases-pieces : goal.decreases-pieces
decreases-pieces g l = l.limit - vec_len l.bytes
