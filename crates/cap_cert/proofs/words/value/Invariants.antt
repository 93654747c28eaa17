use Rattle.std.proofs.Common.{◌≡◌, take}
use Rattle.cap_cert.specs.Reading.{value}
use Rattle.cap_cert.proofs.words.value.Given as goal

abbrev pub invariant-bytes : goal.invariant-bytes
invariant-bytes l = l.number ≡ value (take l.byte-index l.text)
