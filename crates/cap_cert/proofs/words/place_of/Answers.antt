use Rattle.std.proofs.Common.{sym, refl}
use Rattle.cap_cert.specs.Machine.{place_of}
use Rattle.cap_cert.proofs.WordTests.{place_is, no_place}
use Rattle.cap_cert.proofs.words.place_of.Goals as goal

pub returns-in-Some : goal.returns-in-Some
returns-in-Some c = sym (place_is c.args.text.now _ c.in-Some.ensures.found.name)

pub returns-in-None : goal.returns-in-None
returns-in-None c = sym (no_place c.args.text.now c.in-None.ensures.found (place_of c.args.text.now) refl)
