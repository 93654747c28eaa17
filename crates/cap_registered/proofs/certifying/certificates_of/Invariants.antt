use Rattle.std.proofs.Common.{take}
use Rattle.cap_registered.specs.Registrations.{categories_among}
use Rattle.cap_registered.specs.Certificates.{AreCertificatesOf}
use Rattle.cap_registered.proofs.certifying.certificates_of.Given as goal

abbrev pub invariant-parts : goal.invariant-parts
invariant-parts l = AreCertificatesOf (categories_among l.parts (take l.part-index l.parts)) l.text.items
