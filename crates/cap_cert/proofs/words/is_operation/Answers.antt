use Rattle.std.proofs.Common.{refl}
use Rattle.cap_cert.proofs.WordTests.{named_listed}
use Rattle.cap_cert.proofs.words.is_operation.Goals as goal

pub returns-in-Some : goal.returns-in-Some
returns-in-Some c = (λ h. named_listed _ _ c.in-Some.ensures.found, λ h. refl)
