-- What meets one of two is within the limit, where what meets each is.
use Rattle.std.proofs.Common.{◌⊎◌, inl, inr}
use Rattle.cap_laws.specs.Answers.{Size, Fits}

pub either : {met met' : Size → Type 0} → ((s : Size) → met s → Fits s) → ((s : Size) → met' s → Fits s) → (s : Size) → met s ⊎ met' s → Fits s
either h k s (inl m) = h s m
either h k s (inr m) = k s m
