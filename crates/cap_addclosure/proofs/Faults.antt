-- Faults of calls after others.
use Rattle.std.proofs.Common.{◌⊎◌, inl, inr, Err}
use Rattle.cap_laws.specs.declared.faults.CatFault.{CatFault}
use Rattle.cap_laws.specs.declared.faults.CatFault.TheVariants.{TooLarge, NoMemory}
use Rattle.cap_laws.specs.Answers.{Size, Fits, Answers}

-- the fault of a part is a fault of the whole
pub fault-of : {A B : Type 0} (met part : Size → Type 0) (right : A → Type 0) (first : B → Type 0) (e : CatFault) → ((s : Size) → part s → met s) → Answers part first (Err e) → Answers met right (Err e)
fault-of met part right first (TooLarge rows columns) k a = record { size = a.size; is_met = k a.size a.is_met; past = a.past; rows_named = a.rows_named; columns_named = a.columns_named }
fault-of met part right first NoMemory k a = tt

pub either-fits : (met met' : Size → Type 0) → ((s : Size) → met s → Fits s) → ((s : Size) → met' s → Fits s) → (s : Size) → met s ⊎ met' s → Fits s
either-fits met met' h h' s (inl m) = h s m
either-fits met met' h h' s (inr m) = h' s m
