-- Answers of calls after others.
use Rattle.std.proofs.Common.{◌≡◌, ◌⊎◌, inl, inr, Result, Ok, Err, sym, subst}
use Rattle.std.specs.Prelude.{IfOk, IfErr}
use Rattle.cap_laws.specs.declared.faults.CatFault.{CatFault}
use Rattle.cap_laws.specs.declared.faults.CatFault.TheVariants.{TooLarge, NoMemory}
use Rattle.cap_laws.specs.Answers.{Size, Fits, Answers, Copies}

-- the fault of a part is a fault of the whole
pub fault_of : {A B : Type 0} (met part : Size → Type 0) (right : A → Type 0) (first : B → Type 0) (e : CatFault) → ((s : Size) → part s → met s)
    → Answers part first (Err e) → Answers met right (Err e)
fault_of met part right first (TooLarge rows columns) k a = record { size = a.size; is_met = k a.size a.is_met; past = a.past; rows_named = a.rows_named; columns_named = a.columns_named }
fault_of met part right first NoMemory k a = tt

pub either_fits : (met met' : Size → Type 0) → ((s : Size) → met s → Fits s) → ((s : Size) → met' s → Fits s) → (s : Size) → met s ⊎ met' s → Fits s
either_fits met met' h h' s (inl m) = h s m
either_fits met met' h h' s (inr m) = h' s m

-- an answer that comes with the sizes that it meets
pub answers_with : {A : Type 0} (met more : Size → Type 0) (right : A → Type 0) (r : Result A CatFault)
    → Answers met (λ x. right x × ((s : Size) → more s → Fits s)) r → Answers (λ s. met s ⊎ more s) right r
answers_with met more right (Ok x) a = (a.0.0, either_fits met more a.1 a.0.1)
answers_with met more right (Err e) a = fault_of (λ s. met s ⊎ more s) met right (λ x. right x × ((s : Size) → more s → Fits s)) e (λ s m. inl m) a

-- an answer that wants nothing but memory, after calls that met only sizes within the limit
pub answers_kept : {A : Type 0} (met more : Size → Type 0) (right : A → Type 0) (r : Result A CatFault) → ((s : Size) → met s → Fits s)
    → Answers more right r → IfErr r (λ e. e ≡ NoMemory) → Answers met (λ x. right x × ((s : Size) → more s → Fits s)) r
answers_kept met more right (Ok x) h a f = ((a.0, a.1), h)
answers_kept met more right (Err e) h a f = subst (λ (v : CatFault). Answers met (λ x. right x × ((s : Size) → more s → Fits s)) (Err v)) (sym f) tt

-- an answer that wants nothing but memory is a copy of the right one
pub copies_answered : {A : Type 0} (met : Size → Type 0) (v : A) (r : Result A CatFault) → Answers met (λ x. x ≡ v) r → IfErr r (λ e. e ≡ NoMemory) → Copies v r
copies_answered met v (Ok x) a f = a.0
copies_answered met v (Err e) a f = f

-- what holds of the right answer holds of an answer
pub if_answered : {A : Type 0} (met : Size → Type 0) (P : A → Type 0) (v : A) (r : Result A CatFault) → Answers met (λ x. x ≡ v) r → P v → IfOk r P
if_answered met P v (Ok x) a h = subst P (sym a.0) h
if_answered met P v (Err e) a h = tt
