-- The answer of a call after another that met only sizes within the limit.
use Rattle.std.proofs.Common.{◌≡◌, ◌⊎◌, inl, inr, Result, Ok, Err, IfOk, refl, sym}
use Rattle.cap_laws.specs.declared.faults.CatFault.{CatFault}
use Rattle.cap_laws.specs.declared.faults.CatFault.TheVariants.{TooLarge, NoMemory}
use Rattle.cap_laws.specs.Answers.{Size, Fits, Answers}
use Rattle.cap_laws.specs.Linear.{CategoryData, Arrow}

either-fits : (met met' : Size → Type 0) → ((s : Size) → met s → Fits s) → ((s : Size) → met' s → Fits s) → (s : Size) → met s ⊎ met' s → Fits s
either-fits met met' h h' s (inl m) = h s m
either-fits met met' h h' s (inr m) = h' s m

pub answers-after : {A : Type 0} (met met' : Size → Type 0) (right right' : A → Type 0) → ((s : Size) → met s → Fits s) → ((x : A) → right' x → right x) → (r : Result A CatFault) → Answers met' right' r → Answers (λ s. met s ⊎ met' s) right r
answers-after met met' right right' h k (Ok x) a = (k x a.0, either-fits met met' h a.1)
answers-after met met' right right' h k (Err (TooLarge rows columns)) a = record { size = a.size; is_met = inr a.is_met; past = a.past; rows_named = a.rows_named; columns_named = a.columns_named }
answers-after met met' right right' h k (Err NoMemory) a = tt

-- where the first call fails, the two together do
pub answers-stopped : {A B : Type 0} (met met' : Size → Type 0) (right : A → Type 0) (right' : B → Type 0) → (e : CatFault) → Answers met right (Err e) → Answers (λ s. met s ⊎ met' s) right' (Err e)
answers-stopped met met' right right' (TooLarge rows columns) a = record { size = a.size; is_met = inl a.is_met; past = a.past; rows_named = a.rows_named; columns_named = a.columns_named }
answers-stopped met met' right right' NoMemory a = tt

-- the same sizes met by another name, and what follows from a right answer
pub answers-map : {A : Type 0} (met met' : Size → Type 0) (right right' : A → Type 0) → ((s : Size) → met s → met' s) → ((s : Size) → met' s → met s) → ((x : A) → right x → right' x) → (r : Result A CatFault) → Answers met right r → Answers met' right' r
answers-map met met' right right' h h' k (Ok x) a = (k x a.0, λ s m. a.1 s (h' s m))
answers-map met met' right right' h h' k (Err (TooLarge rows columns)) a = record { size = a.size; is_met = h a.size a.is_met; past = a.past; rows_named = a.rows_named; columns_named = a.columns_named }
answers-map met met' right right' h h' k (Err NoMemory) a = tt

-- what a right answer has
pub answer-gives : {A : Type 0} (met : Size → Type 0) (right P : A → Type 0) → (r : Result A CatFault) → Answers met right r → ((x : A) → right x → P x) → IfOk r P
answer-gives met right P (Ok x) a k = k x a.0
answer-gives met right P (Err e) a k = tt

-- two morphisms with equal ends, and their difference
pub first-arrow : {Obj Mor : Type 0} (C : CategoryData Obj Mor) (f : Mor) → C.is_morphism f → Arrow C (C.source f) (C.target f) f
first-arrow C f p = record { is = p; from = refl; to = refl }

pub second-arrow : {Obj Mor : Type 0} (C : CategoryData Obj Mor) (f g : Mor) → C.is_morphism g → C.source f ≡ C.source g → C.target f ≡ C.target g → Arrow C (C.source f) (C.target f) g
second-arrow C f g p s t = record { is = p; from = sym s; to = sym t }
