-- Two-sided systems of linear equations between morphisms.
use Rattle.std.specs.Prelude.{◌≡◌, ℕ, zero, suc, List, [], ◌∷◌, length, Option, Some, None, get_or}
use Rattle.cap_laws.specs.Linear.{CategoryData, Arrow, Same}
use Rattle.cap_laws.specs.declared.values.Term.{Term}
use Rattle.cap_laws.specs.declared.values.Equation.{Equation}
use Rattle.cap_laws.specs.declared.values.System.{System}

-- x is the n-th of the list
pub data Nth {A : Type 0} : List A → ℕ → A → Type 0 where
  here : {x : A} {xs : List A} → Nth (x ∷ xs) zero x
  further : {x y : A} {xs : List A} {n : ℕ} → Nth xs n y → Nth (x ∷ xs) (suc n) y

-- the ends of the n-th unknown
pub record Ends {Obj : Type 0} (unknowns : List (Obj × Obj)) (n : ℕ) : Type 0 where
  pub from : Obj
  pub to : Obj
  pub is : Nth unknowns n (from, to)

-- a term left·X·right from a to b: its factors meet the ends of the unknown X that it names
pub record IsTerm {Obj Mor : Type 0} (C : CategoryData Obj Mor) (unknowns : List (Obj × Obj)) (a b : Obj) (t : Term Mor) : Type 0 where
  pub ends : Ends unknowns t.unknown
  pub left : Arrow C a ends.from t.left
  pub right : Arrow C ends.to b t.right

-- the value is a morphism, and each term has its ends
pub record IsEquation {Obj Mor : Type 0} (C : CategoryData Obj Mor) (unknowns : List (Obj × Obj)) (e : Equation Mor) : Type 0 where
  pub value : C.is_morphism e.value
  pub terms : (n : ℕ) (t : Term Mor) → Nth e.terms n t → IsTerm C unknowns (C.source e.value) (C.target e.value) t

-- the ends of the unknowns are objects, and each equation is one
pub record IsSystem {Obj Mor : Type 0} (C : CategoryData Obj Mor) (s : System Obj Mor) : Type 0 where
  pub unknowns : (n : ℕ) (e : Ends s.unknowns n) → C.is_object e.from × C.is_object e.to
  pub equations : (n : ℕ) (e : Equation Mor) → Nth s.equations n e → IsEquation C s.unknowns e

-- the sum of left·X·right over the terms, X being the morphism that the list has for the unknown
abbrev pub total : {Obj Mor : Type 0} → CategoryData Obj Mor → Obj → Obj → List Mor → List (Term Mor) → Mor
total C a b xs [] = C.zero a b
total C a b xs (t ∷ ts) = C.add (C.compose (C.compose t.left (get_or xs t.unknown t.left)) t.right) (total C a b xs ts)

-- a morphism for each unknown, with its ends, such that each equation's sum is congruent to its value
pub record IsSolution {Obj Mor : Type 0} (C : CategoryData Obj Mor) (s : System Obj Mor) (xs : List Mor) : Type 0 where
  pub count : length xs ≡ length s.unknowns
  pub arrows : (n : ℕ) (x : Mor) (e : Ends s.unknowns n) → Nth xs n x → Arrow C e.from e.to x
  pub equations : (n : ℕ) (e : Equation Mor) → Nth s.equations n e → Same C (C.source e.value) (C.target e.value) (total C (C.source e.value) (C.target e.value) xs e.terms) e.value

-- a solution, or none exactly where there is none
abbrev pub AnswersSystem : {Obj Mor : Type 0} → CategoryData Obj Mor → System Obj Mor → Option (List Mor) → Type 0
AnswersSystem {Obj} {Mor} C s (Some xs) = IsSolution C s xs
AnswersSystem {Obj} {Mor} C s None = (xs : List Mor) → IsSolution C s xs → ⊥

-- the term left·X·right in the n-th unknown
abbrev pub term_of : {Mor : Type 0} → Mor → ℕ → Mor → Term Mor
term_of l n r = record { left = l; unknown = n; right = r }

-- l·X·r = v in one unknown X: x→y
abbrev pub term_system : {Obj Mor : Type 0} → Obj → Obj → Mor → Mor → Mor → System Obj Mor
term_system x y l r v = record { unknowns = (x, y) ∷ []; equations = record { terms = term_of l 0 r ∷ []; value = v } ∷ [] }

-- X·r = v in one unknown X: x→y
abbrev pub one_system : {Obj Mor : Type 0} → CategoryData Obj Mor → Obj → Obj → Mor → Mor → System Obj Mor
one_system C x y r v = term_system x y (C.identity x) r v

-- the morphism for the first unknown, or none
abbrev pub first_of : {Mor : Type 0} → Mor → Option (List Mor) → Option Mor
first_of d (Some xs) = Some (get_or xs 0 d)
first_of d None = None
