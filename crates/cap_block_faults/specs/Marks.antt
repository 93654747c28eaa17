-- Marks: what is wrong at each token of a node (this project's own).
use Rattle.std.specs.Prelude.{ℕ, zero, suc, List, [], ◌∷◌, ◌++◌, Bool, true, false, Option, Some, None}
use Rattle.cap_names.specs.declared.reasons.Reason.{Reason}
use Rattle.cap_names.specs.declared.reasons.BadScript.{BadScript}
use Rattle.cap_grammar.specs.declared.tree.Place.{Place}

-- At a token stands one fault at most that is told: the one of the reason that stands first in the table, which is prime, limit, known, taken, sort.
abbrev pub Mark : Type 0
Mark = Option Reason

-- nothing is wrong here
abbrev pub free : Mark
free = None

-- where this holds, the reason
abbrev pub told : Bool → Reason → Mark
told true reason = Some reason
told false reason = None

-- the first of two reasons that is there
infixr 30 ◌or_else◌
abbrev pub ◌or_else◌ : Mark → Mark → Mark
(Some reason) or_else other = Some reason
None or_else other = other

-- the faults of a node: the marks of its tokens, in order, at their places
abbrev pub fault_at : Place → Reason → BadScript
fault_at place reason = record { line = place.line; column = place.column; reason = reason }

abbrev pub faults : List Place → List Mark → List BadScript
faults [] marks = []
faults (p ∷ places) [] = []
faults (p ∷ places) (None ∷ marks) = faults places marks
faults (p ∷ places) (Some reason ∷ marks) = fault_at p reason ∷ faults places marks

abbrev pub first : List BadScript → Option BadScript
first [] = None
first (fault ∷ others) = Some fault

-- what each item has, its marks or its faults, one behind the other: a function of how many stand before the item, and of the item
abbrev pub each_from : {A B : Type 0} → (ℕ → A → List B) → ℕ → List A → List B
each_from has i [] = []
each_from has i (x ∷ xs) = has i x ++ each_from has (suc i) xs

abbrev pub each : {A B : Type 0} → (ℕ → A → List B) → List A → List B
each has xs = each_from has 0 xs

-- the mark of the separator before an item: there is none before the first
abbrev pub separator : ℕ → Mark → List Mark
separator zero mark = []
separator (suc i) mark = mark ∷ []

-- the mark at the first item alone
abbrev pub at_first : ℕ → Mark → Mark
at_first zero mark = mark
at_first (suc i) mark = free
