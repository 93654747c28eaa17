-- How often a body calls an operation, and sets of rules.
use Rattle.std.specs.Prelude.{◌≡◌, ℕ, ◌+◌, Bool, false, ◌==◌, List, Some, slice_get, count_by, map}
use Rattle.std.specs.List.{range_with_len}
use Rattle.cap_terms.specs.declared.body.Step.{Step}
use Rattle.cap_terms.specs.declared.body.Step.TheVariants.{Call}
use Rattle.cap_terms.specs.declared.body.Rule.{Rule}

-- whether the step calls the operation
abbrev pub is_call : ℕ → Step → Bool
is_call op (Call o xs) = o.0 == op
is_call op _ = false

-- the number of steps that call the operation, and these numbers for the operations 1 to 44
abbrev pub occurrences : ℕ → List Step → ℕ
occurrences op steps = count_by (is_call op) steps

abbrev pub all_occurrences : List Step → List ℕ
all_occurrences steps = map (λ op. occurrences op steps) (range_with_len 1 44)

-- the rules have the numbers 1, 2, .. in order
abbrev pub AreNumbered : List Rule → Type 0
AreNumbered rules = (i : ℕ) (r : Rule) → slice_get rules i ≡ Some r → r.cost.no.0 ≡ i + 1
