-- The readers read the languages of the grammar.
use Rattle.std.specs.Prelude.{◌≡◌, ◌-◌, List, length, Ok, Err}
use Rattle.cap_reading.specs.Steps.{Read, whole}
use Rattle.cap_reading.specs.Faults.{IsFault}
use Rattle.cap_grammar.specs.Grammar.{name, operation, number, int, ref, arg, list, path, combo, sum, rows, object, morphism}
use Rattle.cap_literals.specs.Reading.{name_at, operation_at, number_at, int_at, ref_at, arg_at, list_at, path_at, combo_at, sum_at, rows_at, object_at, morphism_at}

-- A list that is read to its end is one of its value's; each list of a value is read to its end as that value; and where reading fails is the list's first fault.
pub record Reads {S A : Type 0} (r : List S → Read S A) (p : A → List S → Type 0) : Type 0 where
  pub found : (ts : List S) (a : A) → whole r ts ≡ Ok a → p a ts
  pub only : (ts : List S) (a : A) → p a ts → whole r ts ≡ Ok a
  pub fault : (ts rest : List S) → whole r ts ≡ Err rest → IsFault p ts (length ts - length rest)

-- Each part of a command is read as the grammar spells it.
pub record PartsAreRead : Type 0 where
  pub names : Reads name_at name
  pub operations : Reads operation_at operation
  pub numbers : Reads number_at number
  pub ints : Reads int_at int
  pub refs : Reads ref_at ref
  pub args : Reads arg_at arg
  pub lists : Reads list_at list
  pub paths : Reads path_at path
  pub combos : Reads combo_at combo
  pub sums : Reads sum_at sum
  pub matrices : Reads rows_at rows
  pub objects : Reads object_at object
  pub morphisms : Reads morphism_at morphism
