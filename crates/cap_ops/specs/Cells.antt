-- How many residues and parts the data of keys, values and results have together.
use Rattle.std.specs.Prelude.{ℕ, ◌+◌, ◌≤◌, List, length}
use Rattle.std.specs.List.{sum_by}
use Rattle.cap_ops.specs.declared.keys.Arg.{Arg}
use Rattle.cap_ops.specs.declared.keys.Arg.TheVariants.{Mor}
use Rattle.cap_ops.specs.declared.keys.Key.{Key}
use Rattle.cap_ops.specs.declared.keys.Out.{Out}
use Rattle.cap_ops.specs.declared.keys.Out.TheVariants.{One as OutOne, Many as OutMany}
use Rattle.cap_ops.specs.declared.keys.PrimOut.{PrimOut}
use Rattle.cap_ops.specs.declared.keys.Value.{Value as Answer}
use Rattle.cap_ops.specs.declared.keys.Value.TheVariants.{One, Many}

-- the cells of the data of morphisms are counted by the data's own
module _ {M : Type 0} (morphism_cells : M → ℕ) where
  abbrev pub argument_cells : Arg M → ℕ
  argument_cells (Mor f) = morphism_cells f.value
  argument_cells _ = 0

  abbrev pub key_cells : Key M → ℕ
  key_cells key = sum_by argument_cells key.args

  abbrev pub answer_cells : Answer M → ℕ
  answer_cells (One f) = morphism_cells f.value
  answer_cells (Many fs) = sum_by (λ f. morphism_cells f.value) fs
  answer_cells _ = 0

  abbrev pub out_cells : Out M → ℕ
  out_cells (OutOne f) = morphism_cells f.value
  out_cells (OutMany fs) = sum_by (λ f. morphism_cells f.value) fs
  out_cells _ = 0

-- the cells of a result: those of its answer and of its new objects
abbrev pub result_cells : {O M : Type 0} → (O → ℕ) → (M → ℕ) → PrimOut O M → ℕ
result_cells object_cells morphism_cells given = out_cells morphism_cells given.out + sum_by object_cells given.fresh

-- at most four data each
abbrev pub IsShortKey : {M : Type 0} → Key M → Type 0
IsShortKey key = length key.args ≤ 4

abbrev pub IsShortAnswer : {M : Type 0} → Answer M → Type 0
IsShortAnswer (Many fs) = length fs ≤ 4
IsShortAnswer _ = Unit {0}

abbrev pub IsShortOut : {M : Type 0} → Out M → Type 0
IsShortOut (OutMany fs) = length fs ≤ 4
IsShortOut _ = Unit {0}

abbrev pub IsShortResult : {O M : Type 0} → PrimOut O M → Type 0
IsShortResult given = IsShortOut given.out × (length given.fresh ≤ 4)
