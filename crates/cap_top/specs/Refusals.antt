-- Why a script is refused, and the line that says so.
use Rattle.std.specs.Prelude.{◌≡◌, ◌⊎◌, ℕ, List, Some}
use Rattle.cap_names.specs.declared.reasons.BadScript.{BadScript}
use Rattle.cap_grammar.specs.declared.tree.Script.{Script}
use Rattle.cap_script.specs.declared.fault.ScriptFault.TheVariants as parsing
use Rattle.cap_script.specs.Scripts.{IsParsed, IsCause}
use Rattle.cap_block_faults.specs.Marks.{first}
use Rattle.cap_faults.specs.declared.fault.CheckFault.{CheckFault}
use Rattle.cap_faults.specs.declared.fault.CheckFault.TheVariants.{Bad, NoMemory}
use Rattle.cap_faults.specs.Scripts.{script_faults, IsSound}
use Rattle.cap_checked.specs.declared.tree.Checked.{Checked}
use Rattle.cap_checked.specs.Checked.{checked_of}
use Rattle.cap_check.specs.Unbuilt.{unbuilt}
use Rattle.cap_judge.specs.declared.judgement.Judgement.TheVariants.{Refused}
use Rattle.cap_judge.specs.Judged.{judgement_text}

-- the bytes are a text of a script that has no fault of names, sorts or limits, and this is its checked form
pub record IsSoundText (bytes : List ℕ) (form : Checked) : Type 0 where
  pub script : Script
  pub parsed : IsParsed bytes script
  pub sound : IsSound script
  pub formed : form ≡ checked_of script

-- the bytes are a text of a script that has faults of names, sorts or limits, and this is the first
pub record IsFaultyText (bytes : List ℕ) (bad : BadScript) : Type 0 where
  pub script : Script
  pub parsed : IsParsed bytes script
  pub first_fault : first (script_faults script) ≡ Some bad

-- the bytes are no text of a script, and this is their first fault; or they are one, and this is the first fault of its names, sorts and limits
abbrev pub IsFault : List ℕ → BadScript → Type 0
IsFault bytes bad = IsCause bytes (parsing.BadScript bad) ⊎ IsFaultyText bytes bad

-- the first block or category of a script without faults that can't be run yet
pub record IsUnbuilt (bytes : List ℕ) (bad : BadScript) : Type 0 where
  pub form : Checked
  pub sound : IsSoundText bytes form
  pub first_unbuilt : first (unbuilt form.prelude) ≡ Some bad

-- a text is refused by its first fault, or by the first block or category that can't be run yet
abbrev pub IsReason : List ℕ → BadScript → Type 0
IsReason bytes bad = IsFault bytes bad ⊎ IsUnbuilt bytes bad

-- the line of a refusal: the place and the reason
abbrev pub refusal_text : BadScript → List ℕ
refusal_text bad = judgement_text (Refused bad)

-- a fault that is told is the first one; want of memory says nothing
abbrev pub IsRefusal : List ℕ → CheckFault → Type 0
IsRefusal bytes (Bad bad) = IsFault bytes bad
IsRefusal bytes NoMemory = Unit {0}

-- so is a reason for which a text is not run
abbrev pub IsNotRun : List ℕ → CheckFault → Type 0
IsNotRun bytes (Bad bad) = IsReason bytes bad
IsNotRun bytes NoMemory = Unit {0}
