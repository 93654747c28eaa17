-- The checked forms of sound scripts (this project's own script language).
use Rattle.std.specs.Prelude.{◌≡◌}
use Rattle.cap_grammar.specs.declared.tree.Script.{Script}
use Rattle.cap_faults.specs.Scripts.{IsSound}
use Rattle.cap_checked.specs.declared.tree.Checked.{Checked}
use Rattle.cap_checked.specs.Checked.{checked_of}
use Rattle.cap_sound.specs.Given.{IsGiven}
use Rattle.cap_sound.specs.Weights.{AreRanged}

-- a script of some text, without faults, that has this form
pub record IsOfSound (form : Checked) : Type 0 where
  pub script : Script
  pub given : IsGiven script
  pub sound : IsSound script
  pub formed : form ≡ checked_of script

-- before the sessions of such a form each weight is 1 to 1,000,000
abbrev pub FormsAreRanged : Type 0
FormsAreRanged = (form : Checked) → IsOfSound form → AreRanged form.prelude
