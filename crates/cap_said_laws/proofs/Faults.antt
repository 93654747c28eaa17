-- A text is sound with one checked form, or has one fault; and where it is refused there is one reason.
use Rattle.std.proofs.Common.{◌≡◌, ℕ, List, [], Some, sym, ap, ◌∙◌, ⊎_elim}
use Rattle.cap_names.specs.declared.reasons.BadScript.{BadScript}
use Rattle.cap_script.specs.declared.fault.ScriptFault.TheVariants as parsing
use Rattle.cap_script.specs.Scripts.{IsCause}
use Rattle.cap_block_faults.specs.Marks.{first}
use Rattle.cap_faults.specs.Scripts.{script_faults}
use Rattle.cap_checked.specs.declared.tree.Checked.{Checked}
use Rattle.cap_checked.specs.Checked.{checked_of}
use Rattle.cap_script_laws.proofs.Once.{one_script, script_or_fault, one_fault}
use Rattle.cap_check.specs.Unbuilt.{unbuilt}
use Rattle.cap_top.specs.Refusals.{IsSoundText, IsFaultyText, IsFault, IsUnbuilt, IsReason}

-- a text has one checked form
pub one_form : (bytes : List ℕ) (form other : Checked) → IsSoundText bytes form → IsSoundText bytes other → form ≡ other
one_form bytes form other h k = h.formed ∙ ap checked_of (one_script bytes h.script k.script h.parsed k.parsed) ∙ sym k.formed

pub no_first : (found : List BadScript) (bad : BadScript) → found ≡ [] → first found ≡ Some bad → ⊥
no_first found bad none some = let e = sym (ap first none) ∙ some in cc

-- a sound text has no fault
pub sound_or_fault : (bytes : List ℕ) (form : Checked) (bad : BadScript) → IsSoundText bytes form → IsFault bytes bad → ⊥
sound_or_fault bytes form bad sound fault =
    ⊎_elim
    (λ (cause : IsCause bytes (parsing.BadScript bad)). script_or_fault bytes sound.script bad sound.parsed cause)
    (λ (faulty : IsFaultyText bytes bad).
    no_first (script_faults faulty.script) bad (ap script_faults (one_script bytes faulty.script sound.script faulty.parsed sound.parsed) ∙ sound.sound) faulty.first_fault)
    fault

pub one_first : (found : List BadScript) (a b : BadScript) → first found ≡ Some a → first found ≡ Some b → a ≡ b
one_first found a b h k = let e : Some a ≡ Some b = sym h ∙ k in cc

one_faulty : (bytes : List ℕ) (a b : BadScript) → IsFaultyText bytes a → IsFaultyText bytes b → a ≡ b
one_faulty bytes a b h k = one_first (script_faults k.script) a b (ap (λ s. first (script_faults s)) (one_script bytes k.script h.script k.parsed h.parsed) ∙ h.first_fault) k.first_fault

-- a text has one fault
pub one_fault_of : (bytes : List ℕ) (a b : BadScript) → IsFault bytes a → IsFault bytes b → a ≡ b
one_fault_of bytes a b h k =
    ⊎_elim
    (λ (cause : IsCause bytes (parsing.BadScript a)).
    ⊎_elim
    (λ (other : IsCause bytes (parsing.BadScript b)). one_fault bytes a b cause other)
    (λ (other : IsFaultyText bytes b). absurd (script_or_fault bytes other.script a other.parsed cause))
    k)
    (λ (faulty : IsFaultyText bytes a).
    ⊎_elim
    (λ (other : IsCause bytes (parsing.BadScript b)). absurd (script_or_fault bytes faulty.script b faulty.parsed other))
    (λ (other : IsFaultyText bytes b). one_faulty bytes a b faulty other)
    k)
    h

one_unbuilt : (bytes : List ℕ) (a b : BadScript) → IsUnbuilt bytes a → IsUnbuilt bytes b → a ≡ b
one_unbuilt bytes a b h k = one_first (unbuilt k.form.prelude) a b (ap (λ form. first (unbuilt form.prelude)) (one_form bytes k.form h.form k.sound h.sound) ∙ h.first_unbuilt) k.first_unbuilt

-- a text is refused for one reason
pub one_reason : (bytes : List ℕ) (a b : BadScript) → IsReason bytes a → IsReason bytes b → a ≡ b
one_reason bytes a b h k =
    ⊎_elim
    (λ (fault : IsFault bytes a).
    ⊎_elim
    (λ (other : IsFault bytes b). one_fault_of bytes a b fault other)
    (λ (other : IsUnbuilt bytes b). absurd (sound_or_fault bytes other.form a other.sound fault))
    k)
    (λ (none : IsUnbuilt bytes a).
    ⊎_elim
    (λ (other : IsFault bytes b). absurd (sound_or_fault bytes none.form b none.sound other))
    (λ (other : IsUnbuilt bytes b). one_unbuilt bytes a b none other)
    k)
    h

-- a script whose kinds are built is not refused
pub built_or_reason : (bytes : List ℕ) (form : Checked) (bad : BadScript) → IsSoundText bytes form → unbuilt form.prelude ≡ [] → IsReason bytes bad → ⊥
built_or_reason bytes form bad sound built why =
    ⊎_elim
    (λ (fault : IsFault bytes bad). sound_or_fault bytes form bad sound fault)
    (λ (none : IsUnbuilt bytes bad). no_first (unbuilt none.form.prelude) bad (ap (λ form. unbuilt form.prelude) (one_form bytes none.form form none.sound sound) ∙ built) none.first_unbuilt)
    why
