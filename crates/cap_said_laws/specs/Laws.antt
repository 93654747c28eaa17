-- The laws of what is said of an input, and of how a run ends.
use Rattle.std.specs.Prelude.{◌≡◌, ◌↔◌, ◌⊎◌, ℕ, ◌-◌, ◌^◌, ◌<◌, ◌≤◌, List, [], length, Some}
use Rattle.cap_io.specs.Faults.{HasRisen}
use Rattle.cap_checked.specs.declared.tree.Checked.{Checked}
use Rattle.cap_check.specs.Unbuilt.{CheckedPart, unbuilt}
use Rattle.cap_registered.specs.Certificates.{AreCertificates}
use Rattle.cap_data.specs.declared.data.ObjData.{ObjData}
use Rattle.cap_data.specs.declared.data.MorData.{MorData}
use Rattle.cap_report.specs.declared.report.Report.{Report}
use Rattle.cap_top.specs.declared.judging.Said.{Said}
use Rattle.cap_top.specs.declared.outcome.Status.{Status}
use Rattle.cap_top.specs.declared.outcome.Status.TheVariants.{Ok, ReadFault, WriteFault, NoMemory}
use Rattle.cap_one_report.specs.Sizes.{without_sizes, HasNoSizes}
use Rattle.cap_top.specs.Judged.{Judging, IsPlainJudged}
use Rattle.cap_top.specs.Refusals.{IsSoundText}
use Rattle.cap_top.specs.Run.{Outside, byte_limit}

-- the certificates of a prelude are one text at most
abbrev pub OneCertificates : Type 0
OneCertificates = (parts : List CheckedPart) (text other : List ℕ) → AreCertificates parts text → AreCertificates parts other → text ≡ other

-- a command says one thing at most of the bytes of an input, with one text and one report
abbrev pub SaysOneThing : Judging → Type 0
SaysOneThing judged =
    (bytes : List ℕ) (said other : Said) (text words : List ℕ) (r s : Report ObjData MorData) → judged bytes said text r → judged bytes other words s → (said ≡ other) × (text ≡ words) × (r ≡ s)

-- `cap plain` says one thing at most of the bytes of an input, with one report but for the sizes that refusals of matrices past the limits name; where none names a size, with one report and one text
abbrev pub PlainSaysOneThing : Type 0
PlainSaysOneThing =
    (bytes : List ℕ) (said other : Said) (text words : List ℕ) (r s : Report ObjData MorData) → IsPlainJudged bytes said text r → IsPlainJudged bytes other words s
    → (said ≡ other) × (without_sizes r ≡ without_sizes s) × (HasNoSizes r → HasNoSizes s → (text ≡ words) × (r ≡ s))

-- as long as the counts are below their last value: the status is ReadFault exactly where the source's count of faults rose, and WriteFault exactly where the sink's did
pub record FaultsAreTold (before after : Outside) (status : Status) : Type 0 where
  pub reading : after.read_faults < 2 ^ 64 - 1 → (status ≡ ReadFault) ↔ (before.read_faults < after.read_faults)
  pub writing : after.write_faults < 2 ^ 64 - 1 → (status ≡ WriteFault) ↔ (before.write_faults < after.write_faults)

-- the status of each such run tells which faults came
abbrev pub TellsFaults : (Outside → Outside → Status → Report ObjData MorData → Type 0) → Type 0
TellsFaults is_run = (before after : Outside) (status : Status) (report : Report ObjData MorData) → is_run before after status report → FaultsAreTold before after status

-- the source tells its bytes, which are within the limit, and no call of source or sink failed
pub record TellsAndWorks (before after : Outside) (bytes : List ℕ) : Type 0 where
  pub told : before.left ≡ Some bytes
  pub within : length bytes ≤ byte_limit
  pub reads : HasRisen before.read_faults after.read_faults → ⊥
  pub writes : HasRisen before.write_faults after.write_faults → ⊥

-- a run over such bytes ends with Ok, unless memory runs out
abbrev pub IsComplete : (List ℕ → Type 0) → (Outside → Outside → Status → Report ObjData MorData → Type 0) → Type 0
IsComplete Fine is_run =
    (before after : Outside) (status : Status) (report : Report ObjData MorData) (bytes : List ℕ) → Fine bytes → TellsAndWorks before after bytes → is_run before after status report → (status ≡ Ok) ⊎ (status ≡ NoMemory)

-- the bytes are a text of a script without faults whose kinds are built
pub record IsBuiltText (bytes : List ℕ) : Type 0 where
  pub form : Checked
  pub sound : IsSoundText bytes form
  pub built : unbuilt form.prelude ≡ []
