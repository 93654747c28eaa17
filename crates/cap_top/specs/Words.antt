-- The lists of words that the program knows.
use Rattle.std.specs.Prelude.{◌≡◌, List, [], ◌∷◌, codes, ℕ, true, false}
use Rattle.cap_data.specs.declared.data.ObjData.{ObjData}
use Rattle.cap_data.specs.declared.data.MorData.{MorData}
use Rattle.cap_report.specs.declared.report.Report.{Report}
use Rattle.cap_top.specs.declared.outcome.Status.{Status}
use Rattle.cap_top.specs.Run.{Outside, IsThreadsRun, IsPlainRun, IsPlanRun, IsCheckRun, IsUsageRun}

-- the words ask for `cap run`
abbrev pub AskForRun : List (List ℕ) → Type 0
AskForRun words = words ≡ codes "run" ∷ []

-- the words ask for `cap run --log`
abbrev pub AskForLog : List (List ℕ) → Type 0
AskForLog words = words ≡ codes "run" ∷ codes "--log" ∷ []

-- the words ask for `cap plain`
abbrev pub AskForPlain : List (List ℕ) → Type 0
AskForPlain words = words ≡ codes "plain" ∷ []

-- the words ask for `cap plan`
abbrev pub AskForPlan : List (List ℕ) → Type 0
AskForPlan words = words ≡ codes "plan" ∷ []

-- the words ask for `cap check`
abbrev pub AskForCheck : List (List ℕ) → Type 0
AskForCheck words = words ≡ codes "check" ∷ []

-- what the program does with these words
pub record IsProgramRun (words : List (List ℕ)) (before after : Outside) (status : Status) (report : Report ObjData MorData) : Type 0 where
  pub run : AskForRun words → IsThreadsRun false before after status report
  pub log : AskForLog words → IsThreadsRun true before after status report
  pub plain : AskForPlain words → IsPlainRun before after status report
  pub plan : AskForPlan words → IsPlanRun before after status report
  pub check : AskForCheck words → IsCheckRun before after status report
  pub usage : (AskForRun words → ⊥) → (AskForLog words → ⊥) → (AskForPlain words → ⊥) → (AskForPlan words → ⊥) → (AskForCheck words → ⊥) → IsUsageRun before after status report
