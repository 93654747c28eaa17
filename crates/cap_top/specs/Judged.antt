-- What each command says of the bytes of a whole input, with which text and which report.
use Rattle.std.specs.Prelude.{◌≡◌, ℕ, ◌≤◌, Bool, true, false, List, [], ◌++◌, length}
use Rattle.cap_names.specs.declared.reasons.BadScript.{BadScript}
use Rattle.cap_checked.specs.declared.tree.Checked.{Checked}
use Rattle.cap_check.specs.Unbuilt.{CheckedPart, unbuilt}
use Rattle.cap_registered.specs.Registrations.{categories}
use Rattle.cap_registered.specs.Certificates.{AreCertificates}
use Rattle.cap_judge.specs.declared.judgement.Judgement.{Judgement}
use Rattle.cap_judge.specs.declared.judgement.Judgement.TheVariants as judged
use Rattle.cap_judge.specs.Judged.{AreAccepted, IsJudgement, judgement_text}
use Rattle.cap_data.specs.declared.data.ObjData.{ObjData}
use Rattle.cap_data.specs.declared.data.MorData.{MorData}
use Rattle.cap_report.specs.declared.report.Report.{Report}
use Rattle.cap_session.specs.Reports.{IsPlainReport, IsRunReport}
use Rattle.cap_top_log.specs.Log.{log_text}
use Rattle.cap_top_text.specs.Text.{report_text}
use Rattle.cap_top.specs.declared.judging.Said.{Said}
use Rattle.cap_top.specs.declared.judging.Said.TheVariants.{Answered, Rejected, Refused}
use Rattle.cap_top.specs.Refusals.{IsSoundText, IsReason, refusal_text}
use Rattle.cap_top.specs.Reports.{no_report}

-- what a command says of bytes, with which text and which report
abbrev pub Judging : Type 1
Judging = List ℕ → Said → List ℕ → Report ObjData MorData → Type 0

-- a text is refused by its first fault, or by the first block or category that can't be run yet; nothing is run
pub record IsRefusedText (bytes text : List ℕ) (report : Report ObjData MorData) : Type 0 where
  pub bad : BadScript
  pub why : IsReason bytes bad
  pub text_is : text ≡ refusal_text bad
  pub nothing_ran : report ≡ no_report

-- `cap plain` answers a script without faults whose kinds are built: the report accounts for it, its histories are right, and the text is that of the report
pub record IsAnsweredPlain (bytes text : List ℕ) (report : Report ObjData MorData) : Type 0 where
  pub form : Checked
  pub sound : IsSoundText bytes form
  pub built : unbuilt form.prelude ≡ []
  pub ran : IsPlainReport form report
  pub text_is : text ≡ report_text form report

-- `cap plain`
abbrev pub IsPlainJudged : Judging
IsPlainJudged bytes Answered text report = IsAnsweredPlain bytes text report
IsPlainJudged bytes Refused text report = IsRefusedText bytes text report
IsPlainJudged bytes Rejected text report = ⊥

-- the text of a run, and behind it, where it is asked for, the log of each category
abbrev pub whole_text : Bool → Checked → Report ObjData MorData → List ℕ
whole_text false form report = report_text form report
whole_text true form report = report_text form report ++ log_text form.prelude report

-- `cap run` answers a script without faults whose kinds are built: the report accounts for it, in whatever order its sessions took turns, its histories are right, and the text is that of the report
pub record IsAnsweredRun (log : Bool) (bytes text : List ℕ) (report : Report ObjData MorData) : Type 0 where
  pub form : Checked
  pub sound : IsSoundText bytes form
  pub built : unbuilt form.prelude ≡ []
  pub ran : IsRunReport form report
  pub text_is : text ≡ whole_text log form report

-- `cap run`, and with the log `cap run --log`
abbrev pub IsRunJudged : Bool → Judging
IsRunJudged log bytes Answered text report = IsAnsweredRun log bytes text report
IsRunJudged log bytes Refused text report = IsRefusedText bytes text report
IsRunJudged log bytes Rejected text report = ⊥

-- the text is the certificates of the categories, in order; where there are some, they are accepted by the judge of certificates
pub record AreCertified (parts : List CheckedPart) (text : List ℕ) : Type 0 where
  pub certificates : AreCertificates parts text
  pub accepted : 1 ≤ length (categories parts) → AreAccepted text

-- the bytes are a text of a script without faults that can be run, and the text is the certificates of its categories; nothing is run
pub record IsPlanned (bytes text : List ℕ) (report : Report ObjData MorData) : Type 0 where
  pub form : Checked
  pub sound : IsSoundText bytes form
  pub built : unbuilt form.prelude ≡ []
  pub certified : AreCertified form.prelude text
  pub nothing_ran : report ≡ no_report

-- `cap plan`
abbrev pub IsPlanJudged : Judging
IsPlanJudged bytes Answered text report = IsPlanned bytes text report
IsPlanJudged bytes Refused text report = IsRefusedText bytes text report
IsPlanJudged bytes Rejected text report = ⊥

-- what is said of certificates
abbrev pub said_of : Judgement → Said
said_of judged.Accepted = Answered
said_of (judged.Rejected line) = Rejected
said_of (judged.Refused bad) = Refused

-- `cap check`
pub record IsCheckJudged (bytes : List ℕ) (said : Said) (text : List ℕ) (report : Report ObjData MorData) : Type 0 where
  pub judgement : Judgement
  pub is : IsJudgement bytes judgement
  pub said_is : said ≡ said_of judgement
  pub text_is : text ≡ judgement_text judgement
  pub nothing_ran : report ≡ no_report
