-- What a run of the program has done, seen from outside.
use Rattle.std.specs.Prelude.{◌≡◌, ℕ, ◌≤◌, ◌⊎◌, Bool, List, length, Option, codes}
use Rattle.cap_data.specs.declared.data.ObjData.{ObjData}
use Rattle.cap_data.specs.declared.data.MorData.{MorData}
use Rattle.cap_report.specs.declared.report.Report.{Report}
use Rattle.cap_io.specs.declared.errors.ReadEnd.{ReadEnd}
use Rattle.cap_io.specs.declared.errors.ReadEnd.TheVariants as unread
use Rattle.cap_io.specs.Faults.{HasRisen}
use Rattle.cap_io.specs.Reading.{ConsumesSome, ConsumesAll, IsPastLimit}
use Rattle.cap_io.specs.Writing.{Adds, AddsFront}
use Rattle.cap_top.specs.declared.outcome.Status.{Status}
use Rattle.cap_top.specs.declared.outcome.Status.TheVariants.{Ok, Rejected, Usage, ReadFault, WriteFault, TooLong, BadScript, NoMemory}
use Rattle.cap_top.specs.declared.judging.Said.{Said}
use Rattle.cap_top.specs.declared.judging.Said.TheVariants as said
use Rattle.cap_top.specs.Judged.{Judging, IsRunJudged, IsPlainJudged, IsPlanJudged, IsCheckJudged}
use Rattle.cap_top.specs.Reports.{no_report}

-- how many bytes a script may have
abbrev pub byte_limit : ℕ
byte_limit = 1048576

-- a source and a sink: the bytes left and the bytes written, where they tell them, and how often each has failed
pub record Outside : Type 0 where
  pub left : Option (List ℕ)
  pub read_faults : ℕ
  pub written : Option (List ℕ)
  pub write_faults : ℕ

-- no call of the source failed, and no call of the sink failed: the counts of faults stay
abbrev pub NoReadFault : Outside → Outside → Type 0
NoReadFault before after = after.read_faults ≡ before.read_faults

abbrev pub NoWriteFault : Outside → Outside → Type 0
NoWriteFault before after = after.write_faults ≡ before.write_faults

-- nothing was taken, and nothing was written
abbrev pub TookNothing : Outside → Outside → Type 0
TookNothing before after = (after.left ≡ before.left) × NoReadFault before after

abbrev pub WroteNothing : Outside → Outside → Type 0
WroteNothing before after = (after.written ≡ before.written) × NoWriteFault before after

-- the whole input was taken, and it is as P says
pub record TookAll (before after : Outside) (P : List ℕ → Type 0) : Type 0 where
  pub bytes : List ℕ
  pub taken : ConsumesAll byte_limit before.left after.left bytes
  pub are : P bytes

-- the status that a saying calls for
abbrev pub status_of : Said → Status
status_of said.Answered = Ok
status_of said.Rejected = Rejected
status_of said.Refused = BadScript

-- the run read this input, which calls for this status, this text and this report: what the command says of the whole input, or that it is too long, where at most a piece more than the limit was taken
abbrev pub CallsFor : Judging → Outside → Outside → Status → List ℕ → Report ObjData MorData → Type 0
CallsFor says before after Ok text report = TookAll before after (λ bytes. says bytes said.Answered text report)
CallsFor says before after Rejected text report = TookAll before after (λ bytes. says bytes said.Rejected text report)
CallsFor says before after BadScript text report = TookAll before after (λ bytes. says bytes said.Refused text report)
CallsFor says before after TooLong text report = ConsumesSome before.left after.left (λ bytes. IsPastLimit byte_limit bytes × (text ≡ codes "too long\n") × (report ≡ no_report))
CallsFor says before after Usage text report = ⊥
CallsFor says before after ReadFault text report = ⊥
CallsFor says before after WriteFault text report = ⊥
CallsFor says before after NoMemory text report = ⊥

-- what the run called for was written whole, and no call failed
pub record Wrote (says : Judging) (before after : Outside) (status : Status) (report : Report ObjData MorData) : Type 0 where
  pub text : List ℕ
  pub called_for : CallsFor says before after status text report
  pub added : Adds before.written after.written text
  pub read_well : NoReadFault before after
  pub wrote_well : NoWriteFault before after

-- the sink failed when the front of what the run called for was written; the source did not. The report is that of the whole run
pub record WroteFront (says : Judging) (before after : Outside) (report : Report ObjData MorData) : Type 0 where
  pub status : Status
  pub text : List ℕ
  pub called_for : CallsFor says before after status text report
  pub added : AddsFront before.written after.written text
  pub read_well : NoReadFault before after
  pub risen : HasRisen before.write_faults after.write_faults

-- the text was written, without a fault, and this is the status; or the sink failed, and its front was
abbrev pub IsSaid : Option (List ℕ) → ℕ → Option (List ℕ) → ℕ → Status → List ℕ → Status → Type 0
IsSaid before faults_before after faults_after status text said = ((said ≡ status) × Adds before after text × (faults_after ≡ faults_before))
    ⊎ ((said ≡ WriteFault) × AddsFront before after text × HasRisen faults_before faults_after)

-- nothing was written, and this is the status
abbrev pub IsSilent : Option (List ℕ) → ℕ → Option (List ℕ) → ℕ → Status → Status → Type 0
IsSilent before faults_before after faults_after status said = (said ≡ status) × (after ≡ before) × (faults_after ≡ faults_before)

-- what is written where the input was not read to its end: that it is too long, and else nothing
abbrev pub IsUnread : Option (List ℕ) → ℕ → Option (List ℕ) → ℕ → ReadEnd → Status → Type 0
IsUnread before faults_before after faults_after unread.Fault said = IsSilent before faults_before after faults_after ReadFault said
IsUnread before faults_before after faults_after unread.TooLong said = IsSaid before faults_before after faults_after TooLong (codes "too long\n") said
IsUnread before faults_before after faults_after unread.NoMemory said = IsSilent before faults_before after faults_after NoMemory said

-- a fault of the source, before more than the limit was taken; and nothing was written
pub record ReadFailed (before after : Outside) (report : Report ObjData MorData) : Type 0 where
  pub taken : ConsumesSome before.left after.left (λ bytes. length bytes ≤ byte_limit)
  pub risen : HasRisen before.read_faults after.read_faults
  pub quiet : WroteNothing before after
  pub nothing_ran : report ≡ no_report

-- want of memory: no more than the limit was taken, and nothing was written; no call failed
pub record RanOut (before after : Outside) (report : Report ObjData MorData) : Type 0 where
  pub taken : ConsumesSome before.left after.left (λ bytes. length bytes ≤ byte_limit)
  pub read_well : NoReadFault before after
  pub quiet : WroteNothing before after
  pub nothing_ran : report ≡ no_report

-- what a command that judges its input does, by its status
abbrev pub IsRun : Judging → Outside → Outside → Status → Report ObjData MorData → Type 0
IsRun says before after Ok report = Wrote says before after Ok report
IsRun says before after Rejected report = Wrote says before after Rejected report
IsRun says before after BadScript report = Wrote says before after BadScript report
IsRun says before after TooLong report = Wrote says before after TooLong report
IsRun says before after WriteFault report = WroteFront says before after report
IsRun says before after ReadFault report = ReadFailed before after report
IsRun says before after NoMemory report = RanOut before after report
IsRun says before after Usage report = ⊥

-- what `cap run` does, and with the log `cap run --log`
abbrev pub IsThreadsRun : Bool → Outside → Outside → Status → Report ObjData MorData → Type 0
IsThreadsRun log before after status report = IsRun (IsRunJudged log) before after status report

-- what `cap plain`, `cap plan` and `cap check` do
abbrev pub IsPlainRun : Outside → Outside → Status → Report ObjData MorData → Type 0
IsPlainRun before after status report = IsRun IsPlainJudged before after status report

abbrev pub IsPlanRun : Outside → Outside → Status → Report ObjData MorData → Type 0
IsPlanRun before after status report = IsRun IsPlanJudged before after status report

abbrev pub IsCheckRun : Outside → Outside → Status → Report ObjData MorData → Type 0
IsCheckRun before after status report = IsRun IsCheckJudged before after status report

-- the usage line
abbrev pub usage_text : List ℕ
usage_text = codes "usage: cap run | run --log | plain | plan | check | demo N\n"

-- what the program does where the words are none of its lists: it writes the usage line and reads nothing
abbrev pub IsUsageRun : Outside → Outside → Status → Report ObjData MorData → Type 0
IsUsageRun before after Usage report = TookNothing before after × Adds before.written after.written usage_text × NoWriteFault before after × (report ≡ no_report)
IsUsageRun before after WriteFault report = TookNothing before after × AddsFront before.written after.written usage_text × HasRisen before.write_faults after.write_faults × (report ≡ no_report)
IsUsageRun before after Ok report = ⊥
IsUsageRun before after BadScript report = ⊥
IsUsageRun before after TooLong report = ⊥
IsUsageRun before after ReadFault report = ⊥
IsUsageRun before after NoMemory report = ⊥
IsUsageRun before after Rejected report = ⊥
