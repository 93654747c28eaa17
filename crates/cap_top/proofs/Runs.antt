-- A run that says what it was called for is a run of its command.
use Rattle.std.proofs.Common.{◌≡◌, ℕ, List, refl, sym, subst, ⊎_elim}
use Rattle.std.specs.Prelude.{Result, Ok, Err, IfOk, MatchResult}
use Rattle.cap_names.specs.declared.faults.NoMemory.{NoMemory as Memoryless}
use Rattle.cap_data.specs.declared.data.ObjData.{ObjData}
use Rattle.cap_data.specs.declared.data.MorData.{MorData}
use Rattle.cap_report.specs.declared.report.Report.{Report}
use Rattle.cap_io.specs.declared.errors.ReadEnd.{ReadEnd}
use Rattle.cap_io.specs.declared.errors.ReadEnd.TheVariants as unread
use Rattle.cap_io.specs.Faults.{HasRisen}
use Rattle.cap_io.specs.Reading.{ConsumesAll, IsReadAll}
use Rattle.cap_io.specs.Writing.{Adds}
use Rattle.cap_top.specs.declared.outcome.Status.{Status}
use Rattle.cap_top.specs.declared.outcome.Status.TheVariants.{Ok as Fine, Rejected, Usage, ReadFault, WriteFault, TooLong, BadScript, NoMemory}
use Rattle.cap_top.specs.declared.judging.Said.{Said}
use Rattle.cap_top.specs.declared.judging.Said.TheVariants as said
use Rattle.cap_top.specs.declared.judging.Verdict.{Verdict}
use Rattle.cap_top.specs.Judged.{Judging}
use Rattle.cap_top.specs.Reports.{no_report}
use Rattle.cap_top.specs.Run.{Outside, NoReadFault, NoWriteFault, CallsFor, IsRun, IsSaid, IsSilent, IsUnread, byte_limit, status_of}

pub judged_calls : (says : Judging) (before after : Outside) (what : Said) (bytes text : List ℕ) (report : Report ObjData MorData) → says bytes what text report → ConsumesAll byte_limit before.left after.left bytes → CallsFor says before after (status_of what) text report
judged_calls says before after said.Answered bytes text report h all = record { bytes = bytes; taken = all; are = h }
judged_calls says before after said.Rejected bytes text report h all = record { bytes = bytes; taken = all; are = h }
judged_calls says before after said.Refused bytes text report h all = record { bytes = bytes; taken = all; are = h }

written-run : (says : Judging) (before after : Outside) (status : Status) (text : List ℕ) (report : Report ObjData MorData) → CallsFor says before after status text report → Adds before.written after.written text → NoReadFault before after → NoWriteFault before after → IsRun says before after status report
written-run says before after Fine text report called added read wrote = record { text = text; called_for = called; added = added; read_well = read; wrote_well = wrote }
written-run says before after Rejected text report called added read wrote = record { text = text; called_for = called; added = added; read_well = read; wrote_well = wrote }
written-run says before after BadScript text report called added read wrote = record { text = text; called_for = called; added = added; read_well = read; wrote_well = wrote }
written-run says before after TooLong text report called added read wrote = record { text = text; called_for = called; added = added; read_well = read; wrote_well = wrote }
written-run says before after Usage text report called added read wrote = called
written-run says before after ReadFault text report called added read wrote = absurd called
written-run says before after WriteFault text report called added read wrote = absurd called
written-run says before after NoMemory text report called added read wrote = absurd called

pub said_run : (says : Judging) (before after : Outside) (status : Status) (text : List ℕ) (report : Report ObjData MorData) (ended : Status) → CallsFor says before after status text report → NoReadFault before after
    → IsSaid before.written before.write_faults after.written after.write_faults status text ended → IsRun says before after ended report
said_run says before after status text report ended called read h = ⊎_elim
    (λ whole. subst (λ s. IsRun says before after s report) (sym whole.0) (written-run says before after status text report called whole.1 read whole.2))
    (λ front. subst (λ s. IsRun says before after s report) (sym front.0) (record { status = status; text = text; called_for = called; added = front.1; read_well = read; risen = front.2 }))
    h

pub judged_run : (says : Judging) (before after : Outside) (what : Said) (bytes text : List ℕ) (report : Report ObjData MorData) (status ended : Status) → says bytes what text report → ConsumesAll byte_limit before.left after.left bytes → NoReadFault before after → status ≡ status_of what
    → IsSaid before.written before.write_faults after.written after.write_faults status text ended → IsRun says before after ended report
judged_run says before after what bytes text report status ended h all read is told =
    said_run says before after status text report ended (subst (λ s. CallsFor says before after s text report) (sym is) (judged_calls says before after what bytes text report h all)) read told

-- the input was read whole, judged and told
pub told_run : (says : Judging) (before after : Outside) (bytes : List ℕ) (judged : Result Verdict Memoryless) (status : Status) (report : Report ObjData MorData)
    → IfOk judged (λ v. says bytes v.said v.text.items v.report) → ConsumesAll byte_limit before.left after.left bytes → NoReadFault before after
    → MatchResult judged
    (λ v. IsSaid before.written before.write_faults after.written after.write_faults (status_of v.said) v.text.items status × (report ≡ v.report))
    (λ _. IsSilent before.written before.write_faults after.written after.write_faults NoMemory status × (report ≡ no_report))
    → IsRun says before after status report
told_run says before after bytes (Ok v) status report h all read told =
    subst (IsRun says before after status) (sym told.1) (judged_run says before after v.said bytes v.text.items v.report (status_of v.said) status h all read refl told.0)
told_run says before after bytes (Err e) status report h all read told =
    subst (λ s. IsRun says before after s report) (sym told.0.0)
    (record { taken = record { bytes = bytes; taken = all.taken; are = all.within }; read_well = read; quiet = (told.0.1, told.0.2); nothing_ran = told.1 })

-- the input was not read to its end
pub unread_run : (says : Judging) (before after : Outside) (end : ReadEnd) (status : Status) (report : Report ObjData MorData)
    → IsReadAll byte_limit before.left after.left (Err end) → ((end ≡ unread.Fault → ⊥) → NoReadFault before after) → (end ≡ unread.Fault → HasRisen before.read_faults after.read_faults)
    → IsUnread before.written before.write_faults after.written after.write_faults end status → report ≡ no_report → IsRun says before after status report
unread_run says before after unread.Fault status report taken stays rises told silent =
    subst (λ s. IsRun says before after s report) (sym told.0) (record { taken = taken; risen = rises refl; quiet = (told.1, told.2); nothing_ran = silent })
unread_run says before after unread.TooLong status report taken stays rises told silent =
    said_run says before after TooLong _ report status (record { bytes = taken.bytes; taken = taken.taken; are = (taken.are, refl, silent) }) (stays (λ e. cc)) told
unread_run says before after unread.NoMemory status report taken stays rises told silent =
    subst (λ s. IsRun says before after s report) (sym told.0) (record { taken = taken; read_well = stays (λ e. cc); quiet = (told.1, told.2); nothing_ran = silent })
