-- Where nothing but an answer can be said, a run ends with Ok, unless memory runs out.
use Rattle.std.proofs.Common.{◌≡◌, ℕ, Bool, ◌≤◌, List, ◌++◌, length, Option, Some, None, inl, inr, refl, sym, ap, ◌∙◌, subst, arith}
use Rattle.std.specs.Io.KnownBytes.{Consumes, IsAtEnd}
use Rattle.std.proofs.lemmas.List.{append-nil, length-append}
use Rattle.cap_ops.proofs.Places.{none≢some, some_inner}
use Rattle.cap_data.specs.declared.data.ObjData.{ObjData}
use Rattle.cap_data.specs.declared.data.MorData.{MorData}
use Rattle.cap_report.specs.declared.report.Report.{Report}
use Rattle.cap_io.specs.Reading.{ConsumesAll}
use Rattle.cap_judge.specs.declared.judgement.Judgement.TheVariants.{Accepted}
use Rattle.cap_judge.specs.Judged.{AreAccepted}
use Rattle.cap_top.specs.declared.judging.Said.{Said}
use Rattle.cap_top.specs.declared.judging.Said.TheVariants.{Answered, Rejected, Refused}
use Rattle.cap_top.specs.declared.outcome.Status.TheVariants.{Ok, Rejected as status_rejected, Usage, ReadFault, WriteFault, TooLong, BadScript, NoMemory}
use Rattle.cap_top.specs.Judged.{Judging, said_of, IsRunJudged, IsPlainJudged, IsPlanJudged, IsCheckJudged}
use Rattle.cap_top.specs.Run.{Outside, byte_limit, IsRun}
use Rattle.cap_said_laws.specs.Laws.{TellsAndWorks, IsComplete, IsBuiltText}
use Rattle.cap_said_laws.proofs.Faults.{built_or_reason}
use Rattle.cap_said_laws.proofs.Judgements.{one_judgement}

-- known bytes that were taken to the end are all of them, and no more can be taken
taken_whole : (left rest : Option (List ℕ)) (bytes taken : List ℕ) → left ≡ Some bytes → Consumes left rest taken → IsAtEnd rest → taken ≡ bytes
taken_whole None rest bytes taken e h end = absurd (none≢some e)
taken_whole (Some xs) None bytes taken e h end = absurd h
taken_whole (Some xs) (Some ys) bytes taken e h end = sym (append-nil taken) ∙ ap (λ zs. taken ++ zs) (sym end) ∙ sym h ∙ some_inner e

taken_at_most : (left rest : Option (List ℕ)) (bytes taken : List ℕ) → left ≡ Some bytes → Consumes left rest taken → length taken ≤ length bytes
taken_at_most None rest bytes taken e h = absurd (none≢some e)
taken_at_most (Some xs) None bytes taken e h = absurd h
taken_at_most (Some xs) (Some ys) bytes taken e h = omega (arith, ap length (some_inner e), ap length h, length-append taken ys)

module _ (says : Judging) (Fine : List ℕ → Type 0) (only : (bytes : List ℕ) → Fine bytes → (said : Said) (text : List ℕ) (r : Report ObjData MorData) → says bytes said text r → said ≡ Answered) where
  said_of_all : (before after : Outside) (bytes taken : List ℕ) → Fine bytes → TellsAndWorks before after bytes → ConsumesAll byte_limit before.left after.left taken
      → (said : Said) (text : List ℕ) (r : Report ObjData MorData) → says taken said text r → said ≡ Answered
  said_of_all before after bytes taken fine t all said text r h = only bytes fine said text r (subst (λ b. says b said text r) (taken_whole before.left after.left bytes taken t.told all.taken all.ended) h)

  complete : IsComplete Fine (IsRun says)
  complete before after Ok report bytes fine t run = inl refl
  complete before after NoMemory report bytes fine t run = inr refl
  complete before after status_rejected report bytes fine t run =
      let wrong : Rejected ≡ Answered = said_of_all before after bytes run.called_for.bytes fine t run.called_for.taken Rejected run.text report run.called_for.are in absurd (cc)
  complete before after BadScript report bytes fine t run =
      let wrong : Refused ≡ Answered = said_of_all before after bytes run.called_for.bytes fine t run.called_for.taken Refused run.text report run.called_for.are in absurd (cc)
  complete before after TooLong report bytes fine t run =
      absurd (omega (arith, taken_at_most before.left after.left bytes run.called_for.bytes t.told run.called_for.taken, run.called_for.are.0.more, t.within))
  complete before after WriteFault report bytes fine t run = absurd (t.writes run.risen)
  complete before after ReadFault report bytes fine t run = absurd (t.reads run.risen)
  complete before after Usage report bytes fine t run = absurd run

run_only : (log : Bool) (bytes : List ℕ) → IsBuiltText bytes → (said : Said) (text : List ℕ) (r : Report ObjData MorData) → IsRunJudged log bytes said text r → said ≡ Answered
run_only log bytes fine Answered text r h = refl
run_only log bytes fine Refused text r h = absurd (built_or_reason bytes fine.form h.bad fine.sound fine.built h.why)
run_only log bytes fine Rejected text r h = absurd h

plain_only : (bytes : List ℕ) → IsBuiltText bytes → (said : Said) (text : List ℕ) (r : Report ObjData MorData) → IsPlainJudged bytes said text r → said ≡ Answered
plain_only bytes fine Answered text r h = refl
plain_only bytes fine Refused text r h = absurd (built_or_reason bytes fine.form h.bad fine.sound fine.built h.why)
plain_only bytes fine Rejected text r h = absurd h

plan_only : (bytes : List ℕ) → IsBuiltText bytes → (said : Said) (text : List ℕ) (r : Report ObjData MorData) → IsPlanJudged bytes said text r → said ≡ Answered
plan_only bytes fine Answered text r h = refl
plan_only bytes fine Refused text r h = absurd (built_or_reason bytes fine.form h.bad fine.sound fine.built h.why)
plan_only bytes fine Rejected text r h = absurd h

check_only : (bytes : List ℕ) → AreAccepted bytes → (said : Said) (text : List ℕ) (r : Report ObjData MorData) → IsCheckJudged bytes said text r → said ≡ Answered
check_only bytes fine said text r h = h.said_is ∙ ap said_of (one_judgement bytes h.judgement Accepted h.is fine)

pub run_complete : (log : Bool) → IsComplete IsBuiltText (IsRun (IsRunJudged log))
run_complete log = complete (IsRunJudged log) IsBuiltText (run_only log)

pub plain_complete : IsComplete IsBuiltText (IsRun IsPlainJudged)
plain_complete = complete IsPlainJudged IsBuiltText plain_only

pub plan_complete : IsComplete IsBuiltText (IsRun IsPlanJudged)
plan_complete = complete IsPlanJudged IsBuiltText plan_only

pub check_complete : IsComplete AreAccepted (IsRun IsCheckJudged)
check_complete = complete IsCheckJudged AreAccepted check_only
