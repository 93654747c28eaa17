use Rattle.std.proofs.Common.{List, take, refl, sym, subst, ◌∙◌}
use Rattle.std.proofs.lemmas.Result.{err_from_is_err_and}
use Rattle.cap_names.specs.declared.reasons.BadScript.{BadScript}
use Rattle.cap_faults.specs.Scripts.{session_faults, Tells}
use Rattle.cap_faults.proofs.Loops.{none_more, tells_at, session_is, left_more}
use Rattle.cap_faults.proofs.scripts.sessions_sound.Goals as goal

pub returns-in_err-session_sound : goal.returns-in_err-session_sound
returns-in_err-session_sound c =
    let p = err_from_is_err_and c.from_residual.result c.from_residual.ensures.1 in
    let P : List BadScript → Type 0 = λ l. Tells l c.in_err-session_sound.field-0.0 in
    rw (p.1, p.2) (tells_at (session_faults c.args.parts.now c.args.outer.now c.args.sessions.now) _ _ c.index-sessions-i.result c.in_err-session_sound.field-0.0 c.sessions-test.true c.index-sessions-i.is c.sessions.invariant.none
    (subst P (session_is c.args.parts.now c.args.outer.now c.args.sessions.now c.sessions.i c.index-sessions-i.result c.sessions.left (take c.sessions.i c.args.sessions.now) refl c.sessions.invariant.rest) c.in_err-session_sound.ensures))

pub sessions-preserved : goal.sessions-preserved
sessions-preserved c = record {
  none = none_more (session_faults c.args.parts.now c.args.outer.now c.args.sessions.now) _ _ c.index-sessions-i.result c.sessions-test.true c.index-sessions-i.is c.sessions.invariant.none
      (sym (session_is c.args.parts.now c.args.outer.now c.args.sessions.now c.sessions.i c.index-sessions-i.result c.sessions.left (take c.sessions.i c.args.sessions.now) refl c.sessions.invariant.rest) ∙ c.in_ok-session_sound.ensures);
  rest = left_more c.args.parts.now c.args.sessions.now c.sessions.i c.index-sessions-i.result c.sessions.left c.len.result c.saturating_sub-left-in-sessions.result c.sessions-test.true c.index-sessions-i.is c.sessions.invariant.rest c.len.ensures c.saturating_sub-left-in-sessions.ensures;
}
