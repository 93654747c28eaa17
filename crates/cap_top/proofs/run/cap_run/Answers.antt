use Rattle.std.proofs.Common.{IfOk, Err, ap, subst}
use Rattle.cap_top.specs.Judged.{IsRunJudged}
use Rattle.cap_top.proofs.Runs.{told_run, unread_run}
use Rattle.cap_top.proofs.run.cap_run.Goals as goal

pub returns-in-Ok : goal.returns-in-Ok
returns-in-Ok g c =
    let judged = subst (λ bytes. IfOk c.judged.result (λ v. IsRunJudged c.args.log bytes v.said v.text.items v.report)) c.deref.ensures.value c.judged.ensures in
    told_run (IsRunJudged c.args.log) _ _ c.in-Ok.bytes.items c.judged.result _ _ judged c.in-Ok.ensures.bytes (c.in-Ok.ensures.stays (λ e. cc)) c.tell.ensures

pub returns-in-Err : goal.returns-in-Err
returns-in-Err g c =
    unread_run (IsRunJudged c.args.log) _ _ c.in-Err.end _ _ c.in-Err.ensures.bytes (λ other. c.in-Err.ensures.stays (λ e. other cc)) (λ e. c.in-Err.ensures.fault (ap Err e)) c.unread.ensures.told c.unread.ensures.silent
