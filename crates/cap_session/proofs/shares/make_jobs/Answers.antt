use Rattle.std.proofs.Common.{◌≡◌, ◌+◌, ◌≤◌, length, sym, subst, arith}
use Rattle.std.specs.List.{All}
use Rattle.cap_shares.specs.Shares.{Shared}
use Rattle.cap_session.specs.declared.jobs.Job.{Job}
use Rattle.cap_session.proofs.SharedOut.{Made, made-first, made-more, made-jobs, enough}
use Rattle.cap_session.proofs.shares.make_jobs.Goals as goal

pub sessions-init : goal.sessions-init
sessions-init c = subst (Made c.args.categories.now c.args.sessions.now 0 c.args.categories.now) (sym c.new-jobs.ensures.items) (made-first c.args.categories.now c.args.sessions.now)

pub next_session-session-requires : goal.next_session-session-requires
next_session-session-requires c = omega (arith, c.len.ensures, c.sessions.jobs.ok.0, c.sessions.invariant.long, c.sessions-test.true, c.requires.few)

pub split_row-requires : goal.split_row-requires
split_row-requires c =
    subst (All (λ (k : Shared). 2 ≤ k.shares)) (sym c.sessions.invariant.rest)
    (enough (length c.args.sessions.now) c.sessions.part-index c.args.categories.now c.sessions-test.true c.requires.shares)

pub sessions-preserved : goal.sessions-preserved
sessions-preserved c =
    let job : Job = record { session = c.next_session-session.result; commands = c.as_slice-commands.result; row = c.in_ok-row.row } in
    let number : job.session.0 ≡ length c.sessions.jobs.items + 1 = omega (arith, c.next_session-session.ensures, c.len.ensures, c.sessions.jobs.ok.0) in
    subst (Made c.args.categories.now c.args.sessions.now (c.sessions.part-index + 1) c.split_row.new.categories) (sym c.in_ok-push.ensures.items)
    (made-more c.args.categories.now c.args.sessions.now c.sessions.part-index c.sessions.categories c.sessions.jobs.items c.part-item.result c.sessions-test.true c.part-item.is c.sessions.invariant
    c.split_row.new.categories job c.in_ok-row.ensures.rest c.in_ok-row.ensures.row c.as_slice-commands.ensures number)

pub returns-clause-jobs : goal.returns-clause-jobs
returns-clause-jobs c = made-jobs c.args.categories.now c.args.sessions.now c.sessions.part-index c.sessions.categories c.sessions.jobs.items c.sessions-test.false c.sessions.invariant
