use Rattle.std.proofs.Common.{rules, ◌∷◌, [], length, subst, ap, ◌∙◌, length-append}
use Rattle.std.specs.List.{All}
use Rattle.cap_session.specs.Jobs.{MayRun, HasRunAs}
use Rattle.cap_session.proofs.Ends.{all-front, all-last}
use Rattle.cap_session.proofs.Jobbing.{all-ran-both}
use Rattle.cap_session.proofs.jobs.+fn-run_jobs-join+arg3+run_jobs.Goals as goal

pub join-ended-requires-after_bounds : goal.join-ended-requires-after_bounds
join-ended-requires-after_bounds g t c κs within =
    let R = MayRun c.args.common.sessions.now c.args.common.standing.now in
    let whole = subst (All R) c.in-Some.ensures.items c.requires.ready in
    let one : R c.in-Some.last = all-last R c.pop.new.self.items c.in-Some.last whole in
    let others : All R c.pop.new.self.items = all-front R c.pop.new.self.items c.in-Some.last whole in
    let many = ap length c.in-Some.ensures.items ∙ length-append c.pop.new.self.items (c.in-Some.last ∷ []) in
    let table = c.requires.rules in
    search rules

pub returns : goal.returns
returns g t c =
    let R = HasRunAs c.args.common.sessions.now c.args.common.standing.now in
    all-ran-both R c.args.jobs.items c.pop.new.self.items c.in-Some.last c.in-Some.ensures.items c.join-ended.result.1 c.join-ended.result.0 c.with_last.result c.join-ended.ensures.second c.join-ended.ensures.first c.with_last.ensures
