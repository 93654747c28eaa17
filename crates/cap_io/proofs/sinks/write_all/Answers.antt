use Rattle.std.proofs.Common.{◌∙◌}
use Rattle.std.proofs.lemmas.Result.{err_from_is_err_and}
use Rattle.cap_io.proofs.Adding.{Adds-take_more, AddsFront-take, within_more}
use Rattle.cap_io.proofs.sinks.write_all.Goals as goal

pub returns-in_err-at-clause-added : goal.returns-in_err-at-clause-added
returns-in_err-at-clause-added g c =
    let p = err_from_is_err_and c.from_residual.result c.from_residual.ensures.1 in
    rw p.1 (AddsFront-take _ _ _ c.args.bytes.now c.loop-at.at c.loop-at.invariant.added c.in_err-at.ensures.added)

pub loop-at-preserved : goal.loop-at-preserved
loop-at-preserved g c = record {
  within = within_more c.loop-at.at c.in_ok-at.field-0 c.args.bytes.now c.loop-at.invariant.within c.in_ok-at.ensures.within;
  added = Adds-take_more _ _ _ c.args.bytes.now c.loop-at.at c.in_ok-at.field-0 c.loop-at.invariant.added c.in_ok-at.ensures.added;
  stays = c.in_ok-at.ensures.stays ∙ c.loop-at.invariant.stays;
}
