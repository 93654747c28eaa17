use Rattle.std.proofs.Common.{◌≡◌, sym}
use Rattle.cap_store.proofs.Finding.{no-more, no-value, not-by}
use Rattle.cap_store.proofs.lookups.kept_in.Goals as goal

pub loop-i-preserved : goal.loop-i-preserved
loop-i-preserved g c = no-more c.args.key.now c.args.cache.now c.loop-i.i c.index-cache-i.result c.loop-i-test.true (sym c.index-cache-i.is) c.loop-i.invariant (not-by c.is_of.result (c.index-cache-i.result.key ≡ c.args.key.now) c.is_of.ensures.1 c.if-is_of.false)

pub returns : goal.returns
returns g c = no-value c.args.key.now c.args.cache.now c.loop-i.i c.loop-i-test.false c.loop-i.invariant
