use Rattle.std.proofs.Common.{sym}
use Rattle.std.specs.List.{slice_index_or}
use Rattle.cap_store.proofs.Finding.{no-more-names, no-name, differs-by}
use Rattle.cap_store.proofs.lookups.named_in.Goals as goal

pub loop-i-preserved : goal.loop-i-preserved
loop-i-preserved c = no-more-names c.args.name.now c.args.names.now c.loop-i.i c.index-names-i.result c.loop-i-test.true (sym c.index-names-i.is) c.loop-i.invariant (differs-by c.eq.result (slice_index_or c.args.names.now c.loop-i.i c.index-names-i.result) c.index-names-i.result c.args.name.now c.index-names-i.is c.eq.ensures c.if-eq.false)

pub returns : goal.returns
returns c = no-name c.args.name.now c.args.names.now c.loop-i.i c.loop-i-test.false c.loop-i.invariant
