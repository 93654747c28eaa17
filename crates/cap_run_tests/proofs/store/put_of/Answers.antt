use Rattle.std.proofs.Common.{[], refl}
use Rattle.cap_ops.specs.declared.arrows.End.TheVariants.{New}
use Rattle.cap_store.proofs.Asked.{put-may, one-of}
use Rattle.cap_run_tests.proofs.store.put_of.Goals as goal

pub returns : goal.returns
returns c = put-may c.in_ok-key.key c.new.result (record { src = New 0; tgt = New 0; value = record { 0 = c.args.mark } }) (c.in_ok-key.ensures []) (one-of c.new.result c.push.new.self.items c.new-fresh.result.items (record { 0 = 1 }) c.new.ensures c.in_ok-push.ensures.items c.new-fresh.ensures.items) refl refl
