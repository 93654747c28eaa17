use Rattle.std.proofs.Common.{◌≡◌, ◌-◌, ◌≤◌, min, length, arith}
use Rattle.cap_io.specs.Sure.{sure_space}
use Rattle.cap_io.proofs.Spooling.{spooled-part, spooled-whole}
use Rattle.cap_io.proofs.sure.SureSinkSink.give.Goals as goal
use Rattle.cap_io.proofs.sure.SureSinkSink.give.Goals.{then-count-bytes, else-count-bytes}

pub returns-clause-spooled : goal.returns-clause-spooled
returns-clause-spooled c =
    let items-is = rw c.unwrap.ensures at c.extend_from_slice.ensures.items in
    let within : length c.self.inside.bytes.items ≤ sure_space = omega (arith, c.self.inside.bytes.ok.0, c.self.invariant.0) in
    let count : c.min-count.result ≡ min (length c.args.bytes.now) (sure_space - length c.self.inside.bytes.items) = omega (arith, c.self.inside.bytes.ok.0) in
    elim c.if-count-bytes.branch [
      | then-count-bytes w ↦
          rw (← c.self.view_is, items-is, w.self-inside-is)
          (spooled-part (record { kept = c.self.inside.bytes.items; lost = c.self.inside.has_dropped }) c.args.bytes.now c.min-count.result within count (omega arith))
      | else-count-bytes w ↦
          rw (← c.self.view_is, items-is, w.self-inside-is)
          (spooled-whole (record { kept = c.self.inside.bytes.items; lost = c.self.inside.has_dropped }) c.args.bytes.now c.min-count.result within count (omega arith))
    ]
