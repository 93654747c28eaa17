use Rattle.std.proofs.Common.{◌≡◌, ◌*◌, ◌≤◌, drop}
use Rattle.cap_ops.specs.Ends.{profile_of}
use Rattle.cap_ops.specs.Mismatches.{all_places, places_of}
use Rattle.cap_ops.specs.Scan.{scan, no_handles}
use Rattle.cap_ops.proofs.fitting.scan_arguments.Given as goal

-- what the rest of the arguments gives, the whole gives
abbrev pub invariant-loop-i : goal.invariant-loop-i
invariant-loop-i g l = (l.seen.place ≤ 2 * l.i) × (scan (places_of l.fn.op.0 l.args) no_handles 0 ≡ scan (all_places (drop l.i (profile_of l.fn.op.0).arguments) (drop l.i l.args)) l.seen.handles l.seen.place)
