use Rattle.std.proofs.Common.{◌≡◌, ◌+◌, ◌≤◌, length}
use Rattle.std.specs.List.{filter_map}
use Rattle.cap_traces.specs.Runs.{histories_from}
use Rattle.cap_session.proofs.Reporting.{with_histories, with_plans, plan_of}
use Rattle.cap_session.proofs.reports.report.Given as goal

-- with those that are left, the histories and the plans are all
abbrev pub invariant-seats : goal.invariant-seats
invariant-seats g l =
    (with_histories l.histories.items l.seats.items ≡ histories_from 0 l.fn.seats.items)
    × (with_plans l.plans.items l.seats.items ≡ filter_map plan_of l.fn.seats.items)
    × (length l.histories.items + length l.seats.items ≤ 256)

abbrev pub decreases-seats : goal.decreases-seats
decreases-seats g l = length l.seats.items
