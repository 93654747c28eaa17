use Rattle.std.proofs.Common.{◌<◌, arith}
use Rattle.cap_reduce.specs.Flat.{cell}
use Rattle.cap_reduce.proofs.Leads.{at, scanned_lead, scanned_free, scanned_end, lead_found, no_lead}
use Rattle.cap_reduce.proofs.scan.scan_leads.Goals as goal
use Rattle.cap_reduce.proofs.scan.scan_leads.Goals.{then-met-rank+then-cells-met-ne0, else-met-rank, else-met-rank-via-then-met-rank+else-cells-met-ne0, else-met-rank-via-else-met-rank}

pub loop-c-preserved : goal.loop-c-preserved
loop-c-preserved c =
    let a = c.loop-c.met in
    let here = c.loop-c.c in
    let u = cell c.args.cells.now c.args.width in
    elim c.if-met-rank.branch [
      | then-met-rank+then-cells-met-ne0 w ↦ rw (w.place-is, w.free-is, w.met-is) (record {
        met = omega arith;
        scanned = λ p lead R.
            let h = c.loop-c.invariant.scanned p lead R in
            let lt : a < c.args.rank = omega arith in
            scanned_lead p c.args.rank c.args.cols u lead c.loop-c.place c.loop-c.free a here R h lt (omega arith)
            (lead_found p c.args.rank c.args.cols u lead a here R lt (h.ahead a (omega arith) lt) (λ z. absurd (omega arith)));
      })
      | else-met-rank w ↦ rw (w.place-is, w.free-is, w.met-is) (record {
        met = omega arith;
        scanned = λ p lead R.
            let h = c.loop-c.invariant.scanned p lead R in
            scanned_free c.args.rank lead c.loop-c.place c.loop-c.free a here h (omega arith) (omega arith)
            (no_lead p c.args.rank c.args.cols u lead a here R h.ahead
            (λ lt. elim w.else-met-rank.branch [ else-met-rank-via-then-met-rank+else-cells-met-ne0 v ↦ omega arith | else-met-rank-via-else-met-rank v ↦ absurd (omega arith) ]));
      })
    ]

pub returns : goal.returns
returns c = λ p lead R.
    scanned_end p c.args.rank c.args.cols (cell c.args.cells.now c.args.width) lead (at c.loop-c.place) (at c.loop-c.free) c.loop-c.met c.loop-c.c R (omega arith)
    (c.loop-c.invariant.scanned p lead R)
