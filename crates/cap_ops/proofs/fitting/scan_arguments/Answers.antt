use Rattle.std.proofs.Common.{◌∙◌, ◌+◌, drop, sym, arith}
use Rattle.cap_ops.specs.Ends.{profile_of}
use Rattle.cap_ops.specs.Mismatches.{all_places}
use Rattle.cap_ops.proofs.Scanned.{few-arguments, scan-more}
use Rattle.cap_ops.proofs.fitting.scan_arguments.Goals as goal

pub offset_bounds-wanted-i : goal.offset_bounds-wanted-i
offset_bounds-wanted-i g c = let few = (few-arguments c.args.op.0 c.args.args.now c.requires).0 in let t = c.loop-i-test.true in omega (arith, few, t)

pub bounds-wanted-i : goal.bounds-wanted-i
bounds-wanted-i g c = let few = (few-arguments c.args.op.0 c.args.args.now c.requires).0 in let t = c.loop-i-test.true in omega (arith, few, t)

pub meet_wanted-requires : goal.meet_wanted-requires
meet_wanted-requires g c = record { few = let few = (few-arguments c.args.op.0 c.args.args.now c.requires).0 in let t = c.loop-i-test.true in let k = c.loop-i.invariant.0 in omega (arith, few, t, k) }

pub returns-in-Err : goal.returns-in-Err
returns-in-Err g c =
    let few = few-arguments c.args.op.0 c.args.args.now c.requires in
    let t = c.loop-i-test.true in
    c.loop-i.invariant.1 ∙ scan-more (profile_of c.args.op.0).arguments c.args.args.now c.loop-i.i c.index-args-i.result c.operation_ends.result.args c.loop-i.seen.handles c.loop-i.seen.place c.operation_ends.ensures.args (sym c.index-args-i.is) (omega (arith, few.0, t)) (omega (arith, t)) few.1
    ∙ c.in-Err.ensures.scans (all_places (drop (c.loop-i.i + 1) (profile_of c.args.op.0).arguments) (drop (c.loop-i.i + 1) c.args.args.now))

pub loop-i-preserved : goal.loop-i-preserved
loop-i-preserved g c =
    let few = few-arguments c.args.op.0 c.args.args.now c.requires in
    let t = c.loop-i-test.true in
    let n = c.in-Ok.ensures.next in
    let k = c.loop-i.invariant.0 in (
      omega (arith, n, k),
      c.loop-i.invariant.1 ∙ scan-more (profile_of c.args.op.0).arguments c.args.args.now c.loop-i.i c.index-args-i.result c.operation_ends.result.args c.loop-i.seen.handles c.loop-i.seen.place c.operation_ends.ensures.args (sym c.index-args-i.is) (omega (arith, few.0, t)) (omega (arith, t)) few.1
          ∙ c.in-Ok.ensures.scans (all_places (drop (c.loop-i.i + 1) (profile_of c.args.op.0).arguments) (drop (c.loop-i.i + 1) c.args.args.now)),
    )
