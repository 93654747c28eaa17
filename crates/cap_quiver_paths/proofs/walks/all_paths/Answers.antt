use Rattle.std.proofs.Common.{◌≡◌, ◌+◌, ◌++◌, length, rules, sym, ap, subst, arith}
use Rattle.std.proofs.lemmas.List.{length-append}
use Rattle.cap_quiver_laws.specs.Paths.{IsPathList}
use Rattle.cap_quiver_paths.specs.Data.{quiver}
use Rattle.cap_quiver_paths.proofs.AllPaths.{more-paths, too-many}
use Rattle.cap_quiver_paths.proofs.walks.all_paths.Goals as goal

pub returns-then-len-gt128 : goal.returns-then-len-gt128
returns-then-len-gt128 c =
    too-many c.args.objects c.args.arrows.now c.loop-n.n c.args.bound c.loop-n.all.items c.loop-n.level.items c.loop-n-test.true
    (omega (arith, c.if-len-gt128.true, c.len.ensures, c.len-in-loop-n.ensures)) c.loop-n.invariant.paths (c.loop-n.invariant.level c.loop-n-test.true)

pub loop-n-preserved : goal.loop-n-preserved
loop-n-preserved c =
    let items : c.append.new.self.items ≡ c.loop-n.all.items ++ c.loop-n.level.items = search rules in
    let E = rw c.in-Some.is at c.in_ok-next.ensures in
    record {
      paths = subst (λ ps. IsPathList (quiver c.args.objects c.args.arrows.now (c.loop-n.n + 1)) ps) (sym items)
          (more-paths c.args.objects c.args.arrows.now c.loop-n.n c.loop-n.all.items c.loop-n.level.items c.loop-n.invariant.paths (c.loop-n.invariant.level c.loop-n-test.true));
      few = omega (arith, c.if-len-gt128.false, c.len.ensures, c.len-in-loop-n.ensures, ap length items, length-append c.loop-n.all.items c.loop-n.level.items);
      level = E.0;
      short = E.1;
    }
