use Rattle.std.proofs.Common.{◌≡◌, ◌+◌, ◌≤◌, ◌++◌, ◌∷◌, [], Vec, Global, length, rules, sym, ap, subst, arith}
use Rattle.cap_quiver_laws.specs.Paths.{Path, IsExtendedSoFar}
use Rattle.cap_quiver_laws.proofs.Levels.{extend-row, extend-end}
use Rattle.cap_quiver_paths.specs.Data.{quiver}
use Rattle.cap_quiver_paths.proofs.Extended.{read-walk, pushed, skipped, many-from}
use Rattle.cap_quiver_paths.proofs.walks.extended.Goals as goal
use Rattle.cap_quiver_paths.proofs.walks.extended.Goals.{then-arrows-x+in_ok-followed+in_ok-push+else-len-gt128, else-arrows-x}

pub end-requires : goal.end-requires
end-requires c = read-walk (quiver c.args.objects c.args.arrows.now 0) c.args.n c.args.level.now c.requires.some c.requires.level c.loop-a.a c.index-level-a.result c.loop-a-test.true c.index-level-a.is

pub returns-then-len-gt128 : goal.returns-then-len-gt128
returns-then-len-gt128 c =
    let q = quiver c.args.objects c.args.arrows.now 0 in
    let items : c.push.new.self.items ≡ c.loop-x.next.items ++ c.in_ok-followed.field-0 ∷ [] = search rules in
    let E = pushed q c.args.n c.args.level.now c.requires.some c.requires.level c.loop-x.next.items c.push.new.self.items c.loop-a.a c.loop-x.x c.end.result
    c.index-level-a.result c.index-level-a-then-arrows-x.result c.in_ok-followed.field-0 c.loop-a-test.true c.index-level-a.is c.index-level-a-then-arrows-x.is c.loop-x-test.true
    c.if-arrows-x.true c.end.ensures c.in_ok-followed.ensures items c.loop-x.invariant.so_far in
    many-from q c.args.n c.args.level.now c.requires.some c.requires.level c.push.new.self.items c.loop-a.a (c.loop-x.x + 1) (omega (arith, c.if-len-gt128.true, c.len.ensures)) E

pub loop-x-preserved : goal.loop-x-preserved
loop-x-preserved c =
    let q = quiver c.args.objects c.args.arrows.now 0 in
    elim c.if-arrows-x.branch [
      | then-arrows-x+in_ok-followed+in_ok-push+else-len-gt128 w ↦
          let items : c.if-arrows-x.next.items ≡ c.loop-x.next.items ++ w.in_ok-followed.field-0 ∷ [] = search rules in
          record {
            so_far = pushed q c.args.n c.args.level.now c.requires.some c.requires.level c.loop-x.next.items c.if-arrows-x.next.items c.loop-a.a c.loop-x.x c.end.result
                c.index-level-a.result w.index-level-a-then-arrows-x.result w.in_ok-followed.field-0 c.loop-a-test.true c.index-level-a.is w.index-level-a-then-arrows-x.is c.loop-x-test.true
                w.if-arrows-x.true c.end.ensures w.in_ok-followed.ensures items c.loop-x.invariant.so_far;
            few = let same : c.if-arrows-x.next.items ≡ w.push.new.self.items = search rules in omega (arith, w.if-len-gt128.false, w.len.ensures, ap length same);
          }
      | else-arrows-x w ↦ record {
        so_far = subst (λ (v : Vec Path Global). IsExtendedSoFar q c.args.level.now v.items c.loop-a.a (c.loop-x.x + 1)) (sym w.next-is)
            (skipped q c.args.n c.args.level.now c.requires.some c.requires.level c.loop-x.next.items c.loop-a.a c.loop-x.x c.end.result c.index-level-a.result c.loop-a-test.true c.index-level-a.is
            w.if-arrows-x.false c.end.ensures c.loop-x.invariant.so_far);
        few = subst (λ (v : Vec Path Global). length v.items ≤ 128) (sym w.next-is) c.loop-x.invariant.few;
      }
    ]

pub loop-a-preserved : goal.loop-a-preserved
loop-a-preserved c =
    let q = quiver c.args.objects c.args.arrows.now 0 in
    record {
      so_far = extend-row q c.args.n c.args.level.now c.requires.some c.requires.level c.loop-x.next.items c.loop-a.a
          (subst (λ x. IsExtendedSoFar q c.args.level.now c.loop-x.next.items c.loop-a.a x) (let e : c.loop-x.x ≡ length c.args.arrows.now = omega (arith, c.loop-x-test.false, c.loop-x.auto.x-end) in e) c.loop-x.invariant.so_far);
      few = c.loop-x.invariant.few;
    }

pub returns : goal.returns
returns c =
    let q = quiver c.args.objects c.args.arrows.now 0 in (
      extend-end q c.args.n c.args.level.now c.requires.some c.requires.level c.loop-a.next.items
          (subst (λ a. IsExtendedSoFar q c.args.level.now c.loop-a.next.items a 0) (let e : c.loop-a.a ≡ length c.args.level.now = omega (arith, c.loop-a-test.false, c.loop-a.auto.a-end) in e) c.loop-a.invariant.so_far),
      c.loop-a.invariant.few,
    )
