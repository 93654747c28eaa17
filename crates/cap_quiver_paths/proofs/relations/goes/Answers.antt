use Rattle.std.proofs.Common.{◌≡◌, ℕ, List, [], drop, sym, subst, arith}
use Rattle.std.proofs.lemmas.List.{drop_all}
use Rattle.std.proofs.lemmas.Bool.{eqb-true, eq-eqb, false≢true}
use Rattle.cap_quiver_paths.specs.Data.{quiver}
use Rattle.cap_quiver_paths.proofs.Goes.{Goes, goes-on, goes-from}
use Rattle.cap_quiver_paths.proofs.relations.goes.Goals as goal
use Rattle.cap_quiver_paths.proofs.relations.goes.Goals.{then-a-arrows-via-then-a-arrows, then-a-arrows-via-else-a-arrows+then-arrows-a}

pub returns-then-a-arrows : goal.returns-then-a-arrows
returns-then-a-arrows c = (
  λ t. absurd (false≢true t),
  λ g.
      let h = goes-on (quiver 0 c.args.arrows.now 0) c.loop-a.at c.args.y c.args.list.now c.loop-a.a-index c.loop-a-test.true (c.loop-a.invariant.there g) in
      absurd (elim c.then-a-arrows.branch [
        | then-a-arrows-via-then-a-arrows w ↦ omega (arith, w.if-a-arrows.true, h.0)
        | then-a-arrows-via-else-a-arrows+then-arrows-a w ↦ w.if-arrows-a.true h.1
      ]),
)

pub loop-a-preserved : goal.loop-a-preserved
loop-a-preserved c =
    let q = quiver 0 c.args.arrows.now 0 in
    record {
      there = λ g. (goes-on q c.loop-a.at c.args.y c.args.list.now c.loop-a.a-index c.loop-a-test.true (c.loop-a.invariant.there g)).2;
      back = λ g. c.loop-a.invariant.back (goes-from q c.loop-a.at c.args.y c.args.list.now c.loop-a.a-index c.loop-a-test.true c.if-a-arrows.false c.if-arrows-a.false g);
    }

pub returns : goal.returns
returns c =
    let q = quiver 0 c.args.arrows.now 0 in
    let none : drop c.loop-a.a-index c.args.list.now ≡ [] = drop_all c.loop-a.a-index c.args.list.now c.loop-a-test.false in (
      λ t. c.loop-a.invariant.back (subst (λ (l : List ℕ). Goes q c.loop-a.at c.args.y l) (sym none) (tt, eqb-true c.loop-a.at c.args.y t)),
      λ g. eq-eqb c.loop-a.at c.args.y (subst (λ (l : List ℕ). Goes q c.loop-a.at c.args.y l) none (c.loop-a.invariant.there g)).1,
    )
