use Rattle.cap_freyd.proofs.Fit.{block-fits, block-is}
use Rattle.cap_freyd.proofs.additive.FreydAdditive.direct_sum.Goals as goal

pub rows_of-requires : goal.rows_of-requires
rows_of-requires g c = record {
  fit = rw c.in_ok-top.ensures.0 (rw c.in_ok-bottom.ensures.0 (rw c.in_ok-r.ensures.0 (rw c.in_ok-d.ensures.0 (rw c.source.ensures (rw c.source-2.ensures (rw c.target.ensures (rw c.target-2.ensures (rw c.below-below.ensures
      (block-fits (g.met.P.Cat.linear c.args.self.now.below) (record { is = g.met.P.Additive.sum_is c.args.self.now.below }) c.requires.left c.requires.right)))))))));
}

pub between-requires-clause-right : goal.between-requires-clause-right
between-requires-clause-right g c = rw c.in_ok-relation.ensures.0 (rw c.in_ok-top.ensures.0 (rw c.in_ok-bottom.ensures.0 (rw c.in_ok-r.ensures.0 (rw c.in_ok-d.ensures.0 (rw c.source.ensures (rw c.source-2.ensures (rw c.target.ensures (rw c.target-2.ensures (rw c.below-below.ensures
    (block-is (g.met.P.Cat.linear c.args.self.now.below) (record { is = g.met.P.Additive.sum_is c.args.self.now.below }) c.requires.left c.requires.right))))))))))

pub between-requires-2-clause-right : goal.between-requires-2-clause-right
between-requires-2-clause-right g c = rw c.in_ok-relation.ensures.0 (rw c.in_ok-top.ensures.0 (rw c.in_ok-bottom.ensures.0 (rw c.in_ok-r.ensures.0 (rw c.in_ok-d.ensures.0 (rw c.source.ensures (rw c.source-2.ensures (rw c.target.ensures (rw c.target-2.ensures (rw c.below-below.ensures
    (block-is (g.met.P.Cat.linear c.args.self.now.below) (record { is = g.met.P.Additive.sum_is c.args.self.now.below }) c.requires.left c.requires.right))))))))))

pub between-requires-3-clause-left : goal.between-requires-3-clause-left
between-requires-3-clause-left g c = rw c.in_ok-relation.ensures.0 (rw c.in_ok-top.ensures.0 (rw c.in_ok-bottom.ensures.0 (rw c.in_ok-r.ensures.0 (rw c.in_ok-d.ensures.0 (rw c.source.ensures (rw c.source-2.ensures (rw c.target.ensures (rw c.target-2.ensures (rw c.below-below.ensures
    (block-is (g.met.P.Cat.linear c.args.self.now.below) (record { is = g.met.P.Additive.sum_is c.args.self.now.below }) c.requires.left c.requires.right))))))))))

pub between-requires-4-clause-left : goal.between-requires-4-clause-left
between-requires-4-clause-left g c = rw c.in_ok-relation.ensures.0 (rw c.in_ok-top.ensures.0 (rw c.in_ok-bottom.ensures.0 (rw c.in_ok-r.ensures.0 (rw c.in_ok-d.ensures.0 (rw c.source.ensures (rw c.source-2.ensures (rw c.target.ensures (rw c.target-2.ensures (rw c.below-below.ensures
    (block-is (g.met.P.Cat.linear c.args.self.now.below) (record { is = g.met.P.Additive.sum_is c.args.self.now.below }) c.requires.left c.requires.right))))))))))
