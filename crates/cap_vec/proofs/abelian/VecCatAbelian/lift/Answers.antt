use Rattle.cap_vec.proofs.abelian.VecCatAbelian.lift.Goals as goal

pub returns : goal.returns
returns c = c.lift.ensures c.args.self.now.tabled
