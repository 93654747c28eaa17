use Rattle.cap_vec.proofs.abelian.VecCatAbelian.kernel.Goals as goal

pub returns : goal.returns
returns c = c.kernel.ensures c.args.self.now.tabled
