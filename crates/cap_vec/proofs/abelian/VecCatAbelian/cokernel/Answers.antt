use Rattle.cap_vec.proofs.abelian.VecCatAbelian.cokernel.Goals as goal

pub returns : goal.returns
returns c = c.cokernel.ensures c.args.self.now.tabled
