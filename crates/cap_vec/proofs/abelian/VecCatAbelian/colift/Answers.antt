use Rattle.cap_vec.proofs.abelian.VecCatAbelian.colift.Goals as goal

pub returns : goal.returns
returns c = c.colift.ensures c.args.self.now.tabled
