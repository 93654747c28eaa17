use Rattle.cap_alike.proofs.Alike.{flip}
use Rattle.cap_alike.proofs.Along.{along_alike, along_plain}
use Rattle.cap_alike.proofs.Linear.{alike_linear}
use Rattle.cap_alike.proofs.Notions.{alike_additive, alike_abelian}
use Rattle.cap_encoded.proofs.laws.law_data_structure.Goals as goal

pub returns : goal.returns
returns g c = record {
  linear = λ k. alike_linear (along_alike (g.C.Cat.category k) (g.C.Encoding.reading k) (g.met.C.Cat.linear k) (g.met.C.Encoding.reads k)) (g.met.C.Cat.linear k);
  plain_ends = λ k. along_plain (g.C.Cat.category k) (g.C.Encoding.reading k);
  additive = λ k h. alike_additive (flip (along_alike (g.C.Cat.category k) (g.C.Encoding.reading k) (g.met.C.Cat.linear k) (g.met.C.Encoding.reads k))) h;
  abelian = λ k h. alike_abelian (flip (along_alike (g.C.Cat.category k) (g.C.Encoding.reading k) (g.met.C.Cat.linear k) (g.met.C.Encoding.reads k))) h;
}
