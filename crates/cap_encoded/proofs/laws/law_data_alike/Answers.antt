use Rattle.cap_alike.proofs.Along.{along_alike, along_one}
use Rattle.cap_encoded.proofs.laws.law_data_alike.Goals as goal

pub returns : goal.returns
returns g c = record {
  alike = λ k. along_alike (g.C.Cat.category k) (g.C.Encoding.reading k) (g.met.C.Cat.linear k) (g.met.C.Encoding.reads k);
  one_to_one = λ k. along_one (g.C.Cat.category k) (g.C.Encoding.reading k);
}
