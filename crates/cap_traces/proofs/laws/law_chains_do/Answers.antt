use Rattle.cap_data.specs.declared.data.ObjData.{ObjData}
use Rattle.cap_data.specs.declared.data.MorData.{MorData}
use Rattle.cap_desk.specs.Woven.{IsNothing}
use Rattle.cap_desk.proofs.Weaving.{nothing-others}
use Rattle.cap_traces.proofs.Doing.{chain-does}
use Rattle.cap_traces.proofs.laws.law_chains_do.Goals as goal

pub returns : goal.returns
returns c = λ session S S' seats seats' cs events answers C histories W. chain-does IsNothing (nothing-others ObjData MorData) session S S' seats seats' cs events answers C histories W
