use Rattle.cap_traces.proofs.Doing.{chain-more}
use Rattle.cap_traces.proofs.laws.law_chains_go_on.Goals as goal

pub returns : goal.returns
returns c = λ session S between seats middle seats' cs k events own answers a C runs are. chain-more session S between seats middle seats' cs k events own answers a C runs are
