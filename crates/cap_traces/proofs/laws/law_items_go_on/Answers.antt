use Rattle.cap_traces.proofs.Items.{items-more}
use Rattle.cap_traces.proofs.laws.law_items_go_on.Goals as goal

pub returns : goal.returns
returns c = λ S between S' seats middle seats' items i events own answers a C runs are. items-more S between S' seats middle seats' items i events own answers a C runs are
