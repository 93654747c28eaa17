use Rattle.cap_traces.proofs.Sessions.{sessions-more}
use Rattle.cap_traces.proofs.laws.law_sessions_go_on.Goals as goal

pub returns : goal.returns
returns c = λ n S seats middle seats' parts p traces t C run. sessions-more n S seats middle seats' parts p traces t C run
