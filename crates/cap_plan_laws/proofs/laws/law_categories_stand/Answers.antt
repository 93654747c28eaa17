use Rattle.cap_plan_laws.proofs.Stand.{categories_stand}
use Rattle.cap_plan_laws.proofs.laws.law_categories_stand.Goals as goal

pub returns : goal.returns
returns c = categories_stand
