use Rattle.cap_plan_laws.proofs.Stand.{categories_few}
use Rattle.cap_plan_laws.proofs.laws.law_categories_are_few.Goals as goal

pub returns : goal.returns
returns c = categories_few
