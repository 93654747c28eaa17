-- What holds while a body's steps run.
use Rattle.std.proofs.Common.{◌≡◌, ℕ, List, ◌++◌, Option, drop}
use Rattle.cap_names.specs.declared.identifiers.Handle.{Handle}
use Rattle.cap_ops.specs.declared.plans.Plan.{Plan}
use Rattle.cap_ops.specs.Arrows.{Between, ValueOver, over}
use Rattle.cap_ops.specs.Told.{TellsAll, AreData, StaysTold}
use Rattle.cap_ops.specs.Primitives.{OfferData, prime_of}
use Rattle.cap_terms.specs.declared.body.Rule.{Rule}
use Rattle.cap_terms.specs.Run.{Outcome, StepsGive, ComesTo}
use Rattle.cap_terms.specs.Ends.{EndsGive}
use Rattle.cap_run.specs.Plans.{bound, StepsBelow}
use Rattle.cap_run.specs.Runs.{RunWithin}
use Rattle.cap_board.specs.Board.{Event, BoardState, Grows, Planned}
use Rattle.cap_board.specs.Trace.{StepEnd, TraceWithin, StepsTrace}

-- after i steps, with the values env: whatever the rest gives, the whole gives
pub record LoopSays {X O M : Type 0} (D : OfferData O M) (r : Rule) (args : List (ValueOver Handle M)) (s0 : BoardState X O M) (told0 : Handle → Option O) (i : ℕ) (env : List (ValueOver Handle M)) (s : BoardState X O M) (told : Handle → Option O) : Type 0 where
  pub grows : Grows s0 told0 s told
  pub p : Plan
  pub planned : Planned D s0.rules s0.plan p
  pub below : StepsBelow p (bound p r.cost.head.0) (drop i r.body.steps)
  pub added : List (Event O M)
  pub events : s.events ≡ s0.events ++ added
  pub trace : (told' : Handle → Option O) → StaysTold told told' → (more : List (Event O M)) (end : StepEnd M) → StepsTrace (prime_of D) (TraceWithin D s0.rules told' (bound p r.cost.head.0)) (drop i r.body.steps) env r.body.answer more end → StepsTrace (prime_of D) (TraceWithin D s0.rules told' (bound p r.cost.head.0)) r.body.steps args r.body.answer (added ++ more) end
  pub data_of : List (ValueOver O M)
  pub tells_args : TellsAll told args data_of
  pub values : List (ValueOver O M)
  pub tells : TellsAll told env values
  pub are : AreData D.category values
  pub runs : (out : Outcome O (Between O M)) → StepsGive (over (prime_of D)) (RunWithin D s0.rules p (bound p r.cost.head.0)) (drop i r.body.steps) values r.body.answer out → StepsGive (over (prime_of D)) (RunWithin D s0.rules p (bound p r.cost.head.0)) r.body.steps data_of r.body.answer out
  pub ends : (out : Outcome Handle (Between Handle M)) → StepsGive (over (prime_of D)) (EndsGive (over (prime_of D))) (drop i r.body.steps) env r.body.answer out → StepsGive (over (prime_of D)) (EndsGive (over (prime_of D))) r.body.steps args r.body.answer out
  pub comes : (op : ℕ) (called : List (ValueOver Handle M)) → ComesTo (over (prime_of D)) (EndsGive (over (prime_of D))) (drop i r.body.steps) env op called → ComesTo (over (prime_of D)) (EndsGive (over (prime_of D))) r.body.steps args op called
