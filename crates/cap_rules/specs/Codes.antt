-- The body that a constant stands for.
use Rattle.std.specs.Prelude.{ℕ, List, [], ◌∷◌, map}
use Rattle.cap_terms.specs.declared.body.Var.{Var}
use Rattle.cap_terms.specs.declared.body.Step.{Step}
use Rattle.cap_terms.specs.declared.body.Step.TheVariants.{Call, Src, Tgt, Part, MinusOne, Exists, Both, When, Tuple}
use Rattle.cap_ops.specs.declared.plans.RuleCost.{RuleCost}
use Rattle.cap_terms.specs.declared.body.Body.{Body}
use Rattle.cap_terms.specs.declared.body.Rule.{Rule}
use Rattle.cap_rules.specs.declared.codes.Code.{Code}
use Rattle.cap_rules.specs.declared.codes.Code.TheVariants.{Call0, Call1, Call2, Call4, Src as SrcCode, Tgt as TgtCode, Part as PartCode, MinusOne as MinusOneCode, Exists as ExistsCode, Both as BothCode, When as WhenCode, Tuple2, Tuple4}
use Rattle.cap_rules.specs.declared.codes.BodyCode.{BodyCode}
use Rattle.cap_rules.specs.Lines.{variable}

abbrev pub variables : List ℕ → List Var
variables xs = map variable xs

abbrev pub step_of : Code → Step
step_of (Call0 op) = Call op []
step_of (Call1 op x) = Call op (variables (x ∷ []))
step_of (Call2 op x y) = Call op (variables (x ∷ y ∷ []))
step_of (Call4 op x y z w) = Call op (variables (x ∷ y ∷ z ∷ w ∷ []))
step_of (SrcCode x) = Src (variable x)
step_of (TgtCode x) = Tgt (variable x)
step_of (PartCode x n) = Part (variable x) n
step_of MinusOneCode = MinusOne
step_of (ExistsCode x) = Exists (variable x)
step_of (BothCode x y) = Both (variable x) (variable y)
step_of (WhenCode x y) = When (variable x) (variable y)
step_of (Tuple2 x y) = Tuple (variables (x ∷ y ∷ []))
step_of (Tuple4 x y z w) = Tuple (variables (x ∷ y ∷ z ∷ w ∷ []))

abbrev pub body_of : BodyCode → Body
body_of b = record { params = b.params; steps = map step_of b.steps.now; answer = variable b.answer }

-- rules from their costs and the constants of their bodies
abbrev pub joined : List RuleCost → List BodyCode → List Rule
joined (c ∷ cs) (b ∷ bs) = record { cost = c; body = body_of b } ∷ joined cs bs
joined _ _ = []
