-- What it is for a rule to be sound: where each call's answer has its meaning, so has the body's.
use Rattle.std.specs.Prelude.{◌≡◌, ℕ, List, false}
use Rattle.std.specs.List.{All}
use Rattle.cap_laws.specs.Linear.{CategoryData}
use Rattle.cap_ops.specs.Values.{Value}
use Rattle.cap_ops.specs.Meaning.{Meaning, setting_of}
use Rattle.cap_terms.specs.Run.{done, large, Calls, BodyGives}
use Rattle.cap_terms.specs.declared.body.Body.{Body}
use Rattle.cap_terms.specs.declared.body.Rule.{Rule}

-- an outcome with the operation's meaning
abbrev pub Means : {Obj Mor : Type 0} → CategoryData Obj Mor → Calls Obj Mor
Means C op args (done v) = Meaning C op args v
Means C op args (large rows columns) = ⊥

-- the body computes the operation: where each call's answer has its meaning, the body's answer has the operation's
pub record Computes {Obj Mor : Type 0} (C : CategoryData Obj Mor) (op : ℕ) (body : Body) : Type 0 where
  pub sound : (args : List (Value Obj Mor)) (v : Value Obj Mor) → BodyGives (setting_of C) (Means C) body args (done v) → Meaning C op args v

-- the rule is sound: its body computes its head
abbrev pub Sound : {Obj Mor : Type 0} → CategoryData Obj Mor → Rule → Type 0
Sound C rule = Computes C rule.cost.head.0 rule.body

-- each of the rules is sound
abbrev pub AllSound : {Obj Mor : Type 0} → CategoryData Obj Mor → List Rule → Type 0
AllSound C rules = All (Sound C) rules

-- each of the rules is sound that is not marked as one of abelian categories alone
abbrev pub AllUnmarkedSound : {Obj Mor : Type 0} → CategoryData Obj Mor → List Rule → Type 0
AllUnmarkedSound C rules = All (λ rule. rule.cost.abelian ≡ false → Sound C rule) rules
