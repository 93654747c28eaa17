-- Worked examples: a call that stands twice in a body weighs twice, and a tie goes to the earlier rule.
use Rattle.std.proofs.Common.{◌≡◌, lit<, [], ◌∷◌, Some, None, refl, true, false}
use Rattle.cap_ops.specs.Derivations.{Means, Derivation, One, primitive, by_rule, none, with, weight, called, ways, lightest, choice_for}
use Rattle.cap_ops.specs.declared.plans.RuleCost.{RuleCost}
use Rattle.cap_ops.specs.declared.plans.Kind.TheVariants.{Mat, Add}
use Rattle.cap_ops.specs.declared.plans.Choice.TheVariants.{Rule}
use Rattle.cap_ops.specs.declared.plans.TheConstants.{NO_PLAN}

-- operation 2 by two calls of operation 1
abbrev twice : RuleCost
twice = record { no = record { 0 = 1 }; head = record { 0 = 2 }; own = 1; abelian = false; calls = 2 ∷ 0 ∷ [] }

-- operation 2 by one call of operation 1, at a greater own weight
abbrev once : RuleCost
once = record { no = record { 0 = 2 }; head = record { 0 = 2 }; own = 4; abelian = false; calls = 1 ∷ 0 ∷ [] }

-- the same for abelian categories alone
abbrev abelian_once : RuleCost
abelian_once = record { no = record { 0 = 3 }; head = record { 0 = 2 }; own = 1; abelian = true; calls = 1 ∷ 0 ∷ [] }

-- operation 1 is registered with the weight 3
abbrev some_means : Means
some_means = record { weights = Some 3 ∷ None ∷ []; rules = twice ∷ once ∷ []; kind = Add }

abbrev first : Derivation some_means (One 0)
first = primitive 0 3 (record { is = refl })

called-twice : called twice ≡ 0 ∷ 0 ∷ []
called-twice = refl

weight-twice : weight (by_rule twice (record { listed = (0, lit< tt, refl); allowed = refl }) (with first (with first none))) ≡ 7
weight-twice = refl

ways-two : ways some_means (3 ∷ 7 ∷ []) 1 ≡ (7, Rule (record { 0 = 1 })) ∷ (7, Rule (record { 0 = 2 })) ∷ []
ways-two = refl

choice-tie : choice_for some_means (3 ∷ 7 ∷ []) 1 ≡ Rule (record { 0 = 1 })
choice-tie = refl

-- the rule for abelian categories is no way in an additive closure
ways-additive : ways (record some_means { rules = abelian_once ∷ [] }) (3 ∷ 4 ∷ []) 1 ≡ []
ways-additive = refl

ways-matrices : ways (record some_means { rules = abelian_once ∷ []; kind = Mat }) (3 ∷ 4 ∷ []) 1 ≡ (4, Rule (record { 0 = 3 })) ∷ []
ways-matrices = refl

lightest-none : lightest (ways (record some_means { rules = [] }) (3 ∷ 4 ∷ []) 1) ≡ NO_PLAN
lightest-none = refl
