-- What the values of calls are, over any board that answers by the 59 rules.
use Rattle.std.specs.Prelude.{◌≡◌, ◌⊎◌, ℕ, List, Option}
use Rattle.cap_names.specs.declared.identifiers.Handle.{Handle}
use Rattle.cap_laws.specs.Universal.{IsAbelian}
use Rattle.cap_ops.specs.declared.keys.Arg.{Arg}
use Rattle.cap_ops.specs.declared.keys.Value.{Value as Answer}
use Rattle.cap_ops.specs.declared.plans.Kind.TheVariants.{Add}
use Rattle.cap_ops.specs.declared.plans.Plan.{Plan}
use Rattle.cap_ops.specs.Ends.{IsOperation}
use Rattle.cap_ops.specs.Primitives.{OfferData}
use Rattle.cap_ops.specs.Meaning.{Meaning}
use Rattle.cap_rules.specs.Table.{rule_table}
use Rattle.cap_run.specs.Plans.{AreRules, IsPlanOf}
use Rattle.cap_run.specs.Puts.{Good}

-- the 59 rules are numbered and typed, and cost each operation as often as their bodies call it
abbrev pub RulesCanRun : Type 0
RulesCanRun = AreRules rule_table

-- each rule that is allowed for the kind holds in the category: its kind is that of additive closures, or it is abelian
abbrev pub AllowsItsRules : {O M : Type 0} → OfferData O M → Type 0
AllowsItsRules D = (D.kind ≡ Add) ⊎ IsAbelian D.category

-- By a plan of offered primitives and the 59 rules, a value that a board keeps or answers for a key has the meaning of the key's operation: on the data of the arguments, which are the category's, the data of the value are what the operation asks for.
abbrev pub ValuesMean : {O M : Type 0} → OfferData O M → Type 0
ValuesMean {O} {M} D = AllowsItsRules D → (p : Plan) → IsPlanOf D rule_table p → (told : Handle → Option O) (op : ℕ) → IsOperation op → (args : List (Arg M)) (v : Answer M)
    → (g : Good D rule_table p told op args v) → Meaning D.category op g.data_of g.out
