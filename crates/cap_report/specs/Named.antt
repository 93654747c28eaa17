-- The names that a command names: that of its category, and the one that it binds.
use Rattle.std.specs.Prelude.{ℕ, List, Option, Some, None}
use Rattle.cap_grammar.specs.declared.tree.Command.{Command}
use Rattle.cap_grammar.specs.declared.tree.Command.TheVariants.{Register, Finalise, Plan, Object, Src, Tgt, Let, Call}

-- the category that a command names
abbrev pub category_name : {O M : Type 0} → Command O M → Option (List ℕ)
category_name (Register cat op weight) = Some cat
category_name (Finalise cat) = Some cat
category_name (Plan cat) = Some cat
category_name (Object cat x lit) = Some cat
category_name (Src x r) = None
category_name (Tgt x r) = None
category_name (Let x cat src tgt lit) = Some cat
category_name (Call x cat op args) = Some cat

-- the name that it binds
abbrev pub bound_name : {O M : Type 0} → Command O M → Option (List ℕ)
bound_name (Register cat op weight) = None
bound_name (Finalise cat) = None
bound_name (Plan cat) = None
bound_name (Object cat x lit) = Some x
bound_name (Src x r) = Some x
bound_name (Tgt x r) = Some x
bound_name (Let x cat src tgt lit) = Some x
bound_name (Call x cat op args) = Some x
