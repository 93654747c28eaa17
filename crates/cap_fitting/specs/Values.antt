-- The values that a script's commands bind, whatever their literals are (this project's own script language).
use Rattle.std.specs.Prelude.{List, [], ◌∷◌, option_map, option_to_list}
use Rattle.cap_grammar.specs.declared.tree.Placed.{Placed}
use Rattle.cap_grammar.specs.declared.tree.Command.{Command}
use Rattle.cap_grammar.specs.declared.tree.Command.TheVariants.{Register, Finalise, Plan, Object, Src, Tgt, Let, Call}
use Rattle.cap_grammar.specs.declared.tree.Item.{Item}
use Rattle.cap_grammar.specs.declared.tree.Item.TheVariants as top
use Rattle.cap_ops.specs.declared.sorts.Sort.TheVariants.{Obj, Mor}
use Rattle.cap_ops.specs.Ends.{operation_answer}
use Rattle.cap_faults.specs.declared.values.Value.{Value}
use Rattle.cap_faults.specs.Commands.{value, end_of, value_of}
use Rattle.cap_faults.specs.Scripts.{values_behind}

-- what a command binds where these values are bound: a name at most. The source and the target of a morphism are objects of its category
abbrev pub bound_by : {O M : Type 0} → List Value → Command O M → List Value
bound_by values (Register cat op weight) = []
bound_by values (Finalise cat) = []
bound_by values (Plan cat) = []
bound_by values (Object cat x lit) = value x cat Obj ∷ []
bound_by values (Src x of) = option_to_list (option_map (end_of x) (value_of values of.name))
bound_by values (Tgt x of) = option_to_list (option_map (end_of x) (value_of values of.name))
bound_by values (Let x cat src tgt lit) = value x cat Mor ∷ []
bound_by values (Call x cat op args) = value x cat (operation_answer op.0) ∷ []

-- what a part of a prelude binds: a command alone does
abbrev pub bound_in : {O M : Type 0} → List Value → Item O M → List Value
bound_in values (top.Block b) = []
bound_in values (top.Category n over) = []
bound_in values (top.Command c) = bound_by values c

abbrev pub bound_by_part : {O M : Type 0} → List Value → Placed (Item O M) → List Value
bound_by_part values p = bound_in values p.node

abbrev pub bound_by_command : {O M : Type 0} → List Value → Placed (Command O M) → List Value
bound_by_command values c = bound_by values c.node

-- all values behind parts of a prelude, from its first on
abbrev pub values_of_parts : {O M : Type 0} → List (Placed (Item O M)) → List Value
values_of_parts parts = values_behind bound_by_part [] parts

-- all values behind commands that stand where these are bound
abbrev pub values_of_commands : {O M : Type 0} → List Value → List (Placed (Command O M)) → List Value
values_of_commands outer commands = values_behind bound_by_command outer commands
