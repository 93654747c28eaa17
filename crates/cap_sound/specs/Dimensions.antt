-- The dimensions that a script writes (this project's own script language).
use Rattle.std.specs.Prelude.{ℕ, List, [], ◌∷◌, ◌++◌}
use Rattle.std.specs.List.{flat_map}
use Rattle.cap_grammar.specs.declared.tree.ObjTok.{ObjTok}
use Rattle.cap_grammar.specs.declared.tree.ObjTok.TheVariants.{Dim, Parts, Relation, Dims}
use Rattle.cap_grammar.specs.declared.tree.MorTok.{MorTok}
use Rattle.cap_grammar.specs.declared.tree.Command.{Command}
use Rattle.cap_grammar.specs.declared.tree.Command.TheVariants.{Register, Finalise, Plan, Object, Src, Tgt, Let, Call}
use Rattle.cap_grammar.specs.declared.tree.Item.{Item}
use Rattle.cap_grammar.specs.declared.tree.Item.TheVariants as top
use Rattle.cap_grammar.specs.declared.tree.Script.{Script}

-- those of an object literal
abbrev pub dimensions : ObjTok → List ℕ
dimensions (Dim n) = n ∷ []
dimensions (Parts names) = []
dimensions (Relation src tgt rho) = []
dimensions (Dims dims maps) = dims

-- those of a command, and of a part of the prelude
abbrev pub command_dimensions : Command ObjTok MorTok → List ℕ
command_dimensions (Register cat op weight) = []
command_dimensions (Finalise cat) = []
command_dimensions (Plan cat) = []
command_dimensions (Object cat x lit) = dimensions lit
command_dimensions (Src x of) = []
command_dimensions (Tgt x of) = []
command_dimensions (Let x cat src tgt lit) = []
command_dimensions (Call x cat op args) = []

abbrev pub item_dimensions : Item ObjTok MorTok → List ℕ
item_dimensions (top.Block b) = []
item_dimensions (top.Category n over) = []
item_dimensions (top.Command c) = command_dimensions c

-- all of a script, in the order of the text
abbrev pub script_dimensions : Script → List ℕ
script_dimensions s = flat_map (λ p. item_dimensions p.node) s.prelude ++ flat_map (λ x. flat_map (λ c. command_dimensions c.node) x.node.commands) s.sessions
