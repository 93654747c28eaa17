-- Weights that are in their range (this project's own script language).
use Rattle.std.specs.Prelude.{ℕ, List, Option, None}
use Rattle.std.specs.List.{All}
use Rattle.cap_grammar.specs.declared.tree.Command.{Command}
use Rattle.cap_grammar.specs.declared.tree.Command.TheVariants.{Register, Finalise, Plan, Object, Src, Tgt, Let, Call}
use Rattle.cap_grammar.specs.declared.tree.Item.{Item}
use Rattle.cap_grammar.specs.declared.tree.Item.TheVariants as top
use Rattle.cap_grammar.specs.declared.tree.Placed.{Placed}
use Rattle.cap_ops.specs.Derivations.{IsWeight}

-- the weight that a command writes
abbrev pub written : {O M : Type 0} → Command O M → Option ℕ
written (Register cat op weight) = weight
written (Finalise cat) = None
written (Plan cat) = None
written (Object cat x lit) = None
written (Src x of) = None
written (Tgt x of) = None
written (Let x cat src tgt lit) = None
written (Call x cat op args) = None

-- the weight that a part writes
abbrev pub written_weight : {O M : Type 0} → Item O M → Option ℕ
written_weight (top.Block b) = None
written_weight (top.Category n over) = None
written_weight (top.Command c) = written c

-- each written weight is in the range of weights
abbrev pub AreRanged : {O M : Type 0} → List (Placed (Item O M)) → Type 0
AreRanged parts = All (λ p. IsWeight (written_weight p.node)) parts
