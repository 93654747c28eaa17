-- Literals of categories of matrices in a checked script: an object is a dimension, and a morphism a matrix of integers (this project's own script language).
use Rattle.std.specs.Prelude.{◌≡◌, ℕ, ◌<◌, ◌≤◌, ◌^◌, nat_abs, List, ◌∷◌, ◌++◌, Option, Some}
use Rattle.std.specs.List.{All}
use Rattle.cap_names.specs.declared.literals.EntryLit.{EntryLit}
use Rattle.cap_names.specs.declared.literals.EntryLit.TheVariants as entries
use Rattle.cap_names.specs.declared.literals.ObjLit.{ObjLit}
use Rattle.cap_names.specs.declared.literals.ObjLit.TheVariants as objects
use Rattle.cap_names.specs.declared.literals.MorLit.{MorLit}
use Rattle.cap_names.specs.declared.literals.MorLit.TheVariants as morphisms
use Rattle.cap_grammar.specs.declared.tree.Over.{Over}
use Rattle.cap_grammar.specs.declared.tree.Over.TheVariants.{Vec}
use Rattle.cap_grammar.specs.declared.tree.Command.{Command}
use Rattle.cap_grammar.specs.declared.tree.Command.TheVariants.{Register, Finalise, Plan, Object, Src, Tgt, Let, Call}
use Rattle.cap_grammar.specs.declared.tree.Item.{Item}
use Rattle.cap_grammar.specs.declared.tree.Item.TheVariants as top
use Rattle.cap_checked.specs.declared.tree.CheckedObj.{CheckedObj}
use Rattle.cap_checked.specs.declared.tree.CheckedObj.TheVariants as checked
use Rattle.cap_checked.specs.declared.tree.Checked.{Checked}
use Rattle.cap_check.specs.Unbuilt.{CheckedPart}
use Rattle.cap_fitting.specs.Categories.{category_over}
use Rattle.cap_fitting.specs.Forms.{CheckedCommand, CheckedSession}

-- a dimension of at most 2,048
abbrev pub IsDimensionLiteral : ObjLit → Type 0
IsDimensionLiteral (objects.Dim n) = n ≤ 2048
IsDimensionLiteral (objects.Parts parts) = ⊥
IsDimensionLiteral (objects.Relation src tgt rho) = ⊥
IsDimensionLiteral (objects.Dims dims maps) = ⊥

abbrev pub IsDimension : CheckedObj → Type 0
IsDimension (checked.Lit lit) = IsDimensionLiteral lit
IsDimension (checked.Paths dims maps) = ⊥

-- an integer of at most 16 digits
abbrev pub IsInteger : EntryLit → Type 0
IsInteger (entries.Int z) = nat_abs z < 10 ^ 16
IsInteger (entries.Coeffs zs) = ⊥

-- one matrix, of integers
abbrev pub IsIntegerMatrix : MorLit → Type 0
IsIntegerMatrix (morphisms.Rows m) = All (λ row. All IsInteger row) m.rows
IsIntegerMatrix (morphisms.Parts ms) = ⊥

-- the literal of a command, where what the categories are over is known: one of matrices in a category of matrices. Nothing is asked of other kinds here
abbrev pub LiteralFits : (List ℕ → Option Over) → Command CheckedObj MorLit → Type 0
LiteralFits over (Register cat op weight) = Unit {0}
LiteralFits over (Finalise cat) = Unit {0}
LiteralFits over (Plan cat) = Unit {0}
LiteralFits over (Object cat x lit) = (prime : ℕ) → over cat ≡ Some (Vec prime) → IsDimension lit
LiteralFits over (Src x of) = Unit {0}
LiteralFits over (Tgt x of) = Unit {0}
LiteralFits over (Let x cat src tgt lit) = (prime : ℕ) → over cat ≡ Some (Vec prime) → IsIntegerMatrix lit
LiteralFits over (Call x cat op args) = Unit {0}

abbrev pub PartLiteralFits : (List ℕ → Option Over) → Item CheckedObj MorLit → Type 0
PartLiteralFits over (top.Block b) = Unit {0}
PartLiteralFits over (top.Category n o) = Unit {0}
PartLiteralFits over (top.Command c) = LiteralFits over c

-- the literals of a script, each where its command stands
pub record LiteralsFit (form : Checked) : Type 0 where
  pub parts : (before behind : List CheckedPart) (p : CheckedPart) → form.prelude ≡ before ++ (p ∷ behind) → PartLiteralFits (category_over before) p.node
  pub sessions : (before behind : List CheckedSession) (s : CheckedSession) → form.sessions ≡ before ++ (s ∷ behind)
      → (earlier later : List CheckedCommand) (c : CheckedCommand) → s.node.commands ≡ earlier ++ (c ∷ later) → LiteralFits (category_over form.prelude) c.node
