-- A checked script that fits: each of its commands does, where it stands (this project's own script language).
use Rattle.std.specs.Prelude.{◌≡◌, ℕ, ◌+◌, ◌-◌, ◌≤◌, List, ◌∷◌, ◌++◌, length, sum_by, true, None}
use Rattle.std.specs.List.{All}
use Rattle.cap_names.specs.declared.literals.MorLit.{MorLit}
use Rattle.cap_field.specs.Residue.{is_tabled}
use Rattle.cap_grammar.specs.declared.tree.Placed.{Placed}
use Rattle.cap_grammar.specs.declared.tree.Over.{Over}
use Rattle.cap_grammar.specs.declared.tree.Over.TheVariants.{Vec, Add, Freyd, Rep}
use Rattle.cap_grammar.specs.declared.tree.Command.{Command}
use Rattle.cap_grammar.specs.declared.tree.Item.{Item}
use Rattle.cap_grammar.specs.declared.tree.Item.TheVariants as top
use Rattle.cap_grammar.specs.declared.tree.SessionPart.{SessionPart}
use Rattle.cap_checked.specs.declared.tree.CheckedObj.{CheckedObj}
use Rattle.cap_checked.specs.declared.tree.Checked.{Checked}
use Rattle.cap_check.specs.Unbuilt.{CheckedPart}
use Rattle.cap_fitting.specs.Values.{values_of_parts, values_of_commands}
use Rattle.cap_fitting.specs.Categories.{category_over, has_block, number_of_categories}
use Rattle.cap_fitting.specs.Commands.{Scope, CommandFits}

abbrev pub CheckedCommand : Type 0
CheckedCommand = Placed (Command CheckedObj MorLit)

abbrev pub CheckedSession : Type 0
CheckedSession = Placed (SessionPart CheckedObj MorLit)

-- the scope of a command of the prelude, behind these parts
abbrev pub behind_parts : List CheckedPart → Scope
behind_parts before = record { over = category_over before; values = values_of_parts before; own = length (values_of_parts before) }

-- the scope of a command of a session, behind the prelude and these commands of the session
abbrev pub behind_commands : List CheckedPart → List CheckedCommand → Scope
behind_commands prelude before = record {
  over = category_over prelude;
  values = values_of_commands (values_of_parts prelude) before;
  own = length (values_of_commands (values_of_parts prelude) before) - length (values_of_parts prelude);
}

-- what a category is over: a prime of the table, or a block that stands before it
abbrev pub OverFits : List CheckedPart → Over → Type 0
OverFits before (Vec prime) = is_tabled prime ≡ true
OverFits before (Add block) = has_block before block ≡ true
OverFits before (Freyd block) = has_block before block ≡ true
OverFits before (Rep block) = has_block before block ≡ true

-- a category of a new name
pub record CategoryFits (before : List CheckedPart) (name : List ℕ) (over : Over) : Type 0 where
  pub new : category_over before name ≡ None
  pub fits : OverFits before over

-- a part of the prelude, behind these. Nothing is asked of blocks here
abbrev pub PartFits : List CheckedPart → Item CheckedObj MorLit → Type 0
PartFits before (top.Block b) = Unit {0}
PartFits before (top.Category n over) = CategoryFits before n over
PartFits before (top.Command c) = CommandFits (behind_parts before) c

-- a session behind the prelude and these sessions: no earlier one has its name, and each of its commands fits behind those before it
pub record SessionFits (prelude : List CheckedPart) (earlier : List CheckedSession) (s : SessionPart CheckedObj MorLit) : Type 0 where
  pub new : All (λ e. e.node.name ≡ s.name → ⊥) earlier
  pub commands : (before behind : List CheckedCommand) (c : CheckedCommand) → s.commands ≡ before ++ (c ∷ behind) → CommandFits (behind_commands prelude before) c.node

-- how many parts and commands there are
abbrev pub number_of_commands : Checked → ℕ
number_of_commands form = length form.prelude + sum_by (λ s. length s.node.commands) form.sessions

-- a script: each part fits behind those before it, and each session behind the prelude and the sessions before it
pub record FormFits (form : Checked) : Type 0 where
  pub parts : (before behind : List CheckedPart) (p : CheckedPart) → form.prelude ≡ before ++ (p ∷ behind) → PartFits before p.node
  pub sessions : (before behind : List CheckedSession) (s : CheckedSession) → form.sessions ≡ before ++ (s ∷ behind) → SessionFits form.prelude before s.node
  pub few_commands : number_of_commands form ≤ 4096
  pub few_sessions : length form.sessions ≤ 16
  pub few_categories : number_of_categories form.prelude ≤ 16
