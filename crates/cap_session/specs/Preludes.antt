-- The prelude of a script, part by part.
use Rattle.std.specs.Prelude.{◌≡◌, ℕ, ◌<◌, ◌^◌, List, [], ◌∷◌, ◌++◌, length, map, true}
use Rattle.cap_names.specs.declared.literals.MorLit.{MorLit}
use Rattle.cap_field.specs.Residue.{is_tabled}
use Rattle.cap_grammar.specs.declared.tree.Item.{Item}
use Rattle.cap_grammar.specs.declared.tree.Item.TheVariants as top
use Rattle.cap_grammar.specs.declared.tree.Over.{Over}
use Rattle.cap_grammar.specs.declared.tree.Over.TheVariants.{Vec, Add, Freyd, Rep}
use Rattle.cap_checked.specs.declared.tree.CheckedObj.{CheckedObj}
use Rattle.cap_checked.specs.declared.tree.Checked.{Checked}
use Rattle.cap_check.specs.Unbuilt.{CheckedPart, unbuilt}
use Rattle.cap_fitting.specs.Categories.{number_of_categories}
use Rattle.cap_fitting.specs.Forms.{behind_commands, FormFits}
use Rattle.cap_fitting.specs.Literals.{LiteralsFit}
use Rattle.cap_offer.specs.Labels.{vec}
use Rattle.cap_desk.specs.Woven.{IsNothing}
use Rattle.cap_report.specs.declared.lines.LineAnswer.TheVariants as line
use Rattle.cap_accounts.specs.Accounts.{CountFrom, at_first}
use Rattle.cap_commands.specs.Agreement.{Agrees}
use Rattle.cap_commands.specs.Running.{IsPrepared}
use Rattle.cap_commands.specs.Seats.{AtSeat, AreSeats, telling}
use Rattle.cap_traces.specs.Runs.{prelude_session, new_seat, ItemsRun}
use Rattle.cap_session.specs.declared.course.Course.{Course}
use Rattle.cap_session.specs.Courses.{RunsOne}

-- nothing has happened yet
pub record IsAtFirst (C : Course AtSeat) : Type 0 where
  pub standing : C.standing ≡ at_first
  pub seats : C.seats.items ≡ []
  pub silent : C.events.items ≡ []
  pub idle : C.done.items ≡ []

-- the category of matrices over a prime is made, with a seat before it, and that is noted
pub record MakesOne (C : Course AtSeat) (name : List ℕ) (prime : ℕ) (C' : Course AtSeat) : Type 0 where
  pub standing : C'.standing ≡ record C.standing { categories = C.standing.categories ++ record { name = name; number = record { 0 = length C.standing.categories }; category = vec prime } ∷ [] }
  pub seats : C'.seats.items ≡ C.seats.items ++ new_seat (vec prime) ∷ []
  pub events : C'.events ≡ C.events
  pub done : C'.done.items ≡ C.done.items ++ record { command = length C.done.items; answer = line.Category } ∷ []

-- a part of the prelude comes: a category over a prime of the table, where fewer than 256 were made, or a command that is prepared
abbrev pub CategoryComes : Course AtSeat → Over → Type 0
CategoryComes C (Vec prime) = (is_tabled prime ≡ true) × (length C.standing.categories < 256)
CategoryComes C (Add block) = ⊥
CategoryComes C (Freyd block) = ⊥
CategoryComes C (Rep block) = ⊥

abbrev pub ItemComes : Course AtSeat → Item CheckedObj MorLit → Type 0
ItemComes C (top.Block b) = ⊥
ItemComes C (top.Category name over) = CategoryComes C over
ItemComes C (top.Command c) = IsPrepared C.standing C.seats.items c

pub record PartComes (C : Course AtSeat) (part : Item CheckedObj MorLit) : Type 0 where
  pub few : length C.done.items < 2 ^ 32
  pub comes : ItemComes C part

-- it has run
abbrev pub MakesOver : Course AtSeat → List ℕ → Over → Course AtSeat → Type 0
MakesOver C name (Vec prime) C' = MakesOne C name prime C'
MakesOver C name (Add block) C' = ⊥
MakesOver C name (Freyd block) C' = ⊥
MakesOver C name (Rep block) C' = ⊥

abbrev pub RunsPart : Course AtSeat → Item CheckedObj MorLit → Course AtSeat → Type 0
RunsPart C (top.Block b) C' = ⊥
RunsPart C (top.Category name over) C' = MakesOver C name over C'
RunsPart C (top.Command c) C' = RunsOne IsNothing C c C'

-- The prelude of a script without faults comes, whose kinds are built.
pub record PreludeComes (C : Course AtSeat) (parts : List CheckedPart) : Type 0 where
  pub first : IsAtFirst C
  pub form : Checked
  pub is_form : form.prelude ≡ parts
  pub fits : FormFits form
  pub literals : LiteralsFit form
  pub built : unbuilt form.prelude ≡ []

-- it has run, and the names agree with what stands
pub record RunsParts (parts : List CheckedPart) (C' : Course AtSeat) : Type 0 where
  pub runs : ItemsRun at_first [] (map (λ i. i.node) parts) C'.events.items (map (λ d. d.answer) C'.done.items) C'.standing C'.seats.items
  pub counted : CountFrom 0 C'.done.items
  pub are : AreSeats prelude_session C'.standing C'.seats.items
  pub agrees : Agrees (behind_commands parts []) C'.standing (telling C'.seats.items)
  pub made : length C'.standing.categories ≡ number_of_categories parts
