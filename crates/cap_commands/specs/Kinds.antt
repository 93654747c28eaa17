-- What scripts' runs rest on today: categories of matrices over prime fields. No block is built, so none has a table.
use Rattle.std.specs.Prelude.{◌≡◌, Option, Result, Ok, Err}
use Rattle.cap_names.specs.declared.literals.MorLit.{MorLit}
use Rattle.cap_grammar.specs.declared.tree.Over.{Over}
use Rattle.cap_grammar.specs.declared.tree.Over.TheVariants.{Vec, Add, Freyd, Rep}
use Rattle.cap_checked.specs.declared.tree.CheckedObj.{CheckedObj}
use Rattle.cap_checked.specs.declared.tree.CheckedObj.TheVariants as checked
use Rattle.cap_data.specs.declared.data.ObjData.{ObjData}
use Rattle.cap_data.specs.declared.data.MorData.{MorData}
use Rattle.cap_data.specs.Counts.{cells_in_object, cells_in_morphism}
use Rattle.cap_offer.specs.Labels.{Label, vec, any_offer}
use Rattle.cap_offer.specs.Literals.{Literal, IsLeast, IsGiven, IsTooLarge, object_literal, morphism_literal, HasObjectForm}
use Rattle.cap_report.specs.declared.lines.LineAnswer.TheVariants as line
use Rattle.cap_report.specs.declared.lines.LineRefusal.{LineRefusal}
use Rattle.cap_report.specs.declared.lines.LineRefusal.TheVariants as refusal
use Rattle.cap_accounts.specs.Worlds.{World}

-- what a literal stands for; or its least wrong part; or, all parts being right, a size past the limits
abbrev pub Reads : {D : Type 0} → Literal D → Result D LineRefusal → Type 0
Reads L (Ok x) = IsGiven L x
Reads L (Err (refusal.Shape part)) = IsLeast L.wrong part
Reads L (Err (refusal.TooLarge size)) = IsTooLarge L size.rows size.cols
Reads L (Err _) = ⊥

-- an object literal; one with paths is of a category of functors, which is not built
abbrev pub ObjectIs : Label → CheckedObj → Result ObjData LineRefusal → Type 0
ObjectIs x (checked.Lit lit) result = Reads (object_literal x lit) result
ObjectIs x (checked.Paths dims maps) result = ⊥

abbrev pub MorphismIs : Label → ObjData → ObjData → MorLit → Result MorData LineRefusal → Type 0
MorphismIs x a b lit result = Reads (morphism_literal x a b lit) result

-- the category over a prime
abbrev pub CategoryIs : Over → Option (Unit {0}) → Label → Type 0
CategoryIs (Vec p) table x = x ≡ vec p
CategoryIs (Add block) table x = ⊥
CategoryIs (Freyd block) table x = ⊥
CategoryIs (Rep block) table x = ⊥

abbrev pub kinds : World Label (Unit {0}) ObjData MorData
kinds = record {
  offered = any_offer;
  object_cells = cells_in_object;
  morphism_cells = cells_in_morphism;
  block_is = λ block result. ⊥;
  block_line = λ table. line.Category;
  category_is = CategoryIs;
  object_is = ObjectIs;
  morphism_is = MorphismIs;
}

-- an object literal of the form that the category's kind asks for
abbrev pub HasForm : Label → CheckedObj → Type 0
HasForm x (checked.Lit lit) = HasObjectForm x lit
HasForm x (checked.Paths dims maps) = ⊥
