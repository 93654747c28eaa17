-- No number of a small literal is clamped.
use Rattle.std.proofs.Common.{◌≡◌, refl, ℕ, ◌-◌, ◌^◌, ◌≤◌, List, [], ◌∷◌, length, map, ap, ◌∙◌, arith, Option, Some, None, Bool, true, false}
use Rattle.std.specs.Prelude.{not}
use Rattle.std.specs.List.{position_or_len}
use Rattle.std.proofs.lemmas.List.Sums.{prefix_len-le-length}
use Rattle.cap_names.specs.declared.literals.MatLit.{MatLit}
use Rattle.cap_names.specs.declared.literals.ObjLit.TheVariants as objects
use Rattle.cap_reading.specs.Languages.{◌·◌, each, maybe}
use Rattle.cap_grammar.specs.declared.symbol.Fixed.TheVariants as word
use Rattle.cap_grammar.specs.declared.symbol.Symbol.{Symbol}
use Rattle.cap_grammar.specs.declared.tree.RowsTok.{RowsTok}
use Rattle.cap_grammar.specs.declared.tree.ObjTok.{ObjTok}
use Rattle.cap_grammar.specs.declared.tree.ObjTok.TheVariants.{Dim, Parts, Relation, Dims}
use Rattle.cap_grammar.specs.declared.tree.MorTok.{MorTok}
use Rattle.cap_grammar.specs.declared.tree.Over.{Over}
use Rattle.cap_grammar.specs.declared.tree.Over.TheVariants.{Vec, Add, Freyd, Rep}
use Rattle.cap_grammar.specs.declared.tree.Command.{Command}
use Rattle.cap_grammar.specs.declared.tree.Command.TheVariants.{Register, Finalise, Plan, Object, Src, Tgt, Let, Call}
use Rattle.cap_grammar.specs.declared.tree.Item.{Item}
use Rattle.cap_grammar.specs.declared.tree.Item.TheVariants as top
use Rattle.cap_grammar.specs.Grammar.{fixed}
use Rattle.cap_grammar.specs.Grammar as grammar
use Rattle.cap_block_faults.specs.Names.{Part, same, objects_of, lines_of, is_quiver, over_of}
use Rattle.cap_checked.specs.declared.tree.CheckedObj.TheVariants as checked_object
use Rattle.cap_checked.specs.Checked.{small, basis, listed}
use Rattle.cap_checked.specs.Checked as checked
use Rattle.cap_sound.specs.Plain as plain
use Rattle.cap_sound.specs.Dimensions.{dimensions, command_dimensions, item_dimensions}
use Rattle.cap_sound.proofs.Symbols.{AllShort, short_front, short_rest}
use Rattle.cap_sound.proofs.Integers.{not_clamped, each_plain, rows_plain, morphism_plain}
use Rattle.cap_sound.proofs.Sizes.{AreSmall, found_small}
use Rattle.cap_sound.proofs.Dimensions.{AreDims}

small_same : (n : ℕ) → n ≤ 2048 → small n ≡ n
small_same n h = not_clamped n (2 ^ 32 - 1) (omega (arith, h))

map_same : {A B : Type 0} (f g : A → B) → ((x : A) → f x ≡ g x) → (xs : List A) → map f xs ≡ map g xs
map_same f g same [] = refl
map_same f g same (x ∷ xs) = ap (λ y. y ∷ map f xs) (same x) ∙ ap (λ ys. g x ∷ ys) (map_same f g same xs)

number_plain : (names : List (List ℕ)) → length names ≤ 192 → (name : List ℕ) → checked.number names name ≡ plain.number names name
number_plain names few name =
    let within = prefix_len-le-length (λ other. not (same other name)) names in
    small_same (position_or_len (λ other. same other name) names) (omega (arith, within, few))

dims_plain : (dims : List ℕ) → AreDims dims → map small dims ≡ dims
dims_plain [] h = refl
dims_plain (n ∷ dims) h = ap (λ y. y ∷ map small dims) (small_same n h.0) ∙ ap (λ ys. n ∷ ys) (dims_plain dims h.1)

-- maps of a functor
module _ (names : List (List ℕ)) (few : length names ≤ 192) where
  first_plain : (path : List (List ℕ)) → checked.first_number names path ≡ plain.first_number names path
  first_plain [] = small_same (length names) (omega (arith, few))
  first_plain (name ∷ others) = number_plain names few name

  element_plain : (m : List (List ℕ) × RowsTok) (l : List Symbol) → grammar.map m l → AllShort l → checked.map_at_element names m ≡ plain.map_at_element names m
  element_plain m l t h =
      let r = short_rest t.rest t.second (short_rest l t h) in
      let place = first_plain m.0 in
      let rows = rows_plain m.1 t.second.rest t.second.second r in
      ap (λ n. let made : ℕ × MatLit = (n, checked.matrix m.1) in made) place ∙ ap (λ z. let made : ℕ × MatLit = (plain.first_number names m.0, z) in made) rows

  path_plain : (m : List (List ℕ) × RowsTok) (l : List Symbol) → grammar.map m l → AllShort l → checked.map_at_path names m ≡ plain.map_at_path names m
  path_plain m l t h =
      let r = short_rest t.rest t.second (short_rest l t h) in
      let place = map_same (checked.number names) (plain.number names) (number_plain names few) m.0 in
      let rows = rows_plain m.1 t.second.rest t.second.second r in
      ap (λ n. let made : List ℕ × MatLit = (n, checked.matrix m.1) in made) place ∙ ap (λ z. let made : List ℕ × MatLit = (map (plain.number names) m.0, z) in made) rows

  functor_plain : (quiver : Bool) (dims : List ℕ) (maps : List (List (List ℕ) × RowsTok)) (l : List Symbol) → each grammar.map maps l → AllShort l → AreDims dims → checked.functor quiver names dims maps ≡ plain.functor quiver names dims maps
  functor_plain true dims maps l t h d =
      ap (λ ns. checked_object.Paths ns (map (checked.map_at_path names) maps)) (dims_plain dims d)
      ∙ ap (checked_object.Paths dims) (each_plain (checked.map_at_path names) (plain.map_at_path names) grammar.map path_plain maps l t h)
  functor_plain false dims maps l t h d =
      ap (λ ns. checked_object.Lit (objects.Dims ns (map (checked.map_at_element names) maps))) (dims_plain dims d)
      ∙ ap (λ ms. checked_object.Lit (objects.Dims dims ms)) (each_plain (checked.map_at_element names) (plain.map_at_element names) grammar.map element_plain maps l t h)

  listed_plain : (quiver : Bool) (dims : List ℕ) (maps : Option (List (List (List ℕ) × RowsTok))) (l : List Symbol) → maybe (λ ms. fixed word.Maps · each grammar.map ms) maps l → AllShort l → AreDims dims → checked.functor quiver names dims (listed maps) ≡ plain.functor quiver names dims (listed maps)
  listed_plain quiver dims None l t h d = functor_plain quiver dims [] [] refl tt d
  listed_plain quiver dims (Some maps) l t h d = functor_plain quiver dims maps t.rest t.second (short_rest l t h) d

-- an object literal over a block
module _ (quiver : Bool) (xs names : List (List ℕ)) (few : length xs ≤ 192) (some_names : length names ≤ 192) where
  object_plain : (lit : ObjTok) (l : List Symbol) → grammar.object lit l → AllShort l → AreDims (dimensions lit) → checked.object quiver xs names lit ≡ plain.object quiver xs names lit
  object_plain (Dim n) l t h d = ap (λ k. checked_object.Lit (objects.Dim k)) (small_same n d.0)
  object_plain (Parts parts) l t h d = ap (λ ns. checked_object.Lit (objects.Parts ns)) (map_same (checked.number xs) (plain.number xs) (number_plain xs few) parts)
  object_plain (Relation src tgt rho) l t h d =
      let r1 = short_rest l t h in
      let r2 = short_rest t.rest t.second r1 in
      let r3 = short_rest t.second.rest t.second.second r2 in
      ap (λ ns. checked_object.Lit (objects.Relation ns (map (checked.number xs) tgt) (checked.matrix rho))) (map_same (checked.number xs) (plain.number xs) (number_plain xs few) src)
      ∙ ap (λ ns. checked_object.Lit (objects.Relation (map (plain.number xs) src) ns (checked.matrix rho))) (map_same (checked.number xs) (plain.number xs) (number_plain xs few) tgt)
      ∙ ap (λ z. checked_object.Lit (objects.Relation (map (plain.number xs) src) (map (plain.number xs) tgt) z)) (rows_plain rho t.second.second.rest t.second.second.second r3)
  object_plain (Dims dims maps) l t h d =
      let r = short_rest t.rest t.second (short_rest l t h) in
      listed_plain names some_names quiver dims maps t.second.rest t.second.second r d

over_plain : (parts : List Part) → AreSmall parts → (block : List ℕ) (lit : ObjTok) (l : List Symbol) → grammar.object lit l → AllShort l → AreDims (dimensions lit) → checked.object_over parts block lit ≡ plain.object_over parts block lit
over_plain parts small block lit l t h d =
    let few = found_small parts block small in
    object_plain (is_quiver parts block) (objects_of parts block) (basis (lines_of parts block)) (omega (arith, few.0)) few.1 lit l t h d

alone_plain : (lit : ObjTok) (l : List Symbol) → grammar.object lit l → AllShort l → AreDims (dimensions lit) → checked.object false [] [] lit ≡ plain.object false [] [] lit
alone_plain lit l t h d = object_plain false [] [] (omega arith) (omega arith) lit l t h d

kind_plain : (parts : List Part) → AreSmall parts → (over : Over) (lit : ObjTok) (l : List Symbol) → grammar.object lit l → AllShort l → AreDims (dimensions lit) → checked.object_of_kind parts over lit ≡ plain.object_of_kind parts over lit
kind_plain parts small (Vec prime) lit l t h d = alone_plain lit l t h d
kind_plain parts small (Add block) lit l t h d = over_plain parts small block lit l t h d
kind_plain parts small (Freyd block) lit l t h d = over_plain parts small block lit l t h d
kind_plain parts small (Rep block) lit l t h d = over_plain parts small block lit l t h d

literal_plain : (parts : List Part) → AreSmall parts → (o : Option Over) (lit : ObjTok) (l : List Symbol) → grammar.object lit l → AllShort l → AreDims (dimensions lit) → checked.object_lit parts o lit ≡ plain.object_lit parts o lit
literal_plain parts small None lit l t h d = alone_plain lit l t h d
literal_plain parts small (Some over) lit l t h d = kind_plain parts small over lit l t h d

-- a command, and a part of the prelude
pub command_plain : (parts : List Part) → AreSmall parts → (c : Command ObjTok MorTok) (l : List Symbol) → grammar.command c l → AllShort l → AreDims (command_dimensions c) → checked.command parts c ≡ plain.command parts c
command_plain parts small (Register cat op weight) l t h d = refl
command_plain parts small (Finalise cat) l t h d = refl
command_plain parts small (Plan cat) l t h d = refl
command_plain parts small (Object cat x lit) l t h d =
    let r1 = short_rest l t h in
    let r2 = short_rest t.rest t.second r1 in
    let r3 = short_rest t.second.rest t.second.second r2 in
    let r4 = short_rest t.second.second.rest t.second.second.second r3 in
    let o = t.second.second.second.second in
    ap (Object cat x) (literal_plain parts small (over_of parts cat) lit o.front o.first (short_front t.second.second.second.rest o r4) d)
command_plain parts small (Src x of) l t h d = refl
command_plain parts small (Tgt x of) l t h d = refl
command_plain parts small (Let x cat src tgt lit) l t h d =
    let r1 = short_rest l t h in
    let r2 = short_rest t.rest t.second r1 in
    let r3 = short_rest t.second.rest t.second.second r2 in
    let t4 = t.second.second.second in
    let r4 = short_rest t.second.second.rest t4 r3 in
    let r5 = short_rest t4.rest t4.second r4 in
    let r6 = short_rest t4.second.rest t4.second.second r5 in
    let t7 = t4.second.second.second in
    let r7 = short_rest t4.second.second.rest t7 r6 in
    ap (Let x cat src tgt) (morphism_plain lit t7.second.front t7.second.first (short_front t7.rest t7.second r7))
command_plain parts small (Call x cat op args) l t h d = refl

pub node_plain : (before : List Part) → AreSmall before → (n : Item ObjTok MorTok) (l : List Symbol) → grammar.part n l → AllShort l → AreDims (item_dimensions n) → checked.node before n ≡ plain.node before n
node_plain before small (top.Block b) l t h d = refl
node_plain before small (top.Category n o) l t h d = refl
node_plain before small (top.Command c) l t h d = ap top.Command (command_plain before small c l t h d)
