-- What stands in a script whose names are all bound: blocks within their limits, categories over what is there, and literals of the form that their category asks for (this project's own script language).
use Rattle.std.specs.Prelude.{Option, None, count_by, ◌≡◌, ℕ, ◌≤◌, ◌<◌, ◌^◌, List, ◌∷◌, ◌++◌, length, Bool, true, false, not, Some}
use Rattle.std.specs.List.{All}
use Rattle.cap_grammar.specs.declared.tree.IntTok.{IntTok}
use Rattle.cap_grammar.specs.declared.tree.EntryTok.{EntryTok}
use Rattle.cap_grammar.specs.declared.tree.EntryTok.TheVariants as cell
use Rattle.cap_grammar.specs.declared.tree.RowsTok.{RowsTok}
use Rattle.cap_grammar.specs.declared.tree.ObjTok.{ObjTok}
use Rattle.cap_grammar.specs.declared.tree.ObjTok.TheVariants.{Dim, Parts, Relation, Dims}
use Rattle.cap_grammar.specs.declared.tree.MorTok.{MorTok}
use Rattle.cap_grammar.specs.declared.tree.MorTok.TheVariants as matrices
use Rattle.cap_grammar.specs.declared.tree.Block.{Block}
use Rattle.cap_grammar.specs.declared.tree.Over.{Over}
use Rattle.cap_grammar.specs.declared.tree.Over.TheVariants.{Vec, Add, Freyd, Rep}
use Rattle.cap_grammar.specs.declared.tree.Command.{Command}
use Rattle.cap_grammar.specs.declared.tree.Command.TheVariants.{Register, Finalise, Plan, Object, Src, Tgt, Let, Call}
use Rattle.cap_grammar.specs.declared.tree.Item.{Item}
use Rattle.cap_grammar.specs.declared.tree.Item.TheVariants as top
use Rattle.cap_grammar.specs.declared.tree.Script.{Script}
use Rattle.cap_field.specs.Residue.{is_tabled}
use Rattle.cap_block_faults.specs.Blocks.{is_basis, is_arrow}
use Rattle.cap_block_faults.specs.Names.{Part, has_block, has_category, objects_of, lines_of, is_quiver, over_of}
use Rattle.cap_checked.specs.Checked.{basis, listed}
use Rattle.cap_sound.specs.Plain.{number}

-- the name is there: its number is below how many names there are
abbrev pub IsThere : List (List ℕ) → List ℕ → Type 0
IsThere names name = number names name < length names

-- an integer of at most 16 digits
abbrev pub IsShort : IntTok → Type 0
IsShort i = i.digits < 10 ^ 16

-- an entry is such an integer, or has such coefficients
abbrev pub IsEntry : Bool → EntryTok → Type 0
IsEntry false (cell.Int i) = IsShort i
IsEntry false (cell.Coeffs is) = ⊥
IsEntry true (cell.Int i) = ⊥
IsEntry true (cell.Coeffs is) = All IsShort is

abbrev pub HasEntries : Bool → RowsTok → Type 0
HasEntries coeffs m = All (λ row. All (IsEntry coeffs) row) m.rows

-- at most 64 objects of a block
abbrev pub AreObjects : List (List ℕ) → List (List ℕ) → Type 0
AreObjects objects names = (length names ≤ 64) × All (IsThere objects) names

-- a map of a functor: at one basis element of a table, or at a path of a quiver's arrows, with integers
pub record IsMap (table : Bool) (names : List (List ℕ)) (m : List (List ℕ) × RowsTok) : Type 0 where
  pub some : 1 ≤ length m.0
  pub one : table ≡ true → length m.0 ≡ 1
  pub there : All (IsThere names) m.0
  pub entries : HasEntries false m.1

-- a functor: a dimension of at most 2,048 for each object, and maps
pub record IsFunctor (objects : ℕ) (table : Bool) (names : List (List ℕ)) (dims : List ℕ) (maps : List (List (List ℕ) × RowsTok)) : Type 0 where
  pub each_dim : length dims ≡ objects
  pub most : All (λ n. n ≤ 2048) dims
  pub each_map : All (IsMap table names) maps

-- an object literal of matrices, of an additive closure, of a Freyd category, and of functors
abbrev pub IsMatrixObject : ObjTok → Type 0
IsMatrixObject (Dim n) = n ≤ 2048
IsMatrixObject (Parts names) = ⊥
IsMatrixObject (Relation src tgt rho) = ⊥
IsMatrixObject (Dims dims maps) = ⊥

abbrev pub IsSumObject : List (List ℕ) → ObjTok → Type 0
IsSumObject objects (Dim n) = ⊥
IsSumObject objects (Parts names) = AreObjects objects names
IsSumObject objects (Relation src tgt rho) = ⊥
IsSumObject objects (Dims dims maps) = ⊥

abbrev pub IsFreydObject : List (List ℕ) → ObjTok → Type 0
IsFreydObject objects (Dim n) = ⊥
IsFreydObject objects (Parts names) = ⊥
IsFreydObject objects (Relation src tgt rho) = AreObjects objects src × AreObjects objects tgt × HasEntries true rho
IsFreydObject objects (Dims dims maps) = ⊥

abbrev pub IsFunctorObject : ℕ → Bool → List (List ℕ) → ObjTok → Type 0
IsFunctorObject objects table names (Dim n) = ⊥
IsFunctorObject objects table names (Parts parts) = ⊥
IsFunctorObject objects table names (Relation src tgt rho) = ⊥
IsFunctorObject objects table names (Dims dims maps) = IsFunctor objects table names dims (listed maps)

-- one of a category over this
abbrev pub HasObjectForm : List Part → Over → ObjTok → Type 0
HasObjectForm parts (Vec prime) lit = IsMatrixObject lit
HasObjectForm parts (Add block) lit = IsSumObject (objects_of parts block) lit
HasObjectForm parts (Freyd block) lit = IsFreydObject (objects_of parts block) lit
HasObjectForm parts (Rep block) lit = IsFunctorObject (length (objects_of parts block)) (not (is_quiver parts block)) (basis (lines_of parts block)) lit

-- a morphism literal: one matrix, or one of integers for each object
abbrev pub IsMatrix : Bool → MorTok → Type 0
IsMatrix coeffs (matrices.Rows m) = HasEntries coeffs m
IsMatrix coeffs (matrices.Parts ms) = ⊥

abbrev pub IsNatural : ℕ → MorTok → Type 0
IsNatural objects (matrices.Rows m) = ⊥
IsNatural objects (matrices.Parts ms) = (length ms ≡ objects) × All (HasEntries false) ms

abbrev pub HasMorphismForm : List Part → Over → MorTok → Type 0
HasMorphismForm parts (Vec prime) lit = IsMatrix false lit
HasMorphismForm parts (Add block) lit = IsMatrix true lit
HasMorphismForm parts (Freyd block) lit = IsMatrix true lit
HasMorphismForm parts (Rep block) lit = IsNatural (length (objects_of parts block)) lit

-- a category that is there
abbrev pub IsKnown : List Part → List ℕ → Type 0
IsKnown parts cat = (over : Over) × (over_of parts cat ≡ Some over)

-- a literal in a category that is there, and of its form
pub record HasObject (parts : List Part) (cat : List ℕ) (lit : ObjTok) : Type 0 where
  pub over : Over
  pub known : over_of parts cat ≡ Some over
  pub form : HasObjectForm parts over lit

pub record HasMorphism (parts : List Part) (cat : List ℕ) (lit : MorTok) : Type 0 where
  pub over : Over
  pub known : over_of parts cat ≡ Some over
  pub form : HasMorphismForm parts over lit

-- a command behind these parts
abbrev pub CommandFits : List Part → Command ObjTok MorTok → Type 0
CommandFits parts (Register cat op weight) = IsKnown parts cat
CommandFits parts (Finalise cat) = IsKnown parts cat
CommandFits parts (Plan cat) = IsKnown parts cat
CommandFits parts (Object cat x lit) = HasObject parts cat lit
CommandFits parts (Src x of) = Unit {0}
CommandFits parts (Tgt x of) = Unit {0}
CommandFits parts (Let x cat src tgt lit) = HasMorphism parts cat lit
CommandFits parts (Call x cat op args) = IsKnown parts cat

-- what a category is over: a prime of the table, or a block that is there
abbrev pub OverFits : List Part → Over → Type 0
OverFits parts (Vec prime) = is_tabled prime ≡ true
OverFits parts (Add block) = has_block parts block ≡ true
OverFits parts (Freyd block) = has_block parts block ≡ true
OverFits parts (Rep block) = has_block parts block ≡ true

-- a category with a new name
pub record CategoryFits (before : List Part) (name : List ℕ) (over : Over) : Type 0 where
  pub new : has_category before name ≡ false
  pub fits : OverFits before over

-- a bound of paths' lengths, of 1 to 16, where there is one
abbrev pub IsBound : Option ℕ → Type 0
IsBound None = Unit {0}
IsBound (Some n) = (1 ≤ n) × (n ≤ 16)

-- a block with a new name, over a prime of the table, with at most 16 objects, and 128 basis elements or 64 arrows
pub record BlockFits (before : List Part) (b : Block) : Type 0 where
  pub new : has_block before b.name ≡ false
  pub prime : is_tabled b.prime ≡ true
  pub bound : IsBound b.bound
  pub objects : length b.objects ≤ 16
  pub elements : count_by is_basis b.lines ≤ 128
  pub arrows : count_by is_arrow b.lines ≤ 64

-- a part of the prelude, behind these
abbrev pub ItemFits : List Part → Item ObjTok MorTok → Type 0
ItemFits before (top.Block b) = BlockFits before b
ItemFits before (top.Category n over) = CategoryFits before n over
ItemFits before (top.Command c) = CommandFits before c

-- each part of a script's prelude behind the parts before it, and each command of its sessions behind the whole prelude
pub record ScriptFits (s : Script) : Type 0 where
  pub prelude : (before behind : List Part) (p : Part) → s.prelude ≡ before ++ (p ∷ behind) → ItemFits before p.node
  pub sessions : All (λ x. All (λ c. CommandFits s.prelude c.node) x.node.commands) s.sessions
