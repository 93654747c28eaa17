-- Ends that must be one object: which ends of arguments are wrong, and where.
use Rattle.std.specs.Prelude.{◌≡◌, ℕ, ◌+◌, ◌-◌, ◌<◌, ◌≤◌, ◌==◌, if◌then◌else◌, List, [], ◌∷◌, ◌++◌, Option, Some, None, slice_get, map}
use Rattle.cap_names.specs.declared.identifiers.Handle.{Handle}
use Rattle.cap_ops.specs.declared.ends.Shape.{Shape}
use Rattle.cap_ops.specs.declared.ends.Shape.TheVariants.{Object, Morphism}
use Rattle.cap_ops.specs.declared.fitting.Mismatch.{Mismatch}
use Rattle.cap_ops.specs.declared.keys.Arg.{Arg}
use Rattle.cap_ops.specs.declared.keys.Arg.TheVariants.{Obj, Mor, Num}
use Rattle.cap_ops.specs.declared.sorts.Sort.{Sort}
use Rattle.cap_ops.specs.declared.sorts.Sort.TheVariants.{Obj as ObjSort, Mor as MorSort, Num as NumSort}
use Rattle.cap_ops.specs.Ends.{IsOperation, operation_arguments, profile_of}

-- the sort of an argument
abbrev pub sort_of_argument : {M : Type 0} → Arg M → Sort
sort_of_argument (Obj h) = ObjSort
sort_of_argument (Mor f) = MorSort
sort_of_argument (Num n) = NumSort

-- the arguments have the operation's sorts
pub record HaveSorts {M : Type 0} (op : ℕ) (args : List (Arg M)) : Type 0 where
  pub operation : IsOperation op
  pub sorts : map sort_of_argument args ≡ operation_arguments op

-- an end of an argument: the letter that the operation's line has there, and the handle
pub record Place : Type 0 where
  pub letter : ℕ
  pub handle : Handle

abbrev pub place : ℕ → Handle → Place
place letter handle = record { letter = letter; handle = handle }

-- the ends of an argument: an object, or a source and a target; a scalar has none
abbrev pub argument_places : {M : Type 0} → Shape ℕ → Arg M → List Place
argument_places (Object x) (Obj h) = place x h ∷ []
argument_places (Morphism e) (Mor f) = place e.src f.src ∷ place e.tgt f.tgt ∷ []
argument_places _ _ = []

abbrev pub all_places : {M : Type 0} → List (Shape ℕ) → List (Arg M) → List Place
all_places (s ∷ ss) (a ∷ args) = argument_places s a ++ all_places ss args
all_places _ _ = []

-- the ends of the arguments, in the order written
abbrev pub places_of : {M : Type 0} → ℕ → List (Arg M) → List Place
places_of op args = all_places (profile_of op).arguments args

-- the handle at the first end with a letter
abbrev pub first_with : List Place → ℕ → Option Handle
first_with [] letter = None
first_with (p ∷ ps) letter = if p.letter == letter then Some p.handle else first_with ps letter

-- the end at this place, from 0, has another handle than the first end with its letter
pub record IsWrong (ends : List Place) (i : ℕ) (needed found : Handle) : Type 0 where
  pub letter : ℕ
  pub there : slice_get ends i ≡ Some (place letter found)
  pub first : first_with ends letter ≡ Some needed
  pub differ : needed ≡ found → ⊥

-- the first wrong end, by its place from 1
pub record IsFirstWrong (ends : List Place) (m : Mismatch) : Type 0 where
  pub from_one : 1 ≤ m.place
  pub wrong : IsWrong ends (m.place - 1) m.left m.right
  pub least : (i : ℕ) → i + 1 < m.place → (needed found : Handle) → IsWrong ends i needed found → ⊥

abbrev pub IsMismatch : {M : Type 0} → ℕ → List (Arg M) → Mismatch → Type 0
IsMismatch op args m = IsFirstWrong (places_of op args) m
