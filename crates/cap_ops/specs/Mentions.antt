-- What is mentioned in a list, each once, in order; and the handles that a value mentions.
use Rattle.std.specs.Prelude.{ℕ, ◌==◌, if◌then◌else◌, Bool, List, [], ◌∷◌}
use Rattle.std.specs.List.{flat_map, list_any}
use Rattle.cap_names.specs.declared.identifiers.Handle.{Handle}
use Rattle.cap_ops.specs.declared.arrows.Arrow.{Arrow}
use Rattle.cap_ops.specs.declared.keys.Value.{Value as Answer}
use Rattle.cap_ops.specs.declared.keys.Value.TheVariants.{One, Many}
use Rattle.cap_ops.specs.Once.{once}

-- the handle's number
abbrev pub number_of : Handle → ℕ
number_of h = h.0

-- each handle once, in order of first mention
abbrev pub distinct : List Handle → List Handle
distinct hs = once number_of [] hs

-- the ends of a morphism, the source before the target
abbrev pub ends_of : {M : Type 0} → Arrow M → List Handle
ends_of f = f.src ∷ f.tgt ∷ []

-- the ends that a value names, in order
abbrev pub mentions : {M : Type 0} → Answer M → List Handle
mentions (One f) = ends_of f
mentions (Many fs) = flat_map ends_of fs
mentions _ = []

-- the objects that a value names, each once, in order of first mention
abbrev pub mentioned : {M : Type 0} → Answer M → List Handle
mentioned v = distinct (mentions v)
