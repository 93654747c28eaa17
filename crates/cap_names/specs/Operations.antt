-- The names of the operations (this project's own; those of universal objects are the field's).
use Rattle.std.specs.Prelude.{◌≡◌, ℕ, ◌-◌, ◌≤◌, List, [], ◌∷◌, codes, slice_get, Some}

-- the names of the 44 operations, in the order of their numbers
abbrev pub operation_names : List (List ℕ)
operation_names =
    codes "Identity" ∷ codes "Compose" ∷ codes "Zero" ∷ codes "Add" ∷ codes "Negate" ∷ codes "Subtract" ∷
    codes "Scale" ∷ codes "IsCongruent" ∷ codes "IsZero" ∷ codes "ZeroObject" ∷ codes "DirectSum" ∷ codes "Product" ∷
    codes "Coproduct" ∷ codes "Pair" ∷ codes "Copair" ∷ codes "Kernel" ∷ codes "KernelLift" ∷ codes "Cokernel" ∷
    codes "CokernelColift" ∷ codes "WeakKernel" ∷ codes "WeakCokernel" ∷ codes "Lift" ∷ codes "Colift" ∷ codes "IsMono" ∷
    codes "IsEpi" ∷ codes "IsIso" ∷ codes "IsSplitMono" ∷ codes "IsSplitEpi" ∷ codes "Inverse" ∷ codes "Section" ∷
    codes "Retraction" ∷ codes "Equalizer" ∷ codes "Coequalizer" ∷ codes "Pullback" ∷ codes "Pushout" ∷ codes "Image" ∷
    codes "Coimage" ∷ codes "KernelMap" ∷ codes "CokernelMap" ∷ codes "Intersection" ∷ codes "Union" ∷ codes "IsSubobject" ∷
    codes "Homology" ∷ codes "IsExact" ∷ []

-- the word is the name of the operation with this number, which counts from 1
pub record IsNamed (number : ℕ) (word : List ℕ) : Type 0 where
  pub first : 1 ≤ number
  pub name : slice_get operation_names (number - 1) ≡ Some word
