-- The numbers of the 44 operations beside their names: this project's own.
use Rattle.std.specs.Prelude.{ℕ, List, [], ◌∷◌, map, codes, Contains}
use Rattle.cap_names.specs.declared.identifiers.OpId.{OpId}
use Rattle.cap_ops.specs.Operations.{Identity, Compose, Zero, Add, Negate, Subtract, Scale, IsCongruent, IsZero, ZeroObject, DirectSum, Product, Coproduct, Pair, Copair, Kernel, KernelLift, Cokernel, CokernelColift, WeakKernel, WeakCokernel, Lift, Colift, IsMono, IsEpi, IsIso, IsSplitMono, IsSplitEpi, Inverse, Section, Retraction, Equalizer, Coequalizer, Pullback, Pushout, Image, Coimage, KernelMap, CokernelMap, Intersection, Union, IsSubobject, Homology, IsExact}
use Rattle.cap_ops.specs.declared.operations.TheConstants.{IDENTITY, COMPOSE, ZERO, ADD, NEGATE, SUBTRACT, SCALE, IS_CONGRUENT, IS_ZERO, ZERO_OBJECT, DIRECT_SUM, PRODUCT, COPRODUCT, PAIR, COPAIR, KERNEL, KERNEL_LIFT, COKERNEL, COKERNEL_COLIFT, WEAK_KERNEL, WEAK_COKERNEL, LIFT, COLIFT, IS_MONO, IS_EPI, IS_ISO, IS_SPLIT_MONO, IS_SPLIT_EPI, INVERSE, SECTION, RETRACTION, EQUALIZER, COEQUALIZER, PULLBACK, PUSHOUT, IMAGE, COIMAGE, KERNEL_MAP, COKERNEL_MAP, INTERSECTION, UNION, IS_SUBOBJECT, HOMOLOGY, IS_EXACT}

-- a line for an operation: its number, its name in scripts and certificates, the definitions' word for it, and the code's constant
pub record TableLine : Type 0 where
  pub number : ℕ
  pub name : List ℕ
  pub word : OpId
  pub constant : OpId

abbrev pub line : ℕ → List ℕ → OpId → OpId → TableLine
line number name word constant = record { number = number; name = name; word = word; constant = constant }

-- the table
abbrev pub numbered : List TableLine
numbered =
    line 1 (codes "Identity") Identity IDENTITY
    ∷ line 2 (codes "Compose") Compose COMPOSE
    ∷ line 3 (codes "Zero") Zero ZERO
    ∷ line 4 (codes "Add") Add ADD
    ∷ line 5 (codes "Negate") Negate NEGATE
    ∷ line 6 (codes "Subtract") Subtract SUBTRACT
    ∷ line 7 (codes "Scale") Scale SCALE
    ∷ line 8 (codes "IsCongruent") IsCongruent IS_CONGRUENT
    ∷ line 9 (codes "IsZero") IsZero IS_ZERO
    ∷ line 10 (codes "ZeroObject") ZeroObject ZERO_OBJECT
    ∷ line 11 (codes "DirectSum") DirectSum DIRECT_SUM
    ∷ line 12 (codes "Product") Product PRODUCT
    ∷ line 13 (codes "Coproduct") Coproduct COPRODUCT
    ∷ line 14 (codes "Pair") Pair PAIR
    ∷ line 15 (codes "Copair") Copair COPAIR
    ∷ line 16 (codes "Kernel") Kernel KERNEL
    ∷ line 17 (codes "KernelLift") KernelLift KERNEL_LIFT
    ∷ line 18 (codes "Cokernel") Cokernel COKERNEL
    ∷ line 19 (codes "CokernelColift") CokernelColift COKERNEL_COLIFT
    ∷ line 20 (codes "WeakKernel") WeakKernel WEAK_KERNEL
    ∷ line 21 (codes "WeakCokernel") WeakCokernel WEAK_COKERNEL
    ∷ line 22 (codes "Lift") Lift LIFT
    ∷ line 23 (codes "Colift") Colift COLIFT
    ∷ line 24 (codes "IsMono") IsMono IS_MONO
    ∷ line 25 (codes "IsEpi") IsEpi IS_EPI
    ∷ line 26 (codes "IsIso") IsIso IS_ISO
    ∷ line 27 (codes "IsSplitMono") IsSplitMono IS_SPLIT_MONO
    ∷ line 28 (codes "IsSplitEpi") IsSplitEpi IS_SPLIT_EPI
    ∷ line 29 (codes "Inverse") Inverse INVERSE
    ∷ line 30 (codes "Section") Section SECTION
    ∷ line 31 (codes "Retraction") Retraction RETRACTION
    ∷ line 32 (codes "Equalizer") Equalizer EQUALIZER
    ∷ line 33 (codes "Coequalizer") Coequalizer COEQUALIZER
    ∷ line 34 (codes "Pullback") Pullback PULLBACK
    ∷ line 35 (codes "Pushout") Pushout PUSHOUT
    ∷ line 36 (codes "Image") Image IMAGE
    ∷ line 37 (codes "Coimage") Coimage COIMAGE
    ∷ line 38 (codes "KernelMap") KernelMap KERNEL_MAP
    ∷ line 39 (codes "CokernelMap") CokernelMap COKERNEL_MAP
    ∷ line 40 (codes "Intersection") Intersection INTERSECTION
    ∷ line 41 (codes "Union") Union UNION
    ∷ line 42 (codes "IsSubobject") IsSubobject IS_SUBOBJECT
    ∷ line 43 (codes "Homology") Homology HOMOLOGY
    ∷ line 44 (codes "IsExact") IsExact IS_EXACT
    ∷ []

-- a line of the table has this number and this name
abbrev pub numbers_and_names : List (ℕ × List ℕ)
numbers_and_names = map (λ l. (l.number, l.name)) numbered

abbrev pub IsNumbered : ℕ → List ℕ → Type 0
IsNumbered number name = Contains numbers_and_names (number, name)
