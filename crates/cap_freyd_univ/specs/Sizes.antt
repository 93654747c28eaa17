-- The sizes that the computations of universal objects meet: those of the calls below that they make.
use Rattle.std.specs.Prelude.{ℕ, ◌⊎◌, ◌-◌}
use Rattle.cap_laws.specs.Answers.{Size}
use Rattle.cap_laws.specs.Linear.{CategoryData}
use Rattle.cap_laws.specs.declared.values.Sum.{Sum}
use Rattle.cap_freyd.specs.Sizes.{rows_meets}
use Rattle.cap_freyd_laws.specs.declared.values.PresentationMor.{PresentationMor}
use Rattle.cap_freyd_laws.specs.Canonical.{stack, preimage}

-- met by f above g, from those met by direct sums, composites and sums
abbrev pub stack_meets : {Obj Mor : Type 0} → CategoryData Obj Mor → (Obj → Obj → Sum Mor) → (Obj → Obj → Size → Type 0) → (Mor → Mor → Size → Type 0) → (Mor → Mor → Size → Type 0) → Mor → Mor → Size → Type 0
stack_meets C sum sums compose add f g s =
    sums (C.source f) (C.source g) s ⊎ rows_meets C compose add (sum (C.source f) (C.source g)).p1 (sum (C.source f) (C.source g)).p2 f g s

-- met by the weak kernel of f above g, cut after the source of f
abbrev pub preimage_meets : {Obj Mor : Type 0} → CategoryData Obj Mor → (Obj → Obj → Sum Mor) → (Mor → Mor) → (Obj → Obj → Size → Type 0) → (Mor → Mor → Size → Type 0) → (Mor → Mor → Size → Type 0) → (Mor → Size → Type 0) → Mor → Mor → Size → Type 0
preimage_meets C sum weak_kernel sums compose add weak f g s =
    (stack_meets C sum sums compose add f g s ⊎ weak (stack C sum f g) s) ⊎ compose (weak_kernel (stack C sum f g)) (sum (C.source f) (C.source g)).p1 s

-- met by the kernel of f: two weak preimages
abbrev pub kernel_meets : {Obj Mor : Type 0} → CategoryData Obj Mor → (Obj → Obj → Sum Mor) → (Mor → Mor) → (Obj → Obj → Size → Type 0) → (Mor → Mor → Size → Type 0) → (Mor → Mor → Size → Type 0) → (Mor → Size → Type 0) → PresentationMor Mor → Size → Type 0
kernel_meets C sum weak_kernel sums compose add weak f s =
    preimage_meets C sum weak_kernel sums compose add weak f.alpha f.to.relation s
    ⊎ preimage_meets C sum weak_kernel sums compose add weak (preimage C sum weak_kernel f.alpha f.to.relation) f.from.relation s

-- met by the cokernel of f: one morphism above another, and an identity
abbrev pub cokernel_meets : {Obj Mor : Type 0} → CategoryData Obj Mor → (Obj → Obj → Sum Mor) → (Obj → Obj → Size → Type 0) → (Mor → Mor → Size → Type 0) → (Mor → Mor → Size → Type 0) → (Obj → Size → Type 0) → PresentationMor Mor → Size → Type 0
cokernel_meets C sum sums compose add identity f s = stack_meets C sum sums compose add f.to.relation f.alpha s ⊎ identity (C.target f.to.relation) s

-- met by −1 at p
abbrev pub minus_meets : {Obj Mor : Type 0} → CategoryData Obj Mor → (Obj → Size → Type 0) → (ℕ → Mor → Size → Type 0) → Obj → Size → Type 0
minus_meets C identity scale p s = identity p s ⊎ scale (C.prime - 1) (C.identity p) s

-- met by the factors 1 at y and −1 at p
abbrev pub factors_meet : {Obj Mor : Type 0} → CategoryData Obj Mor → (Obj → Size → Type 0) → (ℕ → Mor → Size → Type 0) → Obj → Obj → Size → Type 0
factors_meet C identity scale y p s = identity y s ⊎ minus_meets C identity scale p s

-- met by the equations of a lift of t along f
abbrev pub lift_equations_meet : {Obj Mor : Type 0} → CategoryData Obj Mor → (Obj → Size → Type 0) → (ℕ → Mor → Size → Type 0) → (Obj → Obj → Size → Type 0) → PresentationMor Mor → PresentationMor Mor → Size → Type 0
lift_equations_meet C identity scale zero t f s =
    let x = t.from.relation in
    let a = f.from.relation in
    identity (C.target x) s ⊎ (zero (C.source x) (C.target a) s ⊎ factors_meet C identity scale (C.target a) (C.source x) s)

-- met by those of a colift of t along f
abbrev pub colift_equations_meet : {Obj Mor : Type 0} → CategoryData Obj Mor → (Obj → Size → Type 0) → (ℕ → Mor → Size → Type 0) → (Obj → Obj → Size → Type 0) → PresentationMor Mor → PresentationMor Mor → Size → Type 0
colift_equations_meet C identity scale zero f t s =
    let a = f.to.relation in
    let x = t.to.relation in
    factors_meet C identity scale (C.target x) (C.target f.from.relation) s ⊎ (zero (C.source a) (C.target x) s ⊎ factors_meet C identity scale (C.target x) (C.source a) s)
