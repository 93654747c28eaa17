-- The canonical objects and morphisms of the Freyd category, from direct sums, weak kernels and a solver below, each given as a function of data.
use Rattle.std.specs.Prelude.{List, [], ◌∷◌, Option, Some, None, unwrap_or}
use Rattle.cap_laws.specs.Linear.{CategoryData, Arrow}
use Rattle.cap_laws.specs.Factor.{rows}
use Rattle.cap_laws.specs.Universal.{IsDirectSum, IsWeakKernel, negate, subtract}
use Rattle.cap_laws.specs.Systems.{IsSystem, AnswersSystem, term_of, one_system, first_of}
use Rattle.cap_laws.specs.declared.values.Sum.{Sum}
use Rattle.cap_laws.specs.declared.values.System.{System}
use Rattle.cap_freyd_laws.specs.declared.values.Presentation.{Presentation}
use Rattle.cap_freyd_laws.specs.declared.values.PresentationMor.{PresentationMor}

-- the function gives a direct sum of each two objects
pub record HasSums {Obj Mor : Type 0} (C : CategoryData Obj Mor) (sum : Obj → Obj → Sum Mor) : Type 0 where
  pub is : (a b : Obj) → C.is_object a → C.is_object b → let d = sum a b in IsDirectSum C (C.target d.i1) a b d.i1 d.i2 d.p1 d.p2

-- it gives a weak kernel of each morphism
pub record HasWeakKernels {Obj Mor : Type 0} (C : CategoryData Obj Mor) (weak_kernel : Mor → Mor) : Type 0 where
  pub is : (a b : Obj) (f : Mor) → Arrow C a b f → IsWeakKernel C (C.source (weak_kernel f)) a b f (weak_kernel f)

-- it answers each system
pub record HasSolver {Obj Mor : Type 0} (C : CategoryData Obj Mor) (solve : System Obj Mor → Option (List Mor)) : Type 0 where
  pub is : (s : System Obj Mor) → IsSystem C s → AnswersSystem C s (solve s)

-- f above g, out of the direct sum of their sources
abbrev pub stack : {Obj Mor : Type 0} → CategoryData Obj Mor → (Obj → Obj → Sum Mor) → Mor → Mor → Mor
stack C sum f g = let d = sum (C.source f) (C.source g) in rows C d.p1 d.p2 f g

-- the weak kernel of f above g, cut after the source of f
abbrev pub preimage : {Obj Mor : Type 0} → CategoryData Obj Mor → (Obj → Obj → Sum Mor) → (Mor → Mor) → Mor → Mor → Mor
preimage C sum weak_kernel f g = C.compose (weak_kernel (stack C sum f g)) (sum (C.source f) (C.source g)).p1

-- the block sum of two relations: a in the first block, b in the second
abbrev pub block_sum : {Obj Mor : Type 0} → CategoryData Obj Mor → (Obj → Obj → Sum Mor) → Mor → Mor → Mor
block_sum C sum a b =
    let r = sum (C.source a) (C.source b) in
    let d = sum (C.target a) (C.target b) in
    rows C r.p1 r.p2 (C.compose a d.i1) (C.compose b d.i2)

-- the direct sum: the block sum of the relations, with the parts of the direct sum of their targets
abbrev pub freyd_sum : {Obj Mor : Type 0} → CategoryData Obj Mor → (Obj → Obj → Sum Mor) → Presentation Mor → Presentation Mor → Sum (PresentationMor Mor)
freyd_sum {Obj} {Mor} C sum a b =
    let d = sum (C.target a.relation) (C.target b.relation) in
    let s : Presentation Mor = record { relation = block_sum C sum a.relation b.relation } in
    record {
      i1 = record { from = a; to = s; alpha = d.i1 };
      i2 = record { from = b; to = s; alpha = d.i2 };
      p1 = record { from = s; to = a; alpha = d.p1 };
      p2 = record { from = s; to = b; alpha = d.p2 };
    }

-- the cokernel of f: a→b is the identity of b, onto the relation of b above f
abbrev pub cokernel_of : {Obj Mor : Type 0} → CategoryData Obj Mor → (Obj → Obj → Sum Mor) → PresentationMor Mor → PresentationMor Mor
cokernel_of C sum f = record { from = f.to; to = record { relation = stack C sum f.to.relation f.alpha }; alpha = C.identity (C.target f.to.relation) }

-- the kernel of f: a→b is the weak preimage i of the relation of b along f; its relations are the weak preimage of the relation of a along i
abbrev pub kernel_of : {Obj Mor : Type 0} → CategoryData Obj Mor → (Obj → Obj → Sum Mor) → (Mor → Mor) → PresentationMor Mor → PresentationMor Mor
kernel_of C sum weak_kernel f = record {
  from = record { relation = preimage C sum weak_kernel (preimage C sum weak_kernel f.alpha f.to.relation) f.from.relation };
  to = f.from;
  alpha = preimage C sum weak_kernel f.alpha f.to.relation;
}

-- omega: a·alpha = omega·b
abbrev pub morphism_system : {Obj Mor : Type 0} → CategoryData Obj Mor → Mor → Mor → Mor → System Obj Mor
morphism_system C a b alpha = one_system C (C.source a) (C.source b) b (C.compose a alpha)

-- sigma: f − g = sigma·b, for f and g between the relations a and b
abbrev pub congruence_system : {Obj Mor : Type 0} → CategoryData Obj Mor → Mor → Mor → Mor → Mor → System Obj Mor
congruence_system C a b f g = one_system C (C.target a) (C.source b) b (subtract C f g)

-- in three unknowns: l1·u·r1 + l2·s·r2 = v and l3·u·r3 + l4·w·r4 = z
abbrev pub three_system : {Obj Mor : Type 0} → Obj × Obj → Obj × Obj → Obj × Obj → Mor → Mor → Mor → Mor → Mor → Mor → Mor → Mor → Mor → Mor → System Obj Mor
three_system u s w l1 r1 l2 r2 v l3 r3 l4 r4 z = record {
  unknowns = u ∷ s ∷ w ∷ [];
  equations =
      record { terms = term_of l1 0 r1 ∷ term_of l2 1 r2 ∷ []; value = v }
      ∷ record { terms = term_of l3 0 r3 ∷ term_of l4 2 r4 ∷ []; value = z } ∷ [];
}

-- a lift u of t: x→b along f: a→b, the objects named by their relations: u·f + s·b = t and x·u − w·a = 0
abbrev pub lift_system : {Obj Mor : Type 0} → CategoryData Obj Mor → Mor → Mor → Mor → Mor → Mor → System Obj Mor
lift_system C x a b t f = three_system (C.target x, C.target a) (C.target x, C.source b) (C.source x, C.source a)
    (C.identity (C.target x)) f (C.identity (C.target x)) b t
    x (C.identity (C.target a)) (negate C (C.identity (C.source x))) a (C.zero (C.source x) (C.target a))

-- a colift u of t: c→x along f: c→a: f·u − s·x = t and a·u − w·x = 0
abbrev pub colift_system : {Obj Mor : Type 0} → CategoryData Obj Mor → Mor → Mor → Mor → Mor → Mor → System Obj Mor
colift_system C c a x f t = three_system (C.target a, C.target x) (C.target c, C.source x) (C.source a, C.source x)
    f (C.identity (C.target x)) (negate C (C.identity (C.target c))) x t
    a (C.identity (C.target x)) (negate C (C.identity (C.source a))) x (C.zero (C.source a) (C.target x))

-- an answer below, as one from a to b
abbrev pub between : {Mor : Type 0} → Presentation Mor → Presentation Mor → Option Mor → Option (PresentationMor Mor)
between a b (Some u) = Some (record { from = a; to = b; alpha = u })
between a b None = None

-- the lift and the colift are the first unknown of what the solver answers
abbrev pub lift_of : {Obj Mor : Type 0} → CategoryData Obj Mor → (System Obj Mor → Option (List Mor)) → PresentationMor Mor → PresentationMor Mor → Option (PresentationMor Mor)
lift_of C solve t f = between t.from f.from (first_of t.alpha (solve (lift_system C t.from.relation f.from.relation f.to.relation t.alpha f.alpha)))

abbrev pub colift_of : {Obj Mor : Type 0} → CategoryData Obj Mor → (System Obj Mor → Option (List Mor)) → PresentationMor Mor → PresentationMor Mor → Option (PresentationMor Mor)
colift_of C solve f t = between f.to t.to (first_of t.alpha (solve (colift_system C f.from.relation f.to.relation t.to.relation f.alpha t.alpha)))

-- the image of f: the kernel m of its cokernel, and the lift of f along m
abbrev pub image_embedding : {Obj Mor : Type 0} → CategoryData Obj Mor → (Obj → Obj → Sum Mor) → (Mor → Mor) → PresentationMor Mor → PresentationMor Mor
image_embedding C sum weak_kernel f = kernel_of C sum weak_kernel (cokernel_of C sum f)

abbrev pub image_of : {Obj Mor : Type 0} → CategoryData Obj Mor → (Obj → Obj → Sum Mor) → (Mor → Mor) → (System Obj Mor → Option (List Mor)) → PresentationMor Mor → PresentationMor Mor × PresentationMor Mor
image_of C sum weak_kernel solve f = let m = image_embedding C sum weak_kernel f in (unwrap_or (lift_of C solve f m) f, m)
