-- Direct sums and zero objects of the Freyd category.
use Rattle.std.proofs.Common.{sym, subst}
use Rattle.cap_laws.specs.Linear.{CategoryData, IsLinear, Same}
use Rattle.cap_laws.specs.Universal.{IsDirectSum, IsZeroObject}
use Rattle.cap_laws.specs.declared.values.Sum.{Sum}
use Rattle.cap_laws.proofs.Calculus.{from-object, to-object, same, back, ◌⟫◌ as join, composed, assoc, unit-right, compose-zero}
use Rattle.cap_laws.specs.Factor.{Through, rows}
use Rattle.cap_freyd_laws.specs.declared.values.Presentation.{Presentation}
use Rattle.cap_freyd_laws.specs.Freyd.{freyd_data}
use Rattle.cap_freyd_laws.specs.Canonical.{HasSums, freyd_sum}
use Rattle.cap_laws.proofs.Factor.{through-same, through-by, through-self, through-zero, modulo-same}
use Rattle.cap_freyd_laws.proofs.Linear.{relation, lifted, freyd-linear}
use Rattle.cap_freyd_laws.proofs.Bridge.{arrow-of, same-of, zero-of}
use Rattle.cap_laws.proofs.Blocks.{rows-arrow, in1-rows, in2-rows, rows-through}

module _ {Obj Mor : Type 0} {C : CategoryData Obj Mor} (L : IsLinear C) where
  infixr 5 ◌⟫◌
  ◌⟫◌ : {a b : Obj} {f g h : Mor} → Same C a b f g → Same C a b g h → Same C a b f h
  ◌⟫◌ s t = join L s t

  -- the block_sum sum of two relations, from direct sums of their sources and targets
  pub sum-from-blocks : {a b : Presentation Mor} {d e : Obj} {i1 i2 p1 p2 j1 j2 q1 q2 : Mor} → C.is_morphism a.relation → C.is_morphism b.relation → IsDirectSum C d (C.target a.relation) (C.target b.relation) i1 i2 p1 p2 → IsDirectSum C e (C.source a.relation) (C.source b.relation) j1 j2 q1 q2 → let rho : Presentation Mor = record { relation = rows C q1 q2 (C.compose a.relation i1) (C.compose b.relation i2) } in IsDirectSum (freyd_data C) rho a b (record { from = a; to = rho; alpha = i1 }) (record { from = b; to = rho; alpha = i2 }) (record { from = rho; to = a; alpha = p1 }) (record { from = rho; to = b; alpha = p2 })
  sum-from-blocks {a} {b} {d} {e} {i1} {i2} {p1} {p2} {j1} {j2} {q1} {q2} p q D E =
      let LF = freyd-linear L in
      let A = relation L p in
      let B = relation L q in
      let f = L.compose_arrow A D.in1 in
      let g = L.compose_arrow B D.in2 in
      let R = rows-arrow L E f g in
      let I1 = arrow-of L A R D.in1 (through-same L (back L (in1-rows L E f g)) (through-by L E.in1 R)) in
      let I2 = arrow-of L B R D.in2 (through-same L (back L (in2-rows L E f g)) (through-by L E.in2 R)) in
      let P1 = arrow-of L R A D.out1 (rows-through L E f g D.out1
      (through-same L (assoc L A D.in1 D.out1 ⟫ composed L (same L A) D.unit1 ⟫ unit-right L A) (through-self L A))
      (through-same L (assoc L B D.in2 D.out1 ⟫ composed L (same L B) D.zero21 ⟫ compose-zero L B (to-object L A)) (through-zero L (from-object L B) A))) in
      let P2 = arrow-of L R B D.out2 (rows-through L E f g D.out2
      (through-same L (assoc L A D.in1 D.out2 ⟫ composed L (same L A) D.zero12 ⟫ compose-zero L A (to-object L B)) (through-zero L (from-object L A) B))
      (through-same L (assoc L B D.in2 D.out2 ⟫ composed L (same L B) D.unit2 ⟫ unit-right L B) (through-self L B))) in
      record {
        in1 = I1;
        in2 = I2;
        out1 = P1;
        out2 = P2;
        unit1 = lifted L (LF.compose_arrow I1 P1) (LF.identity_arrow a p) D.unit1;
        unit2 = lifted L (LF.compose_arrow I2 P2) (LF.identity_arrow b q) D.unit2;
        zero12 = lifted L (LF.compose_arrow I1 P2) (LF.zero_arrow a b p q) D.zero12;
        zero21 = lifted L (LF.compose_arrow I2 P1) (LF.zero_arrow b a q p) D.zero21;
        total = same-of L R R (LF.add_arrow (LF.compose_arrow P1 I1) (LF.compose_arrow P2 I2)) (LF.identity_arrow (record { relation = rows C q1 q2 (C.compose a.relation i1) (C.compose b.relation i2) }) R.is)
            (modulo-same L R (subst (λ z. Same C d d (C.add (C.compose p1 i1) (C.compose p2 i2)) (C.identity z)) (sym R.to) D.total));
      }

  pub freyd-sums : {sum : Obj → Obj → Sum Mor} → HasSums C sum → HasSums (freyd_data C) (freyd_sum C sum)
  freyd-sums S = record {
    is = λ a b p q. sum-from-blocks p q (S.is (C.target a.relation) (C.target b.relation) (L.target_object a.relation p) (L.target_object b.relation q)) (S.is (C.source a.relation) (C.source b.relation) (L.source_object a.relation p) (L.source_object b.relation q));
  }

  -- the identity of an object, as a relation, is a zero object
  pub freyd-zero : (z : Obj) → C.is_object z → IsZeroObject (freyd_data C) (record { relation = C.identity z })
  freyd-zero z o =
      let E = L.identity_arrow z o in
      record {
        object = E.is;
        unit = zero-of L E E ((freyd-linear L).identity_arrow (record { relation = C.identity z }) E.is) (subst (λ y. Through C z z z (C.identity z) (C.identity y)) (sym E.to) (through-self L E));
      }
