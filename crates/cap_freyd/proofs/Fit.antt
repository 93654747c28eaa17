-- The block sum of two relations can be formed, and is a morphism.
use Rattle.std.proofs.Common.{sym, ◌∙◌}
use Rattle.cap_laws.specs.Linear.{CategoryData, IsLinear}
use Rattle.cap_laws.specs.declared.values.Sum.{Sum}
use Rattle.cap_laws.proofs.Blocks.{rows-arrow}
use Rattle.cap_freyd_laws.specs.Canonical.{HasSums, block_sum}
use Rattle.cap_freyd_laws.proofs.Linear.{relation}
use Rattle.cap_freyd.specs.Sizes.{RowsFit}

pub block-fits : {Obj Mor : Type 0} {C : CategoryData Obj Mor} (L : IsLinear C) → {sum : Obj → Obj → Sum Mor} → HasSums C sum → {a b : Mor} → C.is_morphism a → C.is_morphism b → RowsFit C (sum (C.source a) (C.source b)).p1 (sum (C.source a) (C.source b)).p2 (C.compose a (sum (C.target a) (C.target b)).i1) (C.compose b (sum (C.target a) (C.target b)).i2)
block-fits {Obj} {Mor} {C} L {sum} S {a} {b} p q =
    let D = S.is (C.target a) (C.target b) (L.target_object a p) (L.target_object b q) in
    let E = S.is (C.source a) (C.source b) (L.source_object a p) (L.source_object b q) in
    let f = L.compose_arrow (relation L p) D.in1 in
    let g = L.compose_arrow (relation L q) D.in2 in
    record {
      first = E.out1.is;
      second = E.out2.is;
      top = f.is;
      bottom = g.is;
      meet1 = E.out1.to ∙ sym f.from;
      meet2 = E.out2.to ∙ sym g.from;
      sources = E.out1.from ∙ sym E.out2.from;
      targets = f.to ∙ sym g.to;
    }

pub block-is : {Obj Mor : Type 0} {C : CategoryData Obj Mor} (L : IsLinear C) → {sum : Obj → Obj → Sum Mor} → HasSums C sum → {a b : Mor} → C.is_morphism a → C.is_morphism b → C.is_morphism (block_sum C sum a b)
block-is {Obj} {Mor} {C} L {sum} S {a} {b} p q =
    let D = S.is (C.target a) (C.target b) (L.target_object a p) (L.target_object b q) in
    let E = S.is (C.source a) (C.source b) (L.source_object a p) (L.source_object b q) in
    (rows-arrow L E (L.compose_arrow (relation L p) D.in1) (L.compose_arrow (relation L q) D.in2)).is
