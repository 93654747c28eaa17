-- Isomorphisms, split monos and split epis. Turn round for the other side.
use Rattle.cap_laws.specs.Linear.{CategoryData, IsLinear, Arrow, Same}
use Rattle.cap_laws.specs.Universal.{IsMono, IsEpi, IsSection, IsRetraction, IsSplitEpi, IsSplitMono, IsInverse, IsIso, IsZeroObject}
use Rattle.cap_laws.proofs.Calculus.{from-object, same, back, ◌⟫◌ as join, composed, assoc, unit-left, unit-right, zero-compose, compose-zero}
use Rattle.cap_laws.proofs.Opposite.{turn, turned, turn-same, turned-same, opposite-linear, opposite-iso}

module _ {Obj Mor : Type 0} {C : CategoryData Obj Mor} (L : IsLinear C) where
  infixr 5 ◌⟫◌
  ◌⟫◌ : {a b : Obj} {f g h : Mor} → Same C a b f g → Same C a b g h → Same C a b f h
  ◌⟫◌ s t = join L s t

  -- f·r = 1 makes f mono: u = u·f·r
  pub retraction-mono : {a b : Obj} {f r : Mor} → Arrow C a b f → Arrow C b a r → Same C a a (C.compose f r) (C.identity a) → IsMono C a b f
  retraction-mono F R e = record {
    arrow = F;
    cancel = λ U z. back L (unit-right L U) ⟫ composed L (same L U) (back L e) ⟫ back L (assoc L U F R) ⟫ composed L z (same L R) ⟫ zero-compose L (from-object L U) R;
  }

  -- a split mono is mono
  pub split-mono-is-mono : {a b : Obj} {f : Mor} → IsSplitMono C a b f → IsMono C a b f
  split-mono-is-mono s = retraction-mono (turned s.arrow) (turned s.is.arrow) (turned-same s.is.is)

  -- an isomorphism is a split mono and a split epi
  pub iso-splits-mono : {a b : Obj} {f : Mor} → IsIso C a b f → IsSplitMono C a b f
  iso-splits-mono h = record { arrow = turn h.arrow; section = h.inverse; is = record { arrow = turn h.is.arrow; is = turn-same h.is.left } }

  pub iso-splits-epi : {a b : Obj} {f : Mor} → IsIso C a b f → IsSplitEpi C a b f
  iso-splits-epi h = record { arrow = h.arrow; section = h.inverse; is = record { arrow = h.is.arrow; is = h.is.right } }

  pub iso-mono : {a b : Obj} {f : Mor} → IsIso C a b f → IsMono C a b f
  iso-mono h = split-mono-is-mono (iso-splits-mono h)

  -- s·f = 1 and f·r = 1 give s = r
  pub section-is-retraction : {a b : Obj} {f s r : Mor} → IsSection C a b f s → IsRetraction C a b f r → Arrow C a b f → Same C b a s r
  section-is-retraction S R F =
      let R' = turned R.arrow in
      back L (unit-right L S.arrow) ⟫ composed L (same L S.arrow) (back L (turned-same R.is)) ⟫ back L (assoc L S.arrow F R') ⟫ composed L S.is (same L R') ⟫ unit-left L R'

  -- so a morphism with both is an isomorphism, and an inverse is one alone
  pub iso-from-splits : {a b : Obj} {f : Mor} → IsSplitMono C a b f → IsSplitEpi C a b f → IsIso C a b f
  iso-from-splits {a} {b} {f} m e =
      let s = section-is-retraction e.is m.is e.arrow in
      record {
        arrow = e.arrow;
        inverse = e.section;
        is = record { arrow = e.is.arrow; left = composed L (same L e.arrow) s ⟫ turned-same m.is.is; right = e.is.is };
      }

  pub inverse-only : {a b : Obj} {f g h : Mor} → Arrow C a b f → IsInverse C a b f g → IsInverse C a b f h → Same C b a g h
  inverse-only F G H = section-is-retraction (record { arrow = G.arrow; is = G.right }) (record { arrow = turn H.arrow; is = turn-same H.left }) F

  pub inverse-iso : {a b : Obj} {f g : Mor} → Arrow C a b f → IsInverse C a b f g → IsIso C b a g
  inverse-iso {f = f} F G = record { arrow = G.arrow; inverse = f; is = record { arrow = F; left = G.right; right = G.left } }

  pub identity-iso : {a : Obj} → C.is_object a → IsIso C a a (C.identity a)
  identity-iso {a} o =
      let I = L.identity_arrow a o in
      record { arrow = I; inverse = C.identity a; is = record { arrow = I; left = unit-left L I; right = unit-left L I } }

  -- u·v·w·z = 1 where v·w = 1 and u·z = 1
  inner-cancel : {a b c : Obj} {u v w z : Mor} → Arrow C a b u → Arrow C b c v → Arrow C c b w → Arrow C b a z → Same C b b (C.compose v w) (C.identity b) → Same C a a (C.compose u z) (C.identity a) → Same C a a (C.compose (C.compose u v) (C.compose w z)) (C.identity a)
  inner-cancel U V W Z s t =
      assoc L U V (L.compose_arrow W Z)
      ⟫ composed L (same L U) (back L (assoc L V W Z) ⟫ composed L s (same L Z) ⟫ unit-left L Z)
      ⟫ t

  pub iso-composed : {a b c : Obj} {f g : Mor} → IsIso C a b f → IsIso C b c g → IsIso C a c (C.compose f g)
  iso-composed h k = record {
    arrow = L.compose_arrow h.arrow k.arrow;
    inverse = C.compose k.inverse h.inverse;
    is = record {
      arrow = L.compose_arrow k.is.arrow h.is.arrow;
      left = inner-cancel h.arrow k.arrow k.is.arrow h.is.arrow k.is.left h.is.left;
      right = inner-cancel k.is.arrow h.is.arrow h.arrow k.arrow h.is.right k.is.right;
    };
  }

  -- a composite of monos is mono, and so is the first factor of a mono
  pub mono-composed : {a b c : Obj} {f g : Mor} → IsMono C a b f → IsMono C b c g → IsMono C a c (C.compose f g)
  mono-composed M N = record {
    arrow = L.compose_arrow M.arrow N.arrow;
    cancel = λ U z. M.cancel U (N.cancel (L.compose_arrow U M.arrow) (assoc L U M.arrow N.arrow ⟫ z));
  }

  pub mono-first : {a b c : Obj} {f g : Mor} → Arrow C a b f → Arrow C b c g → IsMono C a c (C.compose f g) → IsMono C a b f
  mono-first F G M = record {
    arrow = F;
    cancel = λ U z. M.cancel U (back L (assoc L U F G) ⟫ composed L z (same L G) ⟫ zero-compose L (from-object L U) G);
  }

  -- a morphism into or out of a zero object is 0
  pub into-zero-object : {x z : Obj} {u : Mor} → IsZeroObject C z → Arrow C x z u → Same C x z u (C.zero x z)
  into-zero-object Z U = back L (unit-right L U) ⟫ composed L (same L U) Z.unit ⟫ compose-zero L U Z.object

  pub from-zero-object : {x z : Obj} {u : Mor} → IsZeroObject C z → Arrow C z x u → Same C z x u (C.zero z x)
  from-zero-object Z U = back L (unit-left L U) ⟫ composed L Z.unit (same L U) ⟫ zero-compose L Z.object U

-- the same from the other side
pub split-epi-is-epi : {Obj Mor : Type 0} {C : CategoryData Obj Mor} → IsLinear C → {a b : Obj} {f : Mor} → IsSplitEpi C a b f → IsEpi C a b f
split-epi-is-epi L s = split-mono-is-mono (opposite-linear L) s

pub iso-epi : {Obj Mor : Type 0} {C : CategoryData Obj Mor} → IsLinear C → {a b : Obj} {f : Mor} → IsIso C a b f → IsEpi C a b f
iso-epi L h = iso-mono (opposite-linear L) (opposite-iso h)
