-- Images, coimages, intersections and unions.
use Rattle.cap_laws.specs.Linear.{CategoryData, IsLinear, Arrow, Same}
use Rattle.cap_laws.specs.Factor.{Through}
use Rattle.cap_laws.specs.Universal.{opposite, Unique, Both, IsMono, IsEpi, IsKernel, IsCokernel, IsCoproduct, IsImage, IsCoimage, IsUnion, IsAbelian}
use Rattle.cap_laws.proofs.Calculus.{from-object, to-object, same, back, ◌⟫◌ as join, composed, assoc, unit-left, compose-zero, zero-compose}
use Rattle.cap_laws.proofs.Opposite.{turn, turned, turn-same, turned-same}
use Rattle.cap_laws.proofs.Textbook.{kernel-mono}
use Rattle.cap_laws.proofs.Isos.{mono-composed}
use Rattle.cap_laws.proofs.Unique.{mono-cancels}

module _ {Obj Mor : Type 0} {C : CategoryData Obj Mor} (L : IsLinear C) where
  infixr 5 ◌⟫◌
  ◌⟫◌ : {a b : Obj} {f g h : Mor} → Same C a b f g → Same C a b g h → Same C a b f h
  ◌⟫◌ s t = join L s t

  -- what is u·rho for a unique u factors through rho
  through-unique : {x r b : Obj} {rho alpha : Mor} → Arrow C r b rho → Unique C x r (λ u. Same C x b (C.compose u rho) alpha) → Through C x r b rho alpha
  through-unique R w = record { over = R; by = w.by; arrow = w.arrow; holds = back L w.holds }

  opposite-through : {x r b : Obj} {rho alpha : Mor} → Arrow (opposite C) r b rho → Unique (opposite C) x r (λ u. Same (opposite C) x b (C.compose rho u) alpha) → Through (opposite C) x r b rho alpha
  opposite-through R w = record { over = R; by = w.by; arrow = w.arrow; holds = turn-same (back L (turned-same w.holds)) }

  -- a kernel m of p factors through each kernel m' of p·v
  kernel-through : {b c d k x : Obj} {p v q m m' : Mor} → Arrow C b c p → Arrow C c d v → Same C b d (C.compose p v) q → IsKernel C k b c p m → IsKernel C x b d q m' → Through C k x b m' m
  kernel-through P V s K M' =
      through-unique M'.arrow
      (M'.lift K.arrow (composed L (same L K.arrow) (back L s) ⟫ back L (assoc L K.arrow P V) ⟫ composed L K.zero (same L V) ⟫ zero-compose L (from-object L K.arrow) V))

  -- a kernel m of a cokernel p of f factors through each kernel m' of a q with f·q = 0
  kernel-least : {a b c d k x : Obj} {f p m q m' : Mor} → IsCokernel C a b c f p → IsKernel C k b c p m → Arrow C b d q → IsKernel C x b d q m' → Same C a d (C.compose f q) (C.zero a d) → Through C k x b m' m
  kernel-least P K Q M' z =
      let v = P.lift (turn Q) (turn-same z) in
      kernel-through (turned P.arrow) (turned v.arrow) (turned-same v.holds) K M'

  -- and through each mono through which f factors
  image-least : {a b c k x : Obj} {f p m e' m' : Mor} → IsAbelian C → IsCokernel C a b c f p → IsKernel C k b c p m → Arrow C a x e' → IsMono C x b m' → Same C a b (C.compose e' m') f → Through C k x b m' m
  image-least A P K E M s =
      let H = A.cokernels.kernel (turn M.arrow) in
      let q = turned H.is.arrow in
      kernel-least P K q (A.kernels.mono_is_kernel M H.is)
      (composed L (back L s) (same L q) ⟫ assoc L E M.arrow q ⟫ composed L (same L E) (turned-same H.is.zero) ⟫ compose-zero L E (to-object L q))

  -- a kernel of a cokernel of f is an image of f
  pub image-from-kernel : {a b c k : Obj} {f p m e : Mor} → IsAbelian C → IsCokernel C a b c f p → IsKernel C k b c p m → Arrow C a k e → Same C a b (C.compose e m) f → IsImage C a k b f e m
  image-from-kernel A P K E s = record {
    first = E;
    mono = kernel-mono L (turned P.arrow) K;
    whole = s;
    least = λ E' M' s'. image-least A P K E' M' s';
  }

  -- the first part of an image is epi: a kernel j of t through which e factors has a right inverse
  pub image-epi : {a b k : Obj} {f e m : Mor} → IsAbelian C → IsImage C a k b f e m → IsEpi C a k e
  image-epi {a} {b} {k} A I = record {
    arrow = turn I.first;
    cancel = λ T' z.
        let T = turned T' in
        let H = A.kernels.kernel T in
        let w = H.is.lift I.first (turned-same z) in
        let v = I.least w.arrow (mono-composed L (kernel-mono L T H.is) I.mono) (back L (assoc L w.arrow H.is.arrow I.mono.arrow) ⟫ composed L w.holds (same L I.mono.arrow) ⟫ I.whole) in
        let vj = L.compose_arrow v.arrow H.is.arrow in
        let one = L.identity_arrow k (to-object L I.first) in
        let unit = mono-cancels L I.mono vj one (assoc L v.arrow H.is.arrow I.mono.arrow ⟫ back L v.holds ⟫ back L (unit-left L I.mono.arrow)) in
        turn-same (back L (unit-left L T) ⟫ composed L (back L unit) (same L T) ⟫ assoc L v.arrow H.is.arrow T ⟫ composed L (same L v.arrow) H.is.zero ⟫ compose-zero L v.arrow (to-object L T));
  }

  -- a kernel j of e' with f = e'·m' gives j·e = 0
  before-image : {a b k x l : Obj} {f e m e' m' j : Mor} → IsImage C a k b f e m → Arrow C a x e' → Arrow C x b m' → Same C a b (C.compose e' m') f → IsKernel C l a x e' j → Same C l k (C.compose j e) (C.zero l k)
  before-image I E M s K = I.mono.cancel (L.compose_arrow K.arrow I.first)
      (assoc L K.arrow I.first I.mono.arrow ⟫ composed L (same L K.arrow) (I.whole ⟫ back L s) ⟫ back L (assoc L K.arrow E M) ⟫ composed L K.zero (same L M) ⟫ zero-compose L (from-object L K.arrow) M)

  -- e factors through each epi e' with f = e'·m'
  coimage-least : {a b k x : Obj} {f e m e' m' : Mor} → IsAbelian C → IsImage C a k b f e m → IsEpi C a x e' → Arrow C x b m' → Same C a b (C.compose e' m') f → Through (opposite C) k x a e' e
  coimage-least A I E M s =
      let K = A.kernels.kernel (turned E.arrow) in
      opposite-through E.arrow ((A.cokernels.mono_is_kernel E K.is).lift (turn I.first) (turn-same (before-image I (turned E.arrow) M s K.is)))

  -- in an abelian category an image is a coimage
  pub coimage-from-image : {a b k : Obj} {f e m : Mor} → IsAbelian C → IsImage C a k b f e m → IsCoimage C a k b f e m
  coimage-from-image A I = record {
    first = turn I.mono.arrow;
    mono = image-epi A I;
    whole = turn-same I.whole;
    least = λ M' E' s. coimage-least A I E' (turned M') (turned-same s);
  }

  -- the second part of an image of w, where w has m and n as its parts out of a coproduct, is a union of m and n
  pub union-from-image : {u s a b c : Obj} {i1 i2 m n w e j : Mor} → IsCoproduct C a b s i1 i2 → Arrow C s c w → Both (opposite C) c a b i1 i2 m n w → IsImage C s u c w e j → IsUnion C u a b c m n j
  union-from-image {i1 = i1} {i2 = i2} {e = e} P W B I =
      let one = turned P.first in
      let two = turned P.second in
      let J = I.mono.arrow in
      record {
        mono = I.mono;
        first = record { over = J; by = C.compose i1 e; arrow = L.compose_arrow one I.first; holds = back L (turned-same B.first) ⟫ composed L (same L one) (back L I.whole) ⟫ back L (assoc L one I.first J) };
        second = record { over = J; by = C.compose i2 e; arrow = L.compose_arrow two I.first; holds = back L (turned-same B.second) ⟫ composed L (same L two) (back L I.whole) ⟫ back L (assoc L two I.first J) };
        least = λ M' s t.
            let z = P.pair (turn s.arrow) (turn t.arrow) in
            let Z = turned z.arrow in
            let zm = L.compose_arrow Z M'.arrow in
            let first = back L (assoc L one Z M'.arrow) ⟫ composed L (turned-same z.holds.first) (same L M'.arrow) ⟫ back L s.holds in
            let second = back L (assoc L two Z M'.arrow) ⟫ composed L (turned-same z.holds.second) (same L M'.arrow) ⟫ back L t.holds in
            let v = P.pair (turn (turned-same B.first).right) (turn (turned-same B.second).right) in
            I.least Z M' (turned-same (v.only (turn zm) (turn W) (record { first = turn-same first; second = turn-same second }) B));
      }
