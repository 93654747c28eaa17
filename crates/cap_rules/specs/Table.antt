-- The 59 derivation rules, in order of number.
use Rattle.std.specs.Prelude.{◌≡◌, ℕ, List, [], ◌∷◌, All, filter, map}
use Rattle.cap_ops.specs.Operations.{Identity, Compose, Zero, Add, Negate, Subtract, Scale, IsCongruent, IsZero, ZeroObject, DirectSum, Product, Coproduct, Pair, Copair, Kernel, KernelLift, Cokernel, CokernelColift, WeakKernel, WeakCokernel, Lift, Colift, IsMono, IsEpi, IsIso, IsSplitMono, IsSplitEpi, Inverse, Section, Retraction, Equalizer, Coequalizer, Pullback, Pushout, Image, Coimage, KernelMap, CokernelMap, Intersection, Union, IsSubobject, Homology, IsExact}
use Rattle.cap_terms.specs.declared.body.Rule.{Rule}
use Rattle.cap_terms.specs.Rules.{all_occurrences}
use Rattle.cap_terms.specs.Typing.{Typed}
use Rattle.cap_rules.specs.Lines.{Line, src, tgt, ◌·◌, minus_one, exists, both, when, tuple, call0, call1, call2, call4, ◌>>=◌, head1, head2, head3, head4, abelian, rules_from}

abbrev pub lines : List Line
lines =
    -- 1 Negate(f): Scale(−1, f)
    head1 Negate (λ f. call2 Scale minus_one f)
    -- 2 Subtract(f, g): Add(f, Negate(g))
    ∷ head2 Subtract (λ f g. call2 Add f (call1 Negate g))
    -- 3 Add(f, g): Subtract(f, Negate(g))
    ∷ head2 Add (λ f g. call2 Subtract f (call1 Negate g))
    -- 4 Negate(f): Subtract(Zero(src f, tgt f), f)
    ∷ head1 Negate (λ f. call2 Subtract (call2 Zero (src f) (tgt f)) f)
    -- 5 Zero(a, b): D = DirectSum(a, b); Compose(D.1, D.4)
    ∷ head2 Zero (λ a b. do
      D ← call2 DirectSum a b
      call2 Compose (D · 1) (D · 4))
    -- 6 IsZero(f): IsCongruent(f, Zero(src f, tgt f))
    ∷ head1 IsZero (λ f. call2 IsCongruent f (call2 Zero (src f) (tgt f)))
    -- 7 IsCongruent(f, g): IsZero(Subtract(f, g))
    ∷ head2 IsCongruent (λ f g. call1 IsZero (call2 Subtract f g))
    -- 8 Identity(a): D = DirectSum(a, a); Compose(D.1, D.3)
    ∷ head1 Identity (λ a. do
      D ← call2 DirectSum a a
      call2 Compose (D · 1) (D · 3))
    -- 9 Product(a, b): D = DirectSum(a, b); (D.3, D.4)
    ∷ head2 Product (λ a b. do
      D ← call2 DirectSum a b
      tuple (D · 3 ∷ D · 4 ∷ []))
    -- 10 Coproduct(a, b): D = DirectSum(a, b); (D.1, D.2)
    ∷ head2 Coproduct (λ a b. do
      D ← call2 DirectSum a b
      tuple (D · 1 ∷ D · 2 ∷ []))
    -- 11 DirectSum(a, b): P = Product(a, b); i = Pair(P.1, P.2, Identity(a), Zero(a, b)); j = Pair(P.1, P.2, Zero(b, a), Identity(b)); (i, j, P.1, P.2)
    ∷ head2 DirectSum (λ a b. do
      P ← call2 Product a b
      i ← call4 Pair (P · 1) (P · 2) (call1 Identity a) (call2 Zero a b)
      j ← call4 Pair (P · 1) (P · 2) (call2 Zero b a) (call1 Identity b)
      tuple (i ∷ j ∷ P · 1 ∷ P · 2 ∷ []))
    -- 12 DirectSum(a, b): C = Coproduct(a, b); p = Copair(C.1, C.2, Identity(a), Zero(b, a)); q = Copair(C.1, C.2, Zero(a, b), Identity(b)); (C.1, C.2, p, q)
    ∷ head2 DirectSum (λ a b. do
      C ← call2 Coproduct a b
      p ← call4 Copair (C · 1) (C · 2) (call1 Identity a) (call2 Zero b a)
      q ← call4 Copair (C · 1) (C · 2) (call2 Zero a b) (call1 Identity b)
      tuple (C · 1 ∷ C · 2 ∷ p ∷ q ∷ []))
    -- 13 Pair(p, q, u, v): D = DirectSum(tgt p, tgt q); m = Add(Compose(p, D.1), Compose(q, D.2)); n = Add(Compose(u, D.1), Compose(v, D.2)); Lift(n, m)
    ∷ head4 Pair (λ p q u v. do
      D ← call2 DirectSum (tgt p) (tgt q)
      m ← call2 Add (call2 Compose p (D · 1)) (call2 Compose q (D · 2))
      n ← call2 Add (call2 Compose u (D · 1)) (call2 Compose v (D · 2))
      call2 Lift n m)
    -- 14 Copair(i, j, u, v): D = DirectSum(src i, src j); m = Add(Compose(D.3, i), Compose(D.4, j)); n = Add(Compose(D.3, u), Compose(D.4, v)); Colift(m, n)
    ∷ head4 Copair (λ i j u v. do
      D ← call2 DirectSum (src i) (src j)
      m ← call2 Add (call2 Compose (D · 3) i) (call2 Compose (D · 4) j)
      n ← call2 Add (call2 Compose (D · 3) u) (call2 Compose (D · 4) v)
      call2 Colift m n)
    -- 15 Lift(t, f): Pair(f, f, t, t)
    ∷ head2 Lift (λ t f. call4 Pair f f t t)
    -- 16 Colift(f, t): Copair(f, f, t, t)
    ∷ head2 Colift (λ f t. call4 Copair f f t t)
    -- 17 Kernel(f): Equalizer(f, Zero(src f, tgt f))
    ∷ head1 Kernel (λ f. call2 Equalizer f (call2 Zero (src f) (tgt f)))
    -- 18 Cokernel(f): Coequalizer(f, Zero(src f, tgt f))
    ∷ head1 Cokernel (λ f. call2 Coequalizer f (call2 Zero (src f) (tgt f)))
    -- 19 Equalizer(f, g): Kernel(Subtract(f, g))
    ∷ head2 Equalizer (λ f g. call1 Kernel (call2 Subtract f g))
    -- 20 Coequalizer(f, g): Cokernel(Subtract(f, g))
    ∷ head2 Coequalizer (λ f g. call1 Cokernel (call2 Subtract f g))
    -- 21 Pullback(f, g): D = DirectSum(src f, src g); i = Kernel(Subtract(Compose(D.3, f), Compose(D.4, g))); (Compose(i, D.3), Compose(i, D.4))
    ∷ head2 Pullback (λ f g. do
      D ← call2 DirectSum (src f) (src g)
      i ← call1 Kernel (call2 Subtract (call2 Compose (D · 3) f) (call2 Compose (D · 4) g))
      tuple (call2 Compose i (D · 3) ∷ call2 Compose i (D · 4) ∷ []))
    -- 22 Pushout(f, g): D = DirectSum(tgt f, tgt g); p = Cokernel(Subtract(Compose(f, D.1), Compose(g, D.2))); (Compose(D.1, p), Compose(D.2, p))
    ∷ head2 Pushout (λ f g. do
      D ← call2 DirectSum (tgt f) (tgt g)
      p ← call1 Cokernel (call2 Subtract (call2 Compose f (D · 1)) (call2 Compose g (D · 2)))
      tuple (call2 Compose (D · 1) p ∷ call2 Compose (D · 2) p ∷ []))
    -- 23 Pullback(f, g): P = Product(src f, src g); e = Equalizer(Compose(P.1, f), Compose(P.2, g)); (Compose(e, P.1), Compose(e, P.2))
    ∷ head2 Pullback (λ f g. do
      P ← call2 Product (src f) (src g)
      e ← call2 Equalizer (call2 Compose (P · 1) f) (call2 Compose (P · 2) g)
      tuple (call2 Compose e (P · 1) ∷ call2 Compose e (P · 2) ∷ []))
    -- 24 Pushout(f, g): C = Coproduct(tgt f, tgt g); q = Coequalizer(Compose(f, C.1), Compose(g, C.2)); (Compose(C.1, q), Compose(C.2, q))
    ∷ head2 Pushout (λ f g. do
      C ← call2 Coproduct (tgt f) (tgt g)
      q ← call2 Coequalizer (call2 Compose f (C · 1)) (call2 Compose g (C · 2))
      tuple (call2 Compose (C · 1) q ∷ call2 Compose (C · 2) q ∷ []))
    -- 25 Kernel(f): Z = ZeroObject(); P = Pullback(f, Zero(src Z, tgt f)); P.1
    ∷ head1 Kernel (λ f. do
      Z ← call0 ZeroObject
      P ← call2 Pullback f (call2 Zero (src Z) (tgt f))
      P · 1)
    -- 26 Cokernel(f): Z = ZeroObject(); P = Pushout(f, Zero(src f, src Z)); P.1
    ∷ head1 Cokernel (λ f. do
      Z ← call0 ZeroObject
      P ← call2 Pushout f (call2 Zero (src f) (src Z))
      P · 1)
    -- 27 WeakKernel(f): Kernel(f)
    ∷ head1 WeakKernel (λ f. call1 Kernel f)
    -- 28 WeakCokernel(f): Cokernel(f)
    ∷ head1 WeakCokernel (λ f. call1 Cokernel f)
    -- 29 KernelLift(i, t): Lift(t, i)
    ∷ head2 KernelLift (λ i t. call2 Lift t i)
    -- 30 CokernelColift(p, t): Colift(p, t)
    ∷ head2 CokernelColift (λ p t. call2 Colift p t)
    -- 31 IsMono(f): IsZero(Kernel(f))
    ∷ head1 IsMono (λ f. call1 IsZero (call1 Kernel f))
    -- 32 IsEpi(f): IsZero(Cokernel(f))
    ∷ head1 IsEpi (λ f. call1 IsZero (call1 Cokernel f))
    -- 33 IsMono(f): P = Pullback(f, f); IsCongruent(P.1, P.2)
    ∷ head1 IsMono (λ f. do
      P ← call2 Pullback f f
      call2 IsCongruent (P · 1) (P · 2))
    -- 34 IsEpi(f): P = Pushout(f, f); IsCongruent(P.1, P.2)
    ∷ head1 IsEpi (λ f. do
      P ← call2 Pushout f f
      call2 IsCongruent (P · 1) (P · 2))
    -- 35 IsMono(f): IsZero(WeakKernel(f))
    ∷ head1 IsMono (λ f. call1 IsZero (call1 WeakKernel f))
    -- 36 IsEpi(f): IsZero(WeakCokernel(f))
    ∷ head1 IsEpi (λ f. call1 IsZero (call1 WeakCokernel f))
    -- 37 IsIso(f): exists Inverse(f)
    ∷ head1 IsIso (λ f. exists (call1 Inverse f))
    -- 38, abelian: IsIso(f): both IsMono(f) IsEpi(f)
    ∷ abelian (head1 IsIso (λ f. both (call1 IsMono f) (call1 IsEpi f)))
    -- 39 IsIso(f): both IsSplitMono(f) IsSplitEpi(f)
    ∷ head1 IsIso (λ f. both (call1 IsSplitMono f) (call1 IsSplitEpi f))
    -- 40 IsSplitMono(f): exists Retraction(f)
    ∷ head1 IsSplitMono (λ f. exists (call1 Retraction f))
    -- 41 IsSplitEpi(f): exists Section(f)
    ∷ head1 IsSplitEpi (λ f. exists (call1 Section f))
    -- 42 Section(f): Lift(Identity(tgt f), f)
    ∷ head1 Section (λ f. call2 Lift (call1 Identity (tgt f)) f)
    -- 43 Retraction(f): Colift(f, Identity(src f))
    ∷ head1 Retraction (λ f. call2 Colift f (call1 Identity (src f)))
    -- 44 Inverse(f): s = Section(f); c = IsCongruent(Compose(f, s), Identity(src f)); when c s
    ∷ head1 Inverse (λ f. do
      s ← call1 Section f
      c ← call2 IsCongruent (call2 Compose f s) (call1 Identity (src f))
      when c s)
    -- 45 Inverse(f): r = Retraction(f); c = IsCongruent(Compose(r, f), Identity(tgt f)); when c r
    ∷ head1 Inverse (λ f. do
      r ← call1 Retraction f
      c ← call2 IsCongruent (call2 Compose r f) (call1 Identity (tgt f))
      when c r)
    -- 46, abelian: Image(f): m = Kernel(Cokernel(f)); e = KernelLift(m, f); (e, m)
    ∷ abelian (head1 Image (λ f. do
      m ← call1 Kernel (call1 Cokernel f)
      e ← call2 KernelLift m f
      tuple (e ∷ m ∷ [])))
    -- 47, abelian: Coimage(f): e = Cokernel(Kernel(f)); m = CokernelColift(e, f); (e, m)
    ∷ abelian (head1 Coimage (λ f. do
      e ← call1 Cokernel (call1 Kernel f)
      m ← call2 CokernelColift e f
      tuple (e ∷ m ∷ [])))
    -- 48, abelian: Image(f): Coimage(f)
    ∷ abelian (head1 Image (λ f. call1 Coimage f))
    -- 49, abelian: Coimage(f): Image(f)
    ∷ abelian (head1 Coimage (λ f. call1 Image f))
    -- 50 KernelMap(i, h, j): KernelLift(j, Compose(i, h))
    ∷ head3 KernelMap (λ i h j. call2 KernelLift j (call2 Compose i h))
    -- 51 CokernelMap(p, h, q): CokernelColift(p, Compose(h, q))
    ∷ head3 CokernelMap (λ p h q. call2 CokernelColift p (call2 Compose h q))
    -- 52 Intersection(m, n): P = Pullback(m, n); Compose(P.1, m)
    ∷ head2 Intersection (λ m n. do
      P ← call2 Pullback m n
      call2 Compose (P · 1) m)
    -- 53 Union(m, n): C = Coproduct(src m, src n); I = Image(Copair(C.1, C.2, m, n)); I.2
    ∷ head2 Union (λ m n. do
      C ← call2 Coproduct (src m) (src n)
      I ← call1 Image (call4 Copair (C · 1) (C · 2) m n)
      I · 2)
    -- 54 IsSubobject(m, n): exists Lift(m, n)
    ∷ head2 IsSubobject (λ m n. exists (call2 Lift m n))
    -- 55 Homology(f, g): i = Kernel(g); p = Cokernel(KernelLift(i, f)); (i, p)
    ∷ head2 Homology (λ f g. do
      i ← call1 Kernel g
      p ← call1 Cokernel (call2 KernelLift i f)
      tuple (i ∷ p ∷ []))
    -- 56 IsExact(f, g): both IsZero(Compose(f, g)) IsZero(Compose(Kernel(g), Cokernel(f)))
    ∷ head2 IsExact (λ f g. both (call1 IsZero (call2 Compose f g)) (call1 IsZero (call2 Compose (call1 Kernel g) (call1 Cokernel f))))
    -- 57 IsExact(f, g): both IsZero(Compose(f, g)) IsZero(Compose(WeakKernel(g), WeakCokernel(f)))
    ∷ head2 IsExact (λ f g. both (call1 IsZero (call2 Compose f g)) (call1 IsZero (call2 Compose (call1 WeakKernel g) (call1 WeakCokernel f))))
    -- 58 Equalizer(f, g): D = DirectSum(src f, tgt f); P = Pullback(Add(D.1, Compose(f, D.2)), Add(D.1, Compose(g, D.2))); P.1
    ∷ head2 Equalizer (λ f g. do
      D ← call2 DirectSum (src f) (tgt f)
      P ← call2 Pullback (call2 Add (D · 1) (call2 Compose f (D · 2))) (call2 Add (D · 1) (call2 Compose g (D · 2)))
      P · 1)
    -- 59 Coequalizer(f, g): D = DirectSum(src f, tgt f); P = Pushout(Add(D.4, Compose(D.3, f)), Add(D.4, Compose(D.3, g))); P.1
    ∷ head2 Coequalizer (λ f g. do
      D ← call2 DirectSum (src f) (tgt f)
      P ← call2 Pushout (call2 Add (D · 4) (call2 Compose (D · 3) f)) (call2 Add (D · 4) (call2 Compose (D · 3) g))
      P · 1)
    ∷ []

-- the rules with their numbers
abbrev pub rule_table : List Rule
rule_table = rules_from 1 lines

-- the numbers of the rules that are marked
abbrev pub marked_numbers : List Rule → List ℕ
marked_numbers rules = map (λ r. r.cost.no.0) (filter (λ r. r.cost.abelian) rules)

-- each rule is typed
abbrev pub AreTyped : List Rule → Type 0
AreTyped rules = All (λ r. Typed r.cost.head.0 r.body) rules

-- each rule costs every operation as often as its body calls it
abbrev pub AreCounted : List Rule → Type 0
AreCounted rules = All (λ r. r.cost.calls ≡ all_occurrences r.body.steps) rules
