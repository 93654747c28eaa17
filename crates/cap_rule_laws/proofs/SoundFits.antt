-- Meanings agree with the table of sorts and ends.
use Rattle.std.proofs.Common.{◌≡◌, ℕ, zero, suc, ◌<◌, ◌≤◌, List, [], ◌∷◌, ◌⊎◌, inl, inr, refl, sym, ap, arith, length}
use Rattle.std.specs.Prelude.{Option, Some, slice_get, unwrap_or}
use Rattle.cap_laws.specs.Linear.{CategoryData, Arrow}
use Rattle.cap_laws.proofs.Opposite.{turned}
use Rattle.cap_ops.specs.declared.ends.Shape.{Shape}
use Rattle.cap_ops.specs.declared.ends.Shape.TheVariants.{Object, Morphism, Truth, Scalar}
use Rattle.cap_ops.specs.Ends.{Profile, profiles, profile_of, takes}
use Rattle.cap_ops.specs.Values.{Value, object, morphism, scalar, none, HasEnds, HasShape, HaveShapes}
use Rattle.cap_ops.specs.Meaning.{Line, takes_object, takes_morphism, takes_scalar, answers, MeansBy, lines, line_at, setting_of}
use Rattle.cap_rule_laws.specs.SoundnessFits.{AreData, MeaningFits}
use Rattle.cap_rule_laws.proofs.SoundTyped.{Each, each-gives}

module _ {Obj Mor : Type 0} (C : CategoryData Obj Mor) where
  -- the sort and ends of the arguments and of the answer, at some objects for the letters
  record FitsLine (p : Profile) (args : List (Value Obj Mor)) (v : Value Obj Mor) : Type 0 where
    objects : ℕ → Option Obj
    arguments : HaveShapes (setting_of C) objects p.arguments args
    answer : (v ≡ none) ⊎ HasShape (setting_of C) objects p.answer v

  -- the ends of arguments that fit
  abbrev FitOn : (ℕ → Option Obj) → List (Shape ℕ) → Line Obj Mor → Type 0
  FitOn o (Object x ∷ ss) (takes_object l) = (a : Obj) → C.is_object a → o x ≡ Some a → FitOn o ss (l a)
  FitOn o (Morphism d ∷ ss) (takes_morphism l) = (f : Mor) → C.is_morphism f → HasEnds (setting_of C) o d f → FitOn o ss (l f)
  FitOn o (Scalar ∷ ss) (takes_scalar l) = (n : ℕ) → FitOn o ss (l n)
  FitOn o [] (answers E claim) = E
  FitOn o _ _ = ⊥

  -- what is to be shown of the answers that meet the claim
  abbrev EachOn : Line Obj Mor → (List (Value Obj Mor) → Value Obj Mor → Type 0) → Type 0
  EachOn (takes_object l) K = (a : Obj) → EachOn (l a) (λ args v. K (object a ∷ args) v)
  EachOn (takes_morphism l) K = (f : Mor) → EachOn (l f) (λ args v. K (morphism f ∷ args) v)
  EachOn (takes_scalar l) K = (n : ℕ) → EachOn (l n) (λ args v. K (scalar n ∷ args) v)
  EachOn (answers E claim) K = (e : E) → Each (claim e) (λ v. K [] v)

  line-gives : (o : ℕ → Option Obj) (ss : List (Shape ℕ)) (l : Line Obj Mor) (K : List (Value Obj Mor) → Value Obj Mor → Type 0) → FitOn o ss l → EachOn l K → (args : List (Value Obj Mor)) → HaveShapes (setting_of C) o ss args → AreData C args → (v : Value Obj Mor) → MeansBy l args v → K args v
  line-gives o [] (answers E claim) K f k [] h d v m = each-gives (claim f) (λ w. K [] w) (k f) v (m f)
  line-gives o (Object x ∷ ss) (takes_object l) K f k (object a ∷ args) h d v m = line-gives o ss (l a) (λ vs w. K (object a ∷ vs) w) (f a d.0 h.0) (k a) args h.1 d.1 v m
  line-gives o (Morphism x ∷ ss) (takes_morphism l) K f k (morphism g ∷ args) h d v m = line-gives o ss (l g) (λ vs w. K (morphism g ∷ vs) w) (f g d.0 h.0) (k g) args h.1 d.1 v m
  line-gives o (Scalar ∷ ss) (takes_scalar l) K f k (scalar n ∷ args) h d v m = line-gives o ss (l n) (λ vs w. K (scalar n ∷ vs) w) (f n) (k n) args h.1 d v m
  line-gives o [] (answers E claim) K f k (_ ∷ args) h d v m = absurd h
  line-gives o (s ∷ ss) l K f k [] h d v m = absurd h
  line-gives o (Object x ∷ ss) (takes_object l) K f k (_ ∷ args) h d v m = absurd h.0
  line-gives o (Morphism x ∷ ss) (takes_morphism l) K f k (_ ∷ args) h d v m = absurd h.0
  line-gives o (Scalar ∷ ss) (takes_scalar l) K f k (_ ∷ args) h d v m = absurd h.0
  line-gives o _ _ K f k args h d v m = absurd f

  at-ends : {a b : Obj} {f : Mor} → Arrow C a b f → (Some a ≡ Some (C.source f)) × (Some b ≡ Some (C.target f))
  at-ends F = (ap Some (sym F.from), ap Some (sym F.to))

  one-object : {o : Option Obj} {a b : Obj} → o ≡ Some a → o ≡ Some b → a ≡ b
  one-object s t = cc

  -- a line of the one table agrees with the line of the other
  abbrev Agrees : Profile → Line Obj Mor → Type 0
  Agrees p l = ((o : ℕ → Option Obj) → FitOn o p.arguments l) × EachOn l (FitsLine p)

  abbrev AllAgree : List Profile → List (Line Obj Mor) → Type 0
  AllAgree [] [] = Unit {0}
  AllAgree (p ∷ ps) (l ∷ ls) = Agrees p l × AllAgree ps ls
  AllAgree _ _ = ⊥

  agree : AllAgree profiles (lines C)
  agree = (
    -- 1 Identity
    (λ o a A h. A, λ a e m M. record { objects = slice_get (a ∷ []); arguments = (refl, tt); answer = inr (at-ends M.left) }),
    (
      -- 2 Compose
      (λ o f F h g G k. record { a = C.source f; b = C.target f; c = C.target g; first = record { is = F; from = refl; to = refl }; second = record { is = G; from = one-object k.0 h.1; to = refl } }, λ f g e m M. record { objects = slice_get (e.a ∷ e.b ∷ e.c ∷ []); arguments = (at-ends e.first, (at-ends e.second, tt)); answer = inr (at-ends M.left) }),
      (
        -- 3 Zero
        (λ o a A h b B k. record { first = A; second = B }, λ a b e m M. record { objects = slice_get (a ∷ b ∷ []); arguments = (refl, (refl, tt)); answer = inr (at-ends M.left) }),
        (
          -- 4 Add
          (λ o f F h g G k. record { a = C.source f; b = C.target f; first = record { is = F; from = refl; to = refl }; second = record { is = G; from = one-object k.0 h.0; to = one-object k.1 h.1 } }, λ f g e m M. record { objects = slice_get (e.a ∷ e.b ∷ []); arguments = (at-ends e.first, (at-ends e.second, tt)); answer = inr (at-ends M.left) }),
          (
            -- 5 Negate
            (λ o f F h. record { a = C.source f; b = C.target f; arrow = record { is = F; from = refl; to = refl } }, λ f e m M. record { objects = slice_get (e.a ∷ e.b ∷ []); arguments = (at-ends e.arrow, tt); answer = inr (at-ends M.left) }),
            (
              -- 6 Subtract
              (λ o f F h g G k. record { a = C.source f; b = C.target f; first = record { is = F; from = refl; to = refl }; second = record { is = G; from = one-object k.0 h.0; to = one-object k.1 h.1 } }, λ f g e m M. record { objects = slice_get (e.a ∷ e.b ∷ []); arguments = (at-ends e.first, (at-ends e.second, tt)); answer = inr (at-ends M.left) }),
              (
                -- 7 Scale
                (λ o n f F h. record { a = C.source f; b = C.target f; arrow = record { is = F; from = refl; to = refl } }, λ n f e m M. record { objects = slice_get (e.a ∷ e.b ∷ []); arguments = (tt, (at-ends e.arrow, tt)); answer = inr (at-ends M.left) }),
                (
                  -- 8 IsCongruent
                  (λ o f F h g G k. record { a = C.source f; b = C.target f; first = record { is = F; from = refl; to = refl }; second = record { is = G; from = one-object k.0 h.0; to = one-object k.1 h.1 } }, λ f g e. (λ h. record { objects = slice_get (e.a ∷ e.b ∷ []); arguments = (at-ends e.first, (at-ends e.second, tt)); answer = inr tt }, λ h. record { objects = slice_get (e.a ∷ e.b ∷ []); arguments = (at-ends e.first, (at-ends e.second, tt)); answer = inr tt })),
                  (
                    -- 9 IsZero
                    (λ o f F h. record { a = C.source f; b = C.target f; arrow = record { is = F; from = refl; to = refl } }, λ f e. (λ h. record { objects = slice_get (e.a ∷ e.b ∷ []); arguments = (at-ends e.arrow, tt); answer = inr tt }, λ h. record { objects = slice_get (e.a ∷ e.b ∷ []); arguments = (at-ends e.arrow, tt); answer = inr tt })),
                    (
                      -- 10 ZeroObject
                      (λ o. tt, λ e m M. record { objects = slice_get (M.object ∷ []); arguments = tt; answer = inr (at-ends M.same.left) }),
                      (
                        -- 11 DirectSum
                        (λ o a A h b B k. record { first = A; second = B }, λ a b e x y z w M. record { objects = slice_get (a ∷ b ∷ M.0 ∷ []); arguments = (refl, (refl, tt)); answer = inr (at-ends M.1.in1, at-ends M.1.in2, at-ends M.1.out1, at-ends M.1.out2) }),
                        (
                          -- 12 Product
                          (λ o a A h b B k. record { first = A; second = B }, λ a b e x y M. record { objects = slice_get (a ∷ b ∷ M.0 ∷ []); arguments = (refl, (refl, tt)); answer = inr (at-ends M.1.first, at-ends M.1.second) }),
                          (
                            -- 13 Coproduct
                            (λ o a A h b B k. record { first = A; second = B }, λ a b e x y M. record { objects = slice_get (a ∷ b ∷ M.0 ∷ []); arguments = (refl, (refl, tt)); answer = inr (at-ends (turned M.1.first), at-ends (turned M.1.second)) }),
                            (
                              -- 14 Pair
                              (λ o p P h q Q k u U l v V m. record { s = C.source p; t = C.source u; a = C.target p; b = C.target q; first = record { is = P; from = refl; to = refl }; second = record { is = Q; from = one-object k.0 h.0; to = refl }; left = record { is = U; from = refl; to = one-object l.1 h.1 }; right = record { is = V; from = one-object m.0 l.0; to = one-object m.1 k.1 } }, λ p q u v e. (λ m M. record { objects = slice_get (e.s ∷ e.a ∷ e.b ∷ e.t ∷ []); arguments = (at-ends e.first, (at-ends e.second, (at-ends e.left, (at-ends e.right, tt)))); answer = inr (at-ends M.arrow) }, λ h. record { objects = slice_get (e.s ∷ e.a ∷ e.b ∷ e.t ∷ []); arguments = (at-ends e.first, (at-ends e.second, (at-ends e.left, (at-ends e.right, tt)))); answer = inl refl })),
                              (
                                -- 15 Copair
                                (λ o i I h j J k u U l v V m. record { s = C.target i; t = C.target u; a = C.source i; b = C.source j; first = record { is = I; from = refl; to = refl }; second = record { is = J; from = refl; to = one-object k.1 h.1 }; left = record { is = U; from = one-object l.0 h.0; to = refl }; right = record { is = V; from = one-object m.0 k.0; to = one-object m.1 l.1 } }, λ i j u v e. (λ m M. record { objects = slice_get (e.a ∷ e.s ∷ e.b ∷ e.t ∷ []); arguments = (at-ends e.first, (at-ends e.second, (at-ends e.left, (at-ends e.right, tt)))); answer = inr (at-ends M.arrow) }, λ h. record { objects = slice_get (e.a ∷ e.s ∷ e.b ∷ e.t ∷ []); arguments = (at-ends e.first, (at-ends e.second, (at-ends e.left, (at-ends e.right, tt)))); answer = inl refl })),
                                (
                                  -- 16 Kernel
                                  (λ o f F h. record { a = C.source f; b = C.target f; arrow = record { is = F; from = refl; to = refl } }, λ f e m M. record { objects = slice_get (e.a ∷ e.b ∷ M.0 ∷ []); arguments = (at-ends e.arrow, tt); answer = inr (at-ends M.1.arrow) }),
                                  (
                                    -- 17 KernelLift
                                    (λ o f F h g G k. record { a = C.source f; b = C.source g; c = C.target f; first = record { is = F; from = refl; to = refl }; second = record { is = G; from = refl; to = one-object k.1 h.1 } }, λ f g e. (λ m M. record { objects = slice_get (e.a ∷ e.c ∷ e.b ∷ []); arguments = (at-ends e.first, (at-ends e.second, tt)); answer = inr (at-ends M.arrow) }, λ h. record { objects = slice_get (e.a ∷ e.c ∷ e.b ∷ []); arguments = (at-ends e.first, (at-ends e.second, tt)); answer = inl refl })),
                                    (
                                      -- 18 Cokernel
                                      (λ o f F h. record { a = C.source f; b = C.target f; arrow = record { is = F; from = refl; to = refl } }, λ f e m M. record { objects = slice_get (e.a ∷ e.b ∷ M.0 ∷ []); arguments = (at-ends e.arrow, tt); answer = inr (at-ends (turned M.1.arrow)) }),
                                      (
                                        -- 19 CokernelColift
                                        (λ o f F h g G k. record { c = C.source f; a = C.target f; b = C.target g; first = record { is = F; from = refl; to = refl }; second = record { is = G; from = one-object k.0 h.0; to = refl } }, λ f g e. (λ m M. record { objects = slice_get (e.c ∷ e.a ∷ e.b ∷ []); arguments = (at-ends e.first, (at-ends e.second, tt)); answer = inr (at-ends M.arrow) }, λ h. record { objects = slice_get (e.c ∷ e.a ∷ e.b ∷ []); arguments = (at-ends e.first, (at-ends e.second, tt)); answer = inl refl })),
                                        (
                                          -- 20 WeakKernel
                                          (λ o f F h. record { a = C.source f; b = C.target f; arrow = record { is = F; from = refl; to = refl } }, λ f e m M. record { objects = slice_get (e.a ∷ e.b ∷ M.0 ∷ []); arguments = (at-ends e.arrow, tt); answer = inr (at-ends M.1.arrow) }),
                                          (
                                            -- 21 WeakCokernel
                                            (λ o f F h. record { a = C.source f; b = C.target f; arrow = record { is = F; from = refl; to = refl } }, λ f e m M. record { objects = slice_get (e.a ∷ e.b ∷ M.0 ∷ []); arguments = (at-ends e.arrow, tt); answer = inr (at-ends (turned M.1.arrow)) }),
                                            (
                                              -- 22 Lift
                                              (λ o f F h g G k. record { a = C.source f; b = C.source g; c = C.target f; first = record { is = F; from = refl; to = refl }; second = record { is = G; from = refl; to = one-object k.1 h.1 } }, λ f g e. (λ m M. record { objects = slice_get (e.a ∷ e.c ∷ e.b ∷ []); arguments = (at-ends e.first, (at-ends e.second, tt)); answer = inr (at-ends M.arrow) }, λ h. record { objects = slice_get (e.a ∷ e.c ∷ e.b ∷ []); arguments = (at-ends e.first, (at-ends e.second, tt)); answer = inl refl })),
                                              (
                                                -- 23 Colift
                                                (λ o f F h g G k. record { c = C.source f; a = C.target f; b = C.target g; first = record { is = F; from = refl; to = refl }; second = record { is = G; from = one-object k.0 h.0; to = refl } }, λ f g e. (λ m M. record { objects = slice_get (e.c ∷ e.a ∷ e.b ∷ []); arguments = (at-ends e.first, (at-ends e.second, tt)); answer = inr (at-ends M.arrow) }, λ h. record { objects = slice_get (e.c ∷ e.a ∷ e.b ∷ []); arguments = (at-ends e.first, (at-ends e.second, tt)); answer = inl refl })),
                                                (
                                                  -- 24 IsMono
                                                  (λ o f F h. record { a = C.source f; b = C.target f; arrow = record { is = F; from = refl; to = refl } }, λ f e. (λ h. record { objects = slice_get (e.a ∷ e.b ∷ []); arguments = (at-ends e.arrow, tt); answer = inr tt }, λ h. record { objects = slice_get (e.a ∷ e.b ∷ []); arguments = (at-ends e.arrow, tt); answer = inr tt })),
                                                  (
                                                    -- 25 IsEpi
                                                    (λ o f F h. record { a = C.source f; b = C.target f; arrow = record { is = F; from = refl; to = refl } }, λ f e. (λ h. record { objects = slice_get (e.a ∷ e.b ∷ []); arguments = (at-ends e.arrow, tt); answer = inr tt }, λ h. record { objects = slice_get (e.a ∷ e.b ∷ []); arguments = (at-ends e.arrow, tt); answer = inr tt })),
                                                    (
                                                      -- 26 IsIso
                                                      (λ o f F h. record { a = C.source f; b = C.target f; arrow = record { is = F; from = refl; to = refl } }, λ f e. (λ h. record { objects = slice_get (e.a ∷ e.b ∷ []); arguments = (at-ends e.arrow, tt); answer = inr tt }, λ h. record { objects = slice_get (e.a ∷ e.b ∷ []); arguments = (at-ends e.arrow, tt); answer = inr tt })),
                                                      (
                                                        -- 27 IsSplitMono
                                                        (λ o f F h. record { a = C.source f; b = C.target f; arrow = record { is = F; from = refl; to = refl } }, λ f e. (λ h. record { objects = slice_get (e.a ∷ e.b ∷ []); arguments = (at-ends e.arrow, tt); answer = inr tt }, λ h. record { objects = slice_get (e.a ∷ e.b ∷ []); arguments = (at-ends e.arrow, tt); answer = inr tt })),
                                                        (
                                                          -- 28 IsSplitEpi
                                                          (λ o f F h. record { a = C.source f; b = C.target f; arrow = record { is = F; from = refl; to = refl } }, λ f e. (λ h. record { objects = slice_get (e.a ∷ e.b ∷ []); arguments = (at-ends e.arrow, tt); answer = inr tt }, λ h. record { objects = slice_get (e.a ∷ e.b ∷ []); arguments = (at-ends e.arrow, tt); answer = inr tt })),
                                                          (
                                                            -- 29 Inverse
                                                            (λ o f F h. record { a = C.source f; b = C.target f; arrow = record { is = F; from = refl; to = refl } }, λ f e. (λ m M. record { objects = slice_get (e.a ∷ e.b ∷ []); arguments = (at-ends e.arrow, tt); answer = inr (at-ends M.arrow) }, λ h. record { objects = slice_get (e.a ∷ e.b ∷ []); arguments = (at-ends e.arrow, tt); answer = inl refl })),
                                                            (
                                                              -- 30 Section
                                                              (λ o f F h. record { a = C.source f; b = C.target f; arrow = record { is = F; from = refl; to = refl } }, λ f e. (λ m M. record { objects = slice_get (e.a ∷ e.b ∷ []); arguments = (at-ends e.arrow, tt); answer = inr (at-ends M.arrow) }, λ h. record { objects = slice_get (e.a ∷ e.b ∷ []); arguments = (at-ends e.arrow, tt); answer = inl refl })),
                                                              (
                                                                -- 31 Retraction
                                                                (λ o f F h. record { a = C.source f; b = C.target f; arrow = record { is = F; from = refl; to = refl } }, λ f e. (λ m M. record { objects = slice_get (e.a ∷ e.b ∷ []); arguments = (at-ends e.arrow, tt); answer = inr (at-ends (turned M.arrow)) }, λ h. record { objects = slice_get (e.a ∷ e.b ∷ []); arguments = (at-ends e.arrow, tt); answer = inl refl })),
                                                                (
                                                                  -- 32 Equalizer
                                                                  (λ o f F h g G k. record { a = C.source f; b = C.target f; first = record { is = F; from = refl; to = refl }; second = record { is = G; from = one-object k.0 h.0; to = one-object k.1 h.1 } }, λ f g e m M. record { objects = slice_get (e.a ∷ e.b ∷ M.0 ∷ []); arguments = (at-ends e.first, (at-ends e.second, tt)); answer = inr (at-ends M.1.arrow) }),
                                                                  (
                                                                    -- 33 Coequalizer
                                                                    (λ o f F h g G k. record { a = C.source f; b = C.target f; first = record { is = F; from = refl; to = refl }; second = record { is = G; from = one-object k.0 h.0; to = one-object k.1 h.1 } }, λ f g e m M. record { objects = slice_get (e.a ∷ e.b ∷ M.0 ∷ []); arguments = (at-ends e.first, (at-ends e.second, tt)); answer = inr (at-ends (turned M.1.arrow)) }),
                                                                    (
                                                                      -- 34 Pullback
                                                                      (λ o f F h g G k. record { a = C.source f; b = C.source g; c = C.target f; first = record { is = F; from = refl; to = refl }; second = record { is = G; from = refl; to = one-object k.1 h.1 } }, λ f g e x y M. record { objects = slice_get (e.a ∷ e.c ∷ e.b ∷ M.0 ∷ []); arguments = (at-ends e.first, (at-ends e.second, tt)); answer = inr (at-ends M.1.first, at-ends M.1.second) }),
                                                                      (
                                                                        -- 35 Pushout
                                                                        (λ o f F h g G k. record { c = C.source f; a = C.target f; b = C.target g; first = record { is = F; from = refl; to = refl }; second = record { is = G; from = one-object k.0 h.0; to = refl } }, λ f g e x y M. record { objects = slice_get (e.c ∷ e.a ∷ e.b ∷ M.0 ∷ []); arguments = (at-ends e.first, (at-ends e.second, tt)); answer = inr (at-ends (turned M.1.first), at-ends (turned M.1.second)) }),
                                                                        (
                                                                          -- 36 Image
                                                                          (λ o f F h. record { a = C.source f; b = C.target f; arrow = record { is = F; from = refl; to = refl } }, λ f e x y M. record { objects = slice_get (e.a ∷ e.b ∷ M.0 ∷ []); arguments = (at-ends e.arrow, tt); answer = inr (at-ends M.1.first, at-ends M.1.mono.arrow) }),
                                                                          (
                                                                            -- 37 Coimage
                                                                            (λ o f F h. record { a = C.source f; b = C.target f; arrow = record { is = F; from = refl; to = refl } }, λ f e x y M. record { objects = slice_get (e.a ∷ e.b ∷ M.0 ∷ []); arguments = (at-ends e.arrow, tt); answer = inr (at-ends (turned M.1.mono.arrow), at-ends (turned M.1.first)) }),
                                                                            (
                                                                              -- 38 KernelMap
                                                                              (λ o i I h m M k j J l. record { k = C.source i; a = C.target i; b = C.target m; l = C.source j; first = record { is = I; from = refl; to = refl }; middle = record { is = M; from = one-object k.0 h.1; to = refl }; last = record { is = J; from = refl; to = one-object l.1 k.1 } }, λ i h j e. (λ m M. record { objects = slice_get (e.k ∷ e.a ∷ e.b ∷ e.l ∷ []); arguments = (at-ends e.first, (at-ends e.middle, (at-ends e.last, tt))); answer = inr (at-ends M.arrow) }, λ h. record { objects = slice_get (e.k ∷ e.a ∷ e.b ∷ e.l ∷ []); arguments = (at-ends e.first, (at-ends e.middle, (at-ends e.last, tt))); answer = inl refl })),
                                                                              (
                                                                                -- 39 CokernelMap
                                                                                (λ o p P h m M k q Q l. record { a = C.source p; c = C.target p; b = C.target m; d = C.target q; first = record { is = P; from = refl; to = refl }; middle = record { is = M; from = one-object k.0 h.0; to = refl }; last = record { is = Q; from = one-object l.0 k.1; to = refl } }, λ p h q e. (λ m M. record { objects = slice_get (e.a ∷ e.c ∷ e.b ∷ e.d ∷ []); arguments = (at-ends e.first, (at-ends e.middle, (at-ends e.last, tt))); answer = inr (at-ends M.arrow) }, λ h. record { objects = slice_get (e.a ∷ e.c ∷ e.b ∷ e.d ∷ []); arguments = (at-ends e.first, (at-ends e.middle, (at-ends e.last, tt))); answer = inl refl })),
                                                                                (
                                                                                  -- 40 Intersection
                                                                                  (λ o f F h g G k. record { a = C.source f; b = C.source g; c = C.target f; first = record { is = F; from = refl; to = refl }; second = record { is = G; from = refl; to = one-object k.1 h.1 } }, λ f g e m M. record { objects = slice_get (e.a ∷ e.c ∷ e.b ∷ M.0 ∷ []); arguments = (at-ends e.first, (at-ends e.second, tt)); answer = inr (at-ends M.1.is.left) }),
                                                                                  (
                                                                                    -- 41 Union
                                                                                    (λ o f F h g G k. record { a = C.source f; b = C.source g; c = C.target f; first = record { is = F; from = refl; to = refl }; second = record { is = G; from = refl; to = one-object k.1 h.1 } }, λ f g e m M. record { objects = slice_get (e.a ∷ e.c ∷ e.b ∷ M.0 ∷ []); arguments = (at-ends e.first, (at-ends e.second, tt)); answer = inr (at-ends M.1.mono.arrow) }),
                                                                                    (
                                                                                      -- 42 IsSubobject
                                                                                      (λ o f F h g G k. record { a = C.source f; b = C.source g; c = C.target f; first = record { is = F; from = refl; to = refl }; second = record { is = G; from = refl; to = one-object k.1 h.1 } }, λ f g e. (λ h. record { objects = slice_get (e.a ∷ e.c ∷ e.b ∷ []); arguments = (at-ends e.first, (at-ends e.second, tt)); answer = inr tt }, λ h. record { objects = slice_get (e.a ∷ e.c ∷ e.b ∷ []); arguments = (at-ends e.first, (at-ends e.second, tt)); answer = inr tt })),
                                                                                      (
                                                                                        -- 43 Homology
                                                                                        (λ o f F h g G k. record { a = C.source f; b = C.target f; c = C.target g; first = record { is = F; from = refl; to = refl }; second = record { is = G; from = one-object k.0 h.1; to = refl } }, λ f g e. (λ x y M. record { objects = slice_get (e.a ∷ e.b ∷ e.c ∷ M.0 ∷ M.1 ∷ []); arguments = (at-ends e.first, (at-ends e.second, tt)); answer = inr (at-ends M.2.kernel.arrow, at-ends (turned M.2.cokernel.arrow)) }, λ h. record { objects = slice_get (e.a ∷ e.b ∷ e.c ∷ []); arguments = (at-ends e.first, (at-ends e.second, tt)); answer = inl refl })),
                                                                                        (
                                                                                          -- 44 IsExact
                                                                                          (λ o f F h g G k. record { a = C.source f; b = C.target f; c = C.target g; first = record { is = F; from = refl; to = refl }; second = record { is = G; from = one-object k.0 h.1; to = refl } }, λ f g e. (λ h. record { objects = slice_get (e.a ∷ e.b ∷ e.c ∷ []); arguments = (at-ends e.first, (at-ends e.second, tt)); answer = inr tt }, λ h. record { objects = slice_get (e.a ∷ e.b ∷ e.c ∷ []); arguments = (at-ends e.first, (at-ends e.second, tt)); answer = inr tt })),
                                                                                          tt,
                                                                                        ),
                                                                                      ),
                                                                                    ),
                                                                                  ),
                                                                                ),
                                                                              ),
                                                                            ),
                                                                          ),
                                                                        ),
                                                                      ),
                                                                    ),
                                                                  ),
                                                                ),
                                                              ),
                                                            ),
                                                          ),
                                                        ),
                                                      ),
                                                    ),
                                                  ),
                                                ),
                                              ),
                                            ),
                                          ),
                                        ),
                                      ),
                                    ),
                                  ),
                                ),
                              ),
                            ),
                          ),
                        ),
                      ),
                    ),
                  ),
                ),
              ),
            ),
          ),
        ),
      ),
    ),
  )

  agree-at : (ps : List Profile) (ls : List (Line Obj Mor)) → AllAgree ps ls → (n : ℕ) → n < length ps → Agrees (unwrap_or (slice_get ps n) (takes [] Truth)) (line_at ls (suc n))
  agree-at [] ls h n b = absurd (omega (arith, b))
  agree-at (p ∷ ps) [] h n b = absurd h
  agree-at (p ∷ ps) (l ∷ ls) h zero b = h.0
  agree-at (p ∷ ps) (l ∷ ls) h (suc n) b = agree-at ps ls h.1 n (omega (arith, b))

  agrees : (op : ℕ) → 1 ≤ op → op ≤ 44 → Agrees (profile_of op) (line_at (lines C) op)
  agrees zero low high = absurd (omega (arith, low))
  agrees (suc n) low high = agree-at profiles (lines C) agree n (omega (arith, high))

  pub meaning-fits : MeaningFits C
  meaning-fits = record {
    fits = λ op args h d v m.
        let t = agrees op h.operation.0 h.operation.1 in
        let f = line-gives h.objects (profile_of op).arguments (line_at (lines C) op) (FitsLine (profile_of op)) (t.0 h.objects) t.1 args h.arguments d v m in
        record { operation = h.operation; objects = f.objects; arguments = f.arguments; answer = f.answer };
  }
