-- What was told stays told: values keep their data; and the data of a value are one.
use Rattle.std.proofs.Common.{◌≡◌, ℕ, List, [], ◌∷◌, ◌++◌, refl, sym, ap, ◌∙◌}
use Rattle.std.specs.Prelude.{Option, Some}
use Rattle.cap_laws.specs.Linear.{CategoryData}
use Rattle.cap_ops.specs.Values.{object, morphism, two, four, truth, scalar, none}
use Rattle.cap_ops.specs.Arrows.{Between, ValueOver}
use Rattle.cap_ops.specs.Told.{TellsArrow, Tells, TellsAll, IsDatum, AreData}

module _ {E O M : Type 0} (look look' : E → Option O) (stays : (h : E) (o : O) → look h ≡ Some o → look' h ≡ Some o) where
  arrow-kept : (f : Between E M) (g : Between O M) → TellsArrow look f g → TellsArrow look' f g
  arrow-kept f g t = record { src = stays f.src g.src t.src; tgt = stays f.tgt g.tgt t.tgt; value = t.value }

  pub tells-kept : (v : ValueOver E M) (d : ValueOver O M) → Tells look v d → Tells look' v d
  tells-kept (object h) (object o) t = stays h o t
  tells-kept (morphism f) (morphism g) t = arrow-kept f g t
  tells-kept (two f1 f2) (two g1 g2) t = (arrow-kept f1 g1 t.0, arrow-kept f2 g2 t.1)
  tells-kept (four f1 f2 f3 f4) (four g1 g2 g3 g4) t = (arrow-kept f1 g1 t.0, arrow-kept f2 g2 t.1, arrow-kept f3 g3 t.2, arrow-kept f4 g4 t.3)
  tells-kept (truth b) (truth c) t = t
  tells-kept (scalar m) (scalar n) t = t
  tells-kept none none t = t
  tells-kept _ _ t = absurd t

  pub all-kept : (vs : List (ValueOver E M)) (ds : List (ValueOver O M)) → TellsAll look vs ds → TellsAll look' vs ds
  all-kept [] [] t = t
  all-kept (v ∷ vs) (d ∷ ds) t = (tells-kept v d t.0, all-kept vs ds t.1)
  all-kept _ _ t = absurd t

some-same : {O : Type 0} (w : Option O) (a b : O) → w ≡ Some a → w ≡ Some b → a ≡ b
some-same w a b h k = let s : Some a ≡ Some b = sym h ∙ k in cc

module _ {E O M : Type 0} (look : E → Option O) where
  pub tells-snoc : (vs : List (ValueOver E M)) (ds : List (ValueOver O M)) (v : ValueOver E M) (d : ValueOver O M) → TellsAll look vs ds → Tells look v d → TellsAll look (vs ++ v ∷ []) (ds ++ d ∷ [])
  tells-snoc [] [] v d t h = (h, tt)
  tells-snoc (w ∷ vs) (e ∷ ds) v d t h = (t.0, tells-snoc vs ds v d t.1 h)
  tells-snoc _ _ v d t h = absurd t

  between-of : O → O → M → Between O M
  between-of a b m = record { src = a; tgt = b; value = m }

  arrow-same : (f : Between E M) (g h : Between O M) → TellsArrow look f g → TellsArrow look f h → g ≡ h
  unfolding between-of
  arrow-same f g h t u =
      ap (λ x. between-of x g.tgt g.value) (some-same (look f.src) g.src h.src t.src u.src) ∙ (ap (λ x. between-of h.src x g.value) (some-same (look f.tgt) g.tgt h.tgt t.tgt u.tgt) ∙ ap (λ x. between-of h.src h.tgt x) (sym t.value ∙ u.value))

  pub tells-same : (v : ValueOver E M) (d e : ValueOver O M) → Tells look v d → Tells look v e → d ≡ e
  tells-same (object h) (object a) (object b) t u = ap object (some-same (look h) a b t u)
  tells-same (morphism f) (morphism g) (morphism h) t u = ap morphism (arrow-same f g h t u)
  tells-same (two f1 f2) (two g1 g2) (two h1 h2) t u = rw (arrow-same f1 g1 h1 t.0 u.0, arrow-same f2 g2 h2 t.1 u.1) refl
  tells-same (four f1 f2 f3 f4) (four g1 g2 g3 g4) (four h1 h2 h3 h4) t u = rw (arrow-same f1 g1 h1 t.0 u.0, arrow-same f2 g2 h2 t.1 u.1, arrow-same f3 g3 h3 t.2 u.2, arrow-same f4 g4 h4 t.3 u.3) refl
  tells-same (truth b) (truth c) (truth d) t u = ap truth (sym t ∙ u)
  tells-same (scalar k) (scalar m) (scalar n) t u = ap scalar (sym t ∙ u)
  tells-same none none none t u = refl
  tells-same (object h) (object a) _ t u = absurd u
  tells-same (morphism f) (morphism g) _ t u = absurd u
  tells-same (two f1 f2) (two g1 g2) _ t u = absurd u
  tells-same (four f1 f2 f3 f4) (four g1 g2 g3 g4) _ t u = absurd u
  tells-same (truth b) (truth c) _ t u = absurd u
  tells-same (scalar k) (scalar m) _ t u = absurd u
  tells-same none none _ t u = absurd u
  tells-same _ _ _ t u = absurd t

  pub all-same : (vs : List (ValueOver E M)) (ds es : List (ValueOver O M)) → TellsAll look vs ds → TellsAll look vs es → ds ≡ es
  all-same [] [] [] t u = refl
  all-same (v ∷ vs) (d ∷ ds) (e ∷ es) t u = rw (tells-same v d e t.0 u.0, all-same vs ds es t.1 u.1) refl
  all-same [] [] (e ∷ es) t u = absurd u
  all-same (v ∷ vs) (d ∷ ds) [] t u = absurd u
  all-same _ _ _ t u = absurd t

module _ {O M : Type 0} (C : CategoryData O (Between O M)) where
  pub data-snoc : (ds : List (ValueOver O M)) (d : ValueOver O M) → AreData C ds → IsDatum C d → AreData C (ds ++ d ∷ [])
  data-snoc [] d a h = (h, tt)
  data-snoc (e ∷ ds) d a h = (a.0, data-snoc ds d a.1 h)
