-- The data of what steps that call nothing answer, and of the variables of steps.
use Rattle.std.proofs.Common.{◌≡◌, ℕ, zero, suc, ◌≤◌, Bool, arith, true, false, List, [], ◌∷◌, refl, subst}
use Rattle.std.specs.Prelude.{Option, Some, slice_get, unwrap_or}
use Rattle.cap_laws.specs.Linear.{CategoryData}
use Rattle.cap_ops.specs.Values.{object, morphism, two, four, truth, scalar, none}
use Rattle.cap_ops.specs.Arrows.{Between, ValueOver, over}
use Rattle.cap_ops.specs.Told.{TellsArrow, Tells, TellsAll, IsDatum, AreData}
use Rattle.cap_terms.specs.declared.body.Var.{Var}
use Rattle.cap_terms.specs.declared.body.Step.{Step}
use Rattle.cap_terms.specs.declared.body.Step.TheVariants.{Call, Src, Tgt, Part, MinusOne, Exists, Both, When, Tuple}
use Rattle.cap_terms.specs.Run.{at, all_at, is_none, has_none, source_of, target_of, parts, nth_from_one, exists_of, both_of, when_of, tuple_of}
use Rattle.cap_steps.specs.Slots.{plain}

module _ {E O M : Type 0} (look : E → Option O) where
  tells-get : (vs : List (ValueOver E M)) (ds : List (ValueOver O M)) (n : ℕ) → TellsAll look vs ds → Tells look (unwrap_or (slice_get vs n) none) (unwrap_or (slice_get ds n) none)
  tells-get [] [] n t = tt
  tells-get (v ∷ vs) (d ∷ ds) zero t = t.0
  tells-get (v ∷ vs) (d ∷ ds) (suc n) t = tells-get vs ds n t.1
  tells-get _ _ n t = absurd t

  pub tells-at : (vs : List (ValueOver E M)) (ds : List (ValueOver O M)) (x : Var) → TellsAll look vs ds → Tells look (at vs x) (at ds x)
  tells-at vs ds x t = tells-get vs ds x.0 t

  pub tells-all-at : (vs : List (ValueOver E M)) (ds : List (ValueOver O M)) (xs : List Var) → TellsAll look vs ds → TellsAll look (all_at vs xs) (all_at ds xs)
  tells-all-at vs ds [] t = tt
  tells-all-at vs ds (x ∷ xs) t = (tells-at vs ds x t, tells-all-at vs ds xs t)

  none-same : (v : ValueOver E M) (d : ValueOver O M) → Tells look v d → is_none v ≡ is_none d
  none-same (object h) (object o) t = refl
  none-same (morphism f) (morphism g) t = refl
  none-same (two f1 f2) (two g1 g2) t = refl
  none-same (four f1 f2 f3 f4) (four g1 g2 g3 g4) t = refl
  none-same (truth b) (truth c) t = refl
  none-same (scalar m) (scalar n) t = refl
  none-same none none t = refl
  none-same _ _ t = absurd t

  -- a list of values has a none exactly where its data have one
  pub same-none : (vs : List (ValueOver E M)) (ds : List (ValueOver O M)) → TellsAll look vs ds → has_none vs ≡ has_none ds
  same-none [] [] t = refl
  same-none (v ∷ vs) (d ∷ ds) t = rw (none-same v d t.0, same-none vs ds t.1) refl
  same-none _ _ t = absurd t

  -- steps that call nothing answer the data of their answers
  tells-source : (p : ℕ) (v : ValueOver E M) (d : ValueOver O M) → Tells look v d → Tells look (source_of (over p) v) (source_of (over p) d)
  tells-source p (morphism f) (morphism g) t = t.src
  tells-source p (object h) (object o) t = tt
  tells-source p (two f1 f2) (two g1 g2) t = tt
  tells-source p (four f1 f2 f3 f4) (four g1 g2 g3 g4) t = tt
  tells-source p (truth b) (truth c) t = tt
  tells-source p (scalar m) (scalar n) t = tt
  tells-source p none none t = tt
  tells-source p _ _ t = absurd t

  tells-target : (p : ℕ) (v : ValueOver E M) (d : ValueOver O M) → Tells look v d → Tells look (target_of (over p) v) (target_of (over p) d)
  tells-target p (morphism f) (morphism g) t = t.tgt
  tells-target p (object h) (object o) t = tt
  tells-target p (two f1 f2) (two g1 g2) t = tt
  tells-target p (four f1 f2 f3 f4) (four g1 g2 g3 g4) t = tt
  tells-target p (truth b) (truth c) t = tt
  tells-target p (scalar m) (scalar n) t = tt
  tells-target p none none t = tt
  tells-target p _ _ t = absurd t

  tells-parts : (v : ValueOver E M) (d : ValueOver O M) → Tells look v d → TellsAll look (parts v) (parts d)
  tells-parts (two f1 f2) (two g1 g2) t = (t.0, (t.1, tt))
  tells-parts (four f1 f2 f3 f4) (four g1 g2 g3 g4) t = (t.0, (t.1, (t.2, (t.3, tt))))
  tells-parts (morphism f) (morphism g) t = tt
  tells-parts (object h) (object o) t = tt
  tells-parts (truth b) (truth c) t = tt
  tells-parts (scalar m) (scalar n) t = tt
  tells-parts none none t = tt
  tells-parts _ _ t = absurd t

  tells-nth : (vs : List (ValueOver E M)) (ds : List (ValueOver O M)) (n : ℕ) → TellsAll look vs ds → Tells look (unwrap_or (nth_from_one vs n) none) (unwrap_or (nth_from_one ds n) none)
  tells-nth vs ds zero t = tt
  tells-nth vs ds (suc n) t = tells-get vs ds n t

  tells-exists : (v : ValueOver E M) (d : ValueOver O M) → Tells look v d → Tells look (exists_of v) (exists_of d)
  tells-exists (object h) (object o) t = refl
  tells-exists (morphism f) (morphism g) t = refl
  tells-exists (two f1 f2) (two g1 g2) t = refl
  tells-exists (four f1 f2 f3 f4) (four g1 g2 g3 g4) t = refl
  tells-exists (truth b) (truth c) t = refl
  tells-exists (scalar m) (scalar n) t = refl
  tells-exists none none t = refl
  tells-exists _ _ t = absurd t

  tells-both : (v w : ValueOver E M) (d e : ValueOver O M) → Tells look v d → Tells look w e → Tells look (both_of v w) (both_of d e)
  tells-both (truth a) (truth b) (truth c) (truth d) t u = rw (t, u) refl
  tells-both (truth a) (object h) (truth c) (object o) t u = tt
  tells-both (truth a) (morphism f) (truth c) (morphism g) t u = tt
  tells-both (truth a) (two f1 f2) (truth c) (two g1 g2) t u = tt
  tells-both (truth a) (four f1 f2 f3 f4) (truth c) (four g1 g2 g3 g4) t u = tt
  tells-both (truth a) (scalar m) (truth c) (scalar n) t u = tt
  tells-both (truth a) none (truth c) none t u = tt
  tells-both (truth a) _ (truth c) _ t u = absurd u
  tells-both (object h) w (object o) e t u = tt
  tells-both (morphism f) w (morphism g) e t u = tt
  tells-both (two f1 f2) w (two g1 g2) e t u = tt
  tells-both (four f1 f2 f3 f4) w (four g1 g2 g3 g4) e t u = tt
  tells-both (scalar m) w (scalar n) e t u = tt
  tells-both none w none e t u = tt
  tells-both _ _ _ _ t u = absurd t

  tells-when : (v w : ValueOver E M) (d e : ValueOver O M) → Tells look v d → Tells look w e → Tells look (when_of v w) (when_of d e)
  tells-when (truth b) w (truth c) e t u = subst (λ x. Tells look (when_of (truth b) w) (when_of (truth x) e)) t (same b)
    where
      same : (b : Bool) → Tells look (when_of (truth b) w) (when_of (truth b) e)
      same true = u
      same false = tt
  tells-when (object h) w (object o) e t u = tt
  tells-when (morphism f) w (morphism g) e t u = tt
  tells-when (two f1 f2) w (two g1 g2) e t u = tt
  tells-when (four f1 f2 f3 f4) w (four g1 g2 g3 g4) e t u = tt
  tells-when (scalar m) w (scalar n) e t u = tt
  tells-when none w none e t u = tt
  tells-when _ _ _ _ t u = absurd t

  -- a tuple of values tells the tuple of their data: the list after k morphisms
  tells-after4 : (f1 : Between E M) (f2 : Between E M) (f3 : Between E M) (f4 : Between E M) (g1 : Between O M) (g2 : Between O M) (g3 : Between O M) (g4 : Between O M) → TellsArrow look f1 g1 → TellsArrow look f2 g2 → TellsArrow look f3 g3 → TellsArrow look f4 g4 → (vs : List (ValueOver E M)) (ds : List (ValueOver O M)) → TellsAll look vs ds → Tells look (tuple_of (morphism f1 ∷ morphism f2 ∷ morphism f3 ∷ morphism f4 ∷ vs)) (tuple_of (morphism g1 ∷ morphism g2 ∷ morphism g3 ∷ morphism g4 ∷ ds))
  tells-after4 f1 f2 f3 f4 g1 g2 g3 g4 t1 t2 t3 t4 [] [] t = (t1, t2, t3, t4)
  tells-after4 f1 f2 f3 f4 g1 g2 g3 g4 t1 t2 t3 t4 (v ∷ vs) (d ∷ ds) t = tt
  tells-after4 f1 f2 f3 f4 g1 g2 g3 g4 t1 t2 t3 t4 [] (d ∷ ds) t = absurd t
  tells-after4 f1 f2 f3 f4 g1 g2 g3 g4 t1 t2 t3 t4 (v ∷ vs) [] t = absurd t

  tells-after3 : (f1 : Between E M) (f2 : Between E M) (f3 : Between E M) (g1 : Between O M) (g2 : Between O M) (g3 : Between O M) → TellsArrow look f1 g1 → TellsArrow look f2 g2 → TellsArrow look f3 g3 → (vs : List (ValueOver E M)) (ds : List (ValueOver O M)) → TellsAll look vs ds → Tells look (tuple_of (morphism f1 ∷ morphism f2 ∷ morphism f3 ∷ vs)) (tuple_of (morphism g1 ∷ morphism g2 ∷ morphism g3 ∷ ds))
  tells-after3 f1 f2 f3 g1 g2 g3 t1 t2 t3 [] [] t = tt
  tells-after3 f1 f2 f3 g1 g2 g3 t1 t2 t3 (morphism f ∷ vs) (morphism g ∷ ds) t = tells-after4 f1 f2 f3 f g1 g2 g3 g t1 t2 t3 t.0 vs ds t.1
  tells-after3 f1 f2 f3 g1 g2 g3 t1 t2 t3 (object h ∷ vs) (object o ∷ ds) t = tt
  tells-after3 f1 f2 f3 g1 g2 g3 t1 t2 t3 (two x1 x2 ∷ vs) (two y1 y2 ∷ ds) t = tt
  tells-after3 f1 f2 f3 g1 g2 g3 t1 t2 t3 (four x1 x2 x3 x4 ∷ vs) (four y1 y2 y3 y4 ∷ ds) t = tt
  tells-after3 f1 f2 f3 g1 g2 g3 t1 t2 t3 (truth b ∷ vs) (truth c ∷ ds) t = tt
  tells-after3 f1 f2 f3 g1 g2 g3 t1 t2 t3 (scalar m ∷ vs) (scalar n ∷ ds) t = tt
  tells-after3 f1 f2 f3 g1 g2 g3 t1 t2 t3 (none ∷ vs) (none ∷ ds) t = tt
  tells-after3 f1 f2 f3 g1 g2 g3 t1 t2 t3 (_ ∷ vs) (_ ∷ ds) t = absurd t.0
  tells-after3 f1 f2 f3 g1 g2 g3 t1 t2 t3 [] (d ∷ ds) t = absurd t
  tells-after3 f1 f2 f3 g1 g2 g3 t1 t2 t3 (v ∷ vs) [] t = absurd t

  tells-after2 : (f1 : Between E M) (f2 : Between E M) (g1 : Between O M) (g2 : Between O M) → TellsArrow look f1 g1 → TellsArrow look f2 g2 → (vs : List (ValueOver E M)) (ds : List (ValueOver O M)) → TellsAll look vs ds → Tells look (tuple_of (morphism f1 ∷ morphism f2 ∷ vs)) (tuple_of (morphism g1 ∷ morphism g2 ∷ ds))
  tells-after2 f1 f2 g1 g2 t1 t2 [] [] t = (t1, t2)
  tells-after2 f1 f2 g1 g2 t1 t2 (morphism f ∷ vs) (morphism g ∷ ds) t = tells-after3 f1 f2 f g1 g2 g t1 t2 t.0 vs ds t.1
  tells-after2 f1 f2 g1 g2 t1 t2 (object h ∷ vs) (object o ∷ ds) t = tt
  tells-after2 f1 f2 g1 g2 t1 t2 (two x1 x2 ∷ vs) (two y1 y2 ∷ ds) t = tt
  tells-after2 f1 f2 g1 g2 t1 t2 (four x1 x2 x3 x4 ∷ vs) (four y1 y2 y3 y4 ∷ ds) t = tt
  tells-after2 f1 f2 g1 g2 t1 t2 (truth b ∷ vs) (truth c ∷ ds) t = tt
  tells-after2 f1 f2 g1 g2 t1 t2 (scalar m ∷ vs) (scalar n ∷ ds) t = tt
  tells-after2 f1 f2 g1 g2 t1 t2 (none ∷ vs) (none ∷ ds) t = tt
  tells-after2 f1 f2 g1 g2 t1 t2 (_ ∷ vs) (_ ∷ ds) t = absurd t.0
  tells-after2 f1 f2 g1 g2 t1 t2 [] (d ∷ ds) t = absurd t
  tells-after2 f1 f2 g1 g2 t1 t2 (v ∷ vs) [] t = absurd t

  tells-after1 : (f1 : Between E M) (g1 : Between O M) → TellsArrow look f1 g1 → (vs : List (ValueOver E M)) (ds : List (ValueOver O M)) → TellsAll look vs ds → Tells look (tuple_of (morphism f1 ∷ vs)) (tuple_of (morphism g1 ∷ ds))
  tells-after1 f1 g1 t1 [] [] t = tt
  tells-after1 f1 g1 t1 (morphism f ∷ vs) (morphism g ∷ ds) t = tells-after2 f1 f g1 g t1 t.0 vs ds t.1
  tells-after1 f1 g1 t1 (object h ∷ vs) (object o ∷ ds) t = tt
  tells-after1 f1 g1 t1 (two x1 x2 ∷ vs) (two y1 y2 ∷ ds) t = tt
  tells-after1 f1 g1 t1 (four x1 x2 x3 x4 ∷ vs) (four y1 y2 y3 y4 ∷ ds) t = tt
  tells-after1 f1 g1 t1 (truth b ∷ vs) (truth c ∷ ds) t = tt
  tells-after1 f1 g1 t1 (scalar m ∷ vs) (scalar n ∷ ds) t = tt
  tells-after1 f1 g1 t1 (none ∷ vs) (none ∷ ds) t = tt
  tells-after1 f1 g1 t1 (_ ∷ vs) (_ ∷ ds) t = absurd t.0
  tells-after1 f1 g1 t1 [] (d ∷ ds) t = absurd t
  tells-after1 f1 g1 t1 (v ∷ vs) [] t = absurd t

  tells-after0 : (vs : List (ValueOver E M)) (ds : List (ValueOver O M)) → TellsAll look vs ds → Tells look (tuple_of (vs)) (tuple_of (ds))
  tells-after0 [] [] t = tt
  tells-after0 (morphism f ∷ vs) (morphism g ∷ ds) t = tells-after1 f g t.0 vs ds t.1
  tells-after0 (object h ∷ vs) (object o ∷ ds) t = tt
  tells-after0 (two x1 x2 ∷ vs) (two y1 y2 ∷ ds) t = tt
  tells-after0 (four x1 x2 x3 x4 ∷ vs) (four y1 y2 y3 y4 ∷ ds) t = tt
  tells-after0 (truth b ∷ vs) (truth c ∷ ds) t = tt
  tells-after0 (scalar m ∷ vs) (scalar n ∷ ds) t = tt
  tells-after0 (none ∷ vs) (none ∷ ds) t = tt
  tells-after0 (_ ∷ vs) (_ ∷ ds) t = absurd t.0
  tells-after0 [] (d ∷ ds) t = absurd t
  tells-after0 (v ∷ vs) [] t = absurd t

  pub tells-plain : (p : ℕ) (s : Step) (vs : List (ValueOver E M)) (ds : List (ValueOver O M)) → TellsAll look vs ds → Tells look (plain (over p) s vs) (plain (over p) s ds)
  tells-plain p (Call op xs) vs ds t = tt
  tells-plain p (Src x) vs ds t = tells-source p (at vs x) (at ds x) (tells-at vs ds x t)
  tells-plain p (Tgt x) vs ds t = tells-target p (at vs x) (at ds x) (tells-at vs ds x t)
  tells-plain p (Part x n) vs ds t = tells-nth (parts (at vs x)) (parts (at ds x)) n (tells-parts (at vs x) (at ds x) (tells-at vs ds x t))
  tells-plain p MinusOne vs ds t = refl
  tells-plain p (Exists x) vs ds t = tells-exists (at vs x) (at ds x) (tells-at vs ds x t)
  tells-plain p (Both x y) vs ds t = tells-both (at vs x) (at vs y) (at ds x) (at ds y) (tells-at vs ds x t) (tells-at vs ds y t)
  tells-plain p (When x y) vs ds t = tells-when (at vs x) (at vs y) (at ds x) (at ds y) (tells-at vs ds x t) (tells-at vs ds y t)
  tells-plain p (Tuple xs) vs ds t = tells-after0 (all_at vs xs) (all_at ds xs) (tells-all-at vs ds xs t)

module _ {O M : Type 0} (C : CategoryData O (Between O M)) where
  datum-get : (ds : List (ValueOver O M)) (n : ℕ) → AreData C ds → IsDatum C (unwrap_or (slice_get ds n) none)
  datum-get [] n a = tt
  datum-get (d ∷ ds) zero a = a.0
  datum-get (d ∷ ds) (suc n) a = datum-get ds n a.1

  pub datum-at : (ds : List (ValueOver O M)) (x : Var) → AreData C ds → IsDatum C (at ds x)
  datum-at ds x a = datum-get ds x.0 a

  pub data-at : (ds : List (ValueOver O M)) (xs : List Var) → AreData C ds → AreData C (all_at ds xs)
  data-at ds [] a = tt
  data-at ds (x ∷ xs) a = (datum-at ds x a, data-at ds xs a)

  datum-source : (p : ℕ) (d : ValueOver O M) → IsDatum C d → IsDatum C (source_of (over p) d)
  datum-source p (morphism f) i = i.src
  datum-source p _ i = tt

  datum-target : (p : ℕ) (d : ValueOver O M) → IsDatum C d → IsDatum C (target_of (over p) d)
  datum-target p (morphism f) i = i.tgt
  datum-target p _ i = tt

  datum-parts : (d : ValueOver O M) → IsDatum C d → AreData C (parts d)
  datum-parts (two p q) i = (i.0, (i.1, tt))
  datum-parts (four p q r s) i = (i.0, (i.1, (i.2, (i.3, tt))))
  datum-parts _ i = tt

  datum-nth : (ds : List (ValueOver O M)) (n : ℕ) → AreData C ds → IsDatum C (unwrap_or (nth_from_one ds n) none)
  datum-nth ds zero a = tt
  datum-nth ds (suc n) a = datum-get ds n a

  datum-exists : (d : ValueOver O M) → IsDatum C (exists_of d)
  datum-exists none = tt
  datum-exists _ = tt

  datum-both : (d e : ValueOver O M) → IsDatum C (both_of d e)
  datum-both (truth a) (truth b) = tt
  datum-both _ _ = tt

  datum-when : (d e : ValueOver O M) → IsDatum C e → IsDatum C (when_of d e)
  datum-when (truth true) e i = i
  datum-when _ e i = tt

  datum-tuple : (ds : List (ValueOver O M)) → AreData C ds → IsDatum C (tuple_of ds)
  datum-tuple (morphism p ∷ morphism q ∷ []) a = (a.0, a.1.0)
  datum-tuple (morphism p ∷ morphism q ∷ morphism r ∷ morphism s ∷ []) a = (a.0, a.1.0, a.1.1.0, a.1.1.1.0)
  datum-tuple _ a = tt

  pub datum-plain : (s : Step) (ds : List (ValueOver O M)) → 1 ≤ C.prime → AreData C ds → IsDatum C (plain (over C.prime) s ds)
  datum-plain (Call op xs) ds low a = tt
  datum-plain (Src x) ds low a = datum-source C.prime (at ds x) (datum-at ds x a)
  datum-plain (Tgt x) ds low a = datum-target C.prime (at ds x) (datum-at ds x a)
  datum-plain (Part x n) ds low a = datum-nth (parts (at ds x)) n (datum-parts (at ds x) (datum-at ds x a))
  datum-plain MinusOne ds low a = omega (arith, low)
  datum-plain (Exists x) ds low a = datum-exists (at ds x)
  datum-plain (Both x y) ds low a = datum-both (at ds x) (at ds y)
  datum-plain (When x y) ds low a = datum-when (at ds x) (at ds y) (datum-at ds y a)
  datum-plain (Tuple xs) ds low a = datum-tuple (all_at ds xs) (data-at ds xs a)
