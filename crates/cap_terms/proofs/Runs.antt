-- Runs of typed bodies: the values have the sorts and ends of their variables, so each call fits.
use Rattle.std.proofs.Common.{◌≡◌, ◌≢◌, ℕ, zero, suc, ◌+◌, ◌<◌, ◌≤◌, Bool, true, false, List, [], ◌∷◌, ◌++◌, length, refl, sym, ap, ◌∙◌, subst, arith, ◌⊎◌, inl, inr, length-append, eqb}
use Rattle.std.specs.Prelude.{MatchBool, Option, Some, None, slice_get, map, unwrap_or, ◌||◌, ◌==◌, if◌then◌else◌}
use Rattle.std.proofs.lemmas.Bool.{eqb-true, eqb-false, eq-eqb}
use Rattle.std.proofs.lemmas.List.Elements.{All-head, All-tail}
use Rattle.cap_ops.specs.declared.ends.Ends.{Ends}
use Rattle.cap_ops.specs.declared.ends.Shape.{Shape}
use Rattle.cap_ops.specs.declared.ends.Shape.TheVariants.{Object, Morphism, Two, Four, Truth, Scalar}
use Rattle.cap_ops.specs.Ends.{profile_of, places}
use Rattle.cap_ops.specs.Values.{Value, morphism, two, four, truth, scalar, none, Setting, HasEnds, HasShape, HaveShapes, Fits, FitsWithAnswer}
use Rattle.cap_terms.specs.declared.body.Var.{Var}
use Rattle.cap_terms.specs.declared.body.Step.{Step}
use Rattle.cap_terms.specs.declared.body.Step.TheVariants.{Call, Src, Tgt, Part, MinusOne, Exists, Both, When, Tuple}
use Rattle.cap_terms.specs.declared.symbol.Symbol.{Symbol}
use Rattle.cap_terms.specs.declared.symbol.Symbol.TheVariants.{Given, Made}
use Rattle.cap_terms.specs.Run.{done, large, at, all_at, is_none, has_none, source_of, target_of, nth_from_one, part_of, exists_of, both_of, when_of, tuple_of, StepGives, StepsGive, ComesTo}
use Rattle.cap_terms.specs.Typing.{Assignment, AllBefore, shapes_at, CallTyped, parts_of, tuple_shape, StepTyped}
use Rattle.cap_terms.specs.Ends.{EndsGive}
use Rattle.cap_ops.proofs.Places.{Among, none≢some, some_inner, slice_get-left, slice_get-end}
use Rattle.cap_ops.proofs.Shapes.{renamed-HasShape, HasShape-wider, HaveShapes-renamed, same-objects}
use Rattle.cap_terms.proofs.Calls.{Among-contains}

done_inner : {Obj Mor : Type 0} {v w : Value Obj Mor} → done v ≡ done w → v ≡ w
done_inner e = cc

-- the steps from number k on are typed, where the answer of the first is variable n
abbrev pub TypedFrom : Assignment → ℕ → ℕ → List Step → Type 0
TypedFrom T n k [] = Unit {0}
TypedFrom T n k (s ∷ ss) = StepTyped T n k s (T n) × TypedFrom T (suc n) (suc k) ss

module _ {Obj Mor : Type 0} (S : Setting Obj Mor) where
  -- `none`, or a value of the shape
  abbrev pub IsAt : (Symbol → Option Obj) → Shape Symbol → Value Obj Mor → Type 0
  IsAt τ t v = (v ≡ none) ⊎ HasShape S τ t v

  -- the values of the first n variables have the shapes of the variables, where no object is named yet that step k or a later one makes
  pub record Held (T : Assignment) (n k : ℕ) (values : List (Value Obj Mor)) (τ : Symbol → Option Obj) : Type 0 where
    pub many : length values ≡ n
    pub unmade : (j letter : ℕ) → k ≤ j → τ (Made j letter) ≡ None
    pub shaped : (x : Var) → x.0 < n → IsAt τ (T x.0) (at values x)

  source-at : (τ : Symbol → Option Obj) (e : Ends Symbol) (v : Value Obj Mor) → IsAt τ (Morphism e) v → IsAt τ (Object e.src) (source_of S v)
  source-at τ e (morphism f) (inr h) = inr h.0
  source-at τ e v (inl h) = inl (ap (source_of S) h)
  source-at τ e _ (inr h) = absurd h

  target-at : (τ : Symbol → Option Obj) (e : Ends Symbol) (v : Value Obj Mor) → IsAt τ (Morphism e) v → IsAt τ (Object e.tgt) (target_of S v)
  target-at τ e (morphism f) (inr h) = inr h.1
  target-at τ e v (inl h) = inl (ap (target_of S) h)
  target-at τ e _ (inr h) = absurd h

  exists-at : (τ : Symbol → Option Obj) (v : Value Obj Mor) → IsAt τ Truth (exists_of v)
  exists-at τ none = inr tt
  exists-at τ _ = inr tt

  both-at : (τ : Symbol → Option Obj) (v w : Value Obj Mor) → IsAt τ Truth v → IsAt τ Truth w → IsAt τ Truth (both_of v w)
  both-at τ (truth a) (truth b) (inr h) (inr k) = inr tt
  both-at τ (truth a) w (inr h) (inl k) = inl (ap (both_of (truth a)) k)
  both-at τ v w (inl h) k = inl (ap (λ u. both_of u w) h)
  both-at τ (truth a) _ (inr h) (inr k) = absurd k
  both-at τ _ w (inr h) k = absurd h

  when-at : (τ : Symbol → Option Obj) (t : Shape Symbol) (b v : Value Obj Mor) → IsAt τ Truth b → IsAt τ t v → IsAt τ t (when_of b v)
  when-at τ t (truth true) v (inr h) k = k
  when-at τ t (truth false) v (inr h) k = inl refl
  when-at τ t b v (inl h) k = inl (ap (λ u. when_of u v) h)
  when-at τ t _ v (inr h) k = absurd h

  part-none : (n : ℕ) → part_of {Obj = Obj} {Mor = Mor} none n ≡ none
  part-none zero = refl
  part-none (suc n) = refl

  no-part : {X : Type 0} (n : ℕ) (x : X) → nth_from_one [] n ≡ Some x → ⊥
  no-part zero x h = none≢some h
  no-part (suc n) x h = none≢some h

  is-morphism : (τ : Symbol → Option Obj) (d e : Ends Symbol) (f : Mor) → Some d ≡ Some e → HasEnds S τ d f → IsAt τ (Morphism e) (morphism f)
  is-morphism τ d e f same h = inr (subst (λ c. HasEnds S τ c f) (some_inner same) h)

  part-at : (τ : Symbol → Option Obj) (t : Shape Symbol) (n : ℕ) (e : Ends Symbol) (v : Value Obj Mor) → nth_from_one (parts_of t) n ≡ Some e → IsAt τ t v → IsAt τ (Morphism e) (part_of v n)
  part-at τ t n e v is (inl h) = inl (ap (λ u. part_of u n) h ∙ part-none n)
  part-at τ (Two c d) zero e (two p q) is (inr h) = absurd (none≢some is)
  part-at τ (Two c d) (suc zero) e (two p q) is (inr h) = is-morphism τ c e p is h.0
  part-at τ (Two c d) (suc (suc zero)) e (two p q) is (inr h) = is-morphism τ d e q is h.1
  part-at τ (Two c d) (suc (suc (suc n))) e (two p q) is (inr h) = absurd (none≢some is)
  part-at τ (Four a b c d) zero e (four p q r s) is (inr h) = absurd (none≢some is)
  part-at τ (Four a b c d) (suc zero) e (four p q r s) is (inr h) = is-morphism τ a e p is h.0
  part-at τ (Four a b c d) (suc (suc zero)) e (four p q r s) is (inr h) = is-morphism τ b e q is h.1
  part-at τ (Four a b c d) (suc (suc (suc zero))) e (four p q r s) is (inr h) = is-morphism τ c e r is h.2
  part-at τ (Four a b c d) (suc (suc (suc (suc zero)))) e (four p q r s) is (inr h) = is-morphism τ d e s is h.3
  part-at τ (Four a b c d) (suc (suc (suc (suc (suc n))))) e (four p q r s) is (inr h) = absurd (none≢some is)
  part-at τ (Two c d) n e _ is (inr h) = absurd h
  part-at τ (Four a b c d) n e _ is (inr h) = absurd h
  part-at τ _ n e v is (inr h) = absurd (no-part n e is)

  two-at : (τ : Symbol → Option Obj) (d e : Ends Symbol) (v w : Value Obj Mor) → IsAt τ (Morphism d) v → IsAt τ (Morphism e) w → IsAt τ (Two d e) (tuple_of (v ∷ w ∷ []))
  two-at τ d e (morphism p) (morphism q) (inr h) (inr k) = inr (h, k)
  two-at τ d e (morphism p) w (inr h) (inl k) = inl (ap (λ u. tuple_of (morphism p ∷ u ∷ [])) k)
  two-at τ d e v w (inl h) k = inl (ap (λ u. tuple_of (u ∷ w ∷ [])) h)
  two-at τ d e (morphism p) _ (inr h) (inr k) = absurd k
  two-at τ d e _ w (inr h) k = absurd h

  four-at : (τ : Symbol → Option Obj) (a b c d : Ends Symbol) (v w x y : Value Obj Mor) → IsAt τ (Morphism a) v → IsAt τ (Morphism b) w → IsAt τ (Morphism c) x → IsAt τ (Morphism d) y → IsAt τ (Four a b c d) (tuple_of (v ∷ w ∷ x ∷ y ∷ []))
  four-at τ a b c d (morphism p) (morphism q) (morphism r) (morphism s) (inr h) (inr k) (inr l) (inr m) = inr (h, k, l, m)
  four-at τ a b c d (morphism p) (morphism q) (morphism r) y (inr h) (inr k) (inr l) (inl m) = inl (ap (λ u. tuple_of (morphism p ∷ morphism q ∷ morphism r ∷ u ∷ [])) m)
  four-at τ a b c d (morphism p) (morphism q) x y (inr h) (inr k) (inl l) m = inl (ap (λ u. tuple_of (morphism p ∷ morphism q ∷ u ∷ y ∷ [])) l)
  four-at τ a b c d (morphism p) w x y (inr h) (inl k) l m = inl (ap (λ u. tuple_of (morphism p ∷ u ∷ x ∷ y ∷ [])) k)
  four-at τ a b c d v w x y (inl h) k l m = inl (ap (λ u. tuple_of (u ∷ w ∷ x ∷ y ∷ [])) h)
  four-at τ a b c d (morphism p) (morphism q) (morphism r) _ (inr h) (inr k) (inr l) (inr m) = absurd m
  four-at τ a b c d (morphism p) (morphism q) _ y (inr h) (inr k) (inr l) m = absurd l
  four-at τ a b c d (morphism p) _ x y (inr h) (inr k) l m = absurd k
  four-at τ a b c d _ w x y (inr h) k l m = absurd h

  among_or_not : (xs : List ℕ) (y : ℕ) → Among xs y ⊎ (Among xs y → ⊥)
  among_or_not [] y = inr (λ m. m)
  among_or_not (x ∷ xs) y = go (eqb x y) refl (among_or_not xs y)
    where
      go : (t : Bool) → eqb x y ≡ t → Among xs y ⊎ (Among xs y → ⊥) → Among (x ∷ xs) y ⊎ (Among (x ∷ xs) y → ⊥)
      go true e rest = inl (inl (eqb-true x y e))
      go false e (inl m) = inl (inr m)
      go false e (inr out) = inr (λ m. elim m [ inl same ↦ eqb-false x y e same | inr r ↦ out r ])

  not-none : (τ : Symbol → Option Obj) (t : Shape Symbol) (v : Value Obj Mor) → IsAt τ t v → is_none v ≡ false → HasShape S τ t v
  not-none τ t v (inl h) e = let f = ap is_none h in absurd (cc)
  not-none τ t v (inr h) e = h

  either-false : (a b : Bool) → (a || b) ≡ false → (a ≡ false) × (b ≡ false)
  either-false false b e = (refl, e)
  either-false true b e = absurd (cc)

  module _ (T : Assignment) (n k : ℕ) (values : List (Value Obj Mor)) (τ : Symbol → Option Obj) (held : Held T n k values τ) where
    all-shaped : (xs : List Var) → AllBefore n xs → has_none (all_at values xs) ≡ false → HaveShapes S τ (shapes_at T xs) (all_at values xs)
    all-shaped [] before e = tt
    all-shaped (x ∷ xs) before e =
        let f = either-false (is_none (at values x)) (has_none (all_at values xs)) e in
        (not-none τ (T x.0) (at values x) (held.shaped x (All-head (λ y. y.0 < n) x xs before)) f.0, all-shaped xs (All-tail (λ y. y.0 < n) x xs before) f.1)

    -- the arguments of a typed call fit, where none of them is `none`
    module _ (op : ℕ) (xs : List Var) (before : AllBefore n xs) (answer : Shape Symbol) (call : CallTyped k op (shapes_at T xs) answer) (some : has_none (all_at values xs) ≡ false) where
      named : HaveShapes S (λ x. τ (call.objects x)) (profile_of op).arguments (all_at values xs)
      named = HaveShapes-renamed S τ call.objects (profile_of op).arguments (all_at values xs) (subst (λ ss. HaveShapes S τ ss (all_at values xs)) call.arguments (all-shaped xs before some))

      pub call-fits : Fits S op (all_at values xs)
      call-fits = record { operation = call.operation; objects = λ x. τ (call.objects x); arguments = named }

      -- the objects that the answer brings get the names of this step
      with_made : (ℕ → Option Obj) → Symbol → Option Obj
      with_made objects (Given x) = τ (Given x)
      with_made objects (Made j letter) = if j == k then objects letter else τ (Made j letter)

      given_kept : (objects : ℕ → Option Obj) (x : ℕ) → with_made objects (Given x) ≡ τ (Given x)
      unfolding with_made
      given_kept objects x = refl

      made : (objects : ℕ → Option Obj) (letter : ℕ) → with_made objects (Made k letter) ≡ objects letter
      unfolding with_made
      made objects letter = rw (eq-eqb k k refl) refl

      kept : (objects : ℕ → Option Obj) (s : Symbol) (a : Obj) → τ s ≡ Some a → with_made objects s ≡ Some a
      unfolding with_made
      kept objects (Given x) a e = e
      kept objects (Made j letter) a e = go (eqb j k) refl
        where
          go : (t : Bool) → eqb j k ≡ t → (if t then objects letter else τ (Made j letter)) ≡ Some a
          go true same = let jk = eqb-true j k same in absurd (none≢some (sym (held.unmade j letter (omega arith)) ∙ e))
          go false other = e

      still_unmade : (objects : ℕ → Option Obj) (j letter : ℕ) → suc k ≤ j → with_made objects (Made j letter) ≡ None
      unfolding with_made
      still_unmade objects j letter later = go (eqb j k) refl
        where
          go : (t : Bool) → eqb j k ≡ t → (if t then objects letter else τ (Made j letter)) ≡ None
          go true same = let jk = eqb-true j k same in absurd (omega arith)
          go false other = held.unmade j letter (omega arith)

      told : (v : Value Obj Mor) (fits : FitsWithAnswer S op (all_at values xs) v) (x : ℕ) (a : Obj) → fits.objects x ≡ Some a → with_made fits.objects (call.objects x) ≡ Some a
      told v fits x a e = elim (among_or_not (places (profile_of op).arguments) x) [
        | inl m ↦ kept fits.objects (call.objects x) a (same-objects S (λ y. τ (call.objects y)) fits.objects (profile_of op).arguments (all_at values xs) named fits.arguments x m ∙ e)
        | inr out ↦ ap (with_made fits.objects) (call.new_objects x (λ c. out (Among-contains (places (profile_of op).arguments) x c))) ∙ made fits.objects x ∙ e
      ]

      answer-at : (v : Value Obj Mor) (fits : FitsWithAnswer S op (all_at values xs) v) → IsAt (with_made fits.objects) answer v
      answer-at v fits = go fits.answer
        where
          go : (v ≡ none) ⊎ HasShape S fits.objects (profile_of op).answer v → IsAt (with_made fits.objects) answer v
          go (inl e) = inl e
          go (inr h) = inr (subst (λ s. HasShape S (with_made fits.objects) s v) (sym call.answered) (renamed-HasShape S (with_made fits.objects) call.objects (profile_of op).answer v (HasShape-wider S fits.objects (λ x. with_made fits.objects (call.objects x)) (profile_of op).answer v (λ x m a e. told v fits x a e) h)))

    IsAt-wider : (τ' : Symbol → Option Obj) → ((s : Symbol) (a : Obj) → τ s ≡ Some a → τ' s ≡ Some a) → (t : Shape Symbol) (v : Value Obj Mor) → IsAt τ t v → IsAt τ' t v
    IsAt-wider τ' wide t v (inl h) = inl h
    IsAt-wider τ' wide t v (inr h) = inr (HasShape-wider S τ τ' t v (λ x m a e. wide x a e) h)

    pushed : (τ' : Symbol → Option Obj) → ((s : Symbol) (a : Obj) → τ s ≡ Some a → τ' s ≡ Some a) → ((j letter : ℕ) → suc k ≤ j → τ' (Made j letter) ≡ None) → (w : Value Obj Mor) → IsAt τ' (T n) w → Held T (suc n) (suc k) (values ++ w ∷ []) τ'
    pushed τ' wide free w h = record {
      many = omega (arith, length-append values (w ∷ []), held.many);
      unmade = free;
      shaped = λ x inside. go x inside (eqb x.0 n) refl;
    }
      where
        go : (x : Var) → x.0 < suc n → (t : Bool) → eqb x.0 n ≡ t → IsAt τ' (T x.0) (at (values ++ w ∷ []) x)
        go x inside true same =
            let here : x.0 ≡ length values = eqb-true x.0 n same ∙ sym held.many in
            let is : at (values ++ w ∷ []) x ≡ w = ap (λ i. unwrap_or (slice_get (values ++ w ∷ []) i) none) here ∙ ap (λ o. unwrap_or o none) (slice_get-end values w) in
            rw (is, eqb-true x.0 n same) h
        go x inside false other =
            let apart : x.0 ≢ n = eqb-false x.0 n other in
            let before : x.0 < n = omega arith in
            let is : at (values ++ w ∷ []) x ≡ at values x = ap (λ o. unwrap_or o none) (slice_get-left values (w ∷ []) x.0 (omega (arith, held.many))) in
            rw is (IsAt-wider τ' wide (T x.0) (at values x) (held.shaped x before))

  -- what is held after one step more
  pub record Next (T : Assignment) (n k : ℕ) (values : List (Value Obj Mor)) (τ : Symbol → Option Obj) (w : Value Obj Mor) : Type 0 where
    pub names : Symbol → Option Obj
    pub held : Held T (suc n) (suc k) (values ++ w ∷ []) names
    pub given : (x : ℕ) → names (Given x) ≡ τ (Given x)

  module _ (T : Assignment) (n k : ℕ) (values : List (Value Obj Mor)) (τ : Symbol → Option Obj) (held : Held T n k values τ) where
    plainly : (t : Shape Symbol) (v w : Value Obj Mor) → T n ≡ t → done w ≡ done v → IsAt τ t v → Next T n k values τ w
    plainly t v w tn e h = record {
      names = τ;
      held = pushed T n k values τ held τ (λ s a f. f) (λ j letter later. held.unmade j letter (omega arith)) w (rw (tn, done_inner e) h);
      given = λ x. refl;
    }

    seen : (x : Var) (t : Shape Symbol) → x.0 < n → T x.0 ≡ t → IsAt τ t (at values x)
    seen x t inside e = subst (λ s. IsAt τ s (at values x)) e (held.shaped x inside)

    called : (op : ℕ) (xs : List Var) (w : Value Obj Mor) → AllBefore n xs → CallTyped k op (shapes_at T xs) (T n) → (b : Bool) → has_none (all_at values xs) ≡ b → MatchBool b (done w ≡ done none) (EndsGive S op (all_at values xs) (done w)) → Next T n k values τ w
    called op xs w before call true some g = plainly (T n) none w refl g (inl refl)
    called op xs w before call false some g =
        let fits : FitsWithAnswer S op (all_at values xs) w = g (call-fits T n k values τ held op xs before (T n) call some) in
        let names : Symbol → Option Obj = with_made T n k values τ held op xs before (T n) call some fits.objects in
        record {
          names = names;
          held = pushed T n k values τ held names (kept T n k values τ held op xs before (T n) call some fits.objects) (still_unmade T n k values τ held op xs before (T n) call some fits.objects) w
              (answer-at T n k values τ held op xs before (T n) call some w fits);
          given = given_kept T n k values τ held op xs before (T n) call some fits.objects;
        }

    tupled : (es : List (Ends Symbol)) (xs : List Var) (w : Value Obj Mor) → AllBefore n xs → shapes_at T xs ≡ map Morphism es → tuple_shape es ≡ Some (T n) → done w ≡ done (tuple_of (all_at values xs)) → Next T n k values τ w
    tupled (d ∷ e ∷ []) (x ∷ y ∷ []) w before same is g =
        let one : T x.0 ≡ Morphism d = cc in
        let two : T y.0 ≡ Morphism e = cc in
        plainly (Two d e) (tuple_of (all_at values (x ∷ y ∷ []))) w (sym (some_inner is)) g
        (two-at τ d e (at values x) (at values y) (seen x (Morphism d) (All-head (λ v. v.0 < n) x (y ∷ []) before) one) (seen y (Morphism e) (All-head (λ v. v.0 < n) y [] (All-tail (λ v. v.0 < n) x (y ∷ []) before)) two))
    tupled (d ∷ e ∷ []) xs w before same is g = absurd (cc)
    tupled (a ∷ b ∷ c ∷ d ∷ []) (x ∷ y ∷ z ∷ u ∷ []) w before same is g =
        let one : T x.0 ≡ Morphism a = cc in
        let two : T y.0 ≡ Morphism b = cc in
        let three : T z.0 ≡ Morphism c = cc in
        let four : T u.0 ≡ Morphism d = cc in
        let r = All-tail (λ v. v.0 < n) x (y ∷ z ∷ u ∷ []) before in
        let q = All-tail (λ v. v.0 < n) y (z ∷ u ∷ []) r in
        plainly (Four a b c d) (tuple_of (all_at values (x ∷ y ∷ z ∷ u ∷ []))) w (sym (some_inner is)) g
        (four-at τ a b c d (at values x) (at values y) (at values z) (at values u) (seen x (Morphism a) (All-head (λ v. v.0 < n) x (y ∷ z ∷ u ∷ []) before) one) (seen y (Morphism b) (All-head (λ v. v.0 < n) y (z ∷ u ∷ []) r) two)
        (seen z (Morphism c) (All-head (λ v. v.0 < n) z (u ∷ []) q) three) (seen u (Morphism d) (All-head (λ v. v.0 < n) u [] (All-tail (λ v. v.0 < n) z (u ∷ []) q)) four))
    tupled (a ∷ b ∷ c ∷ d ∷ []) xs w before same is g = absurd (cc)
    tupled _ xs w before same is g = absurd (none≢some is)

    -- what a typed step gives has the shape of its variable
    pub step-held : (s : Step) (w : Value Obj Mor) → StepTyped T n k s (T n) → StepGives S (EndsGive S) s values (done w) → Next T n k values τ w
    step-held (Call op xs) w h g = called op.0 xs w h.0 h.1 (has_none (all_at values xs)) refl g
    step-held (Src x) w h g = plainly (Object h.1.src) (source_of S (at values x)) w h.3 g (source-at τ h.1 (at values x) (seen x (Morphism h.1) h.0 h.2))
    step-held (Tgt x) w h g = plainly (Object h.1.tgt) (target_of S (at values x)) w h.3 g (target-at τ h.1 (at values x) (seen x (Morphism h.1) h.0 h.2))
    step-held (Part x i) w h g = plainly (Morphism h.1) (part_of (at values x) i) w h.3 g (part-at τ (T x.0) i h.1 (at values x) h.2 (held.shaped x h.0))
    step-held MinusOne w h g = plainly Scalar (scalar S.minus_one) w h g (inr tt)
    step-held (Exists x) w h g = plainly Truth (exists_of (at values x)) w h.2 g (exists-at τ (at values x))
    step-held (Both x y) w h g = plainly Truth (both_of (at values x) (at values y)) w h.4 g (both-at τ (at values x) (at values y) (seen x Truth h.0 h.2) (seen y Truth h.1 h.3))
    step-held (When x y) w h g = plainly (T y.0) (when_of (at values x) (at values y)) w h.4 g (when-at τ (T y.0) (at values x) (at values y) (seen x Truth h.0 h.2) (held.shaped y h.1))
    step-held (Tuple xs) w h g = tupled h.1 xs w h.0 h.2 h.3 g

  -- a call that a run comes to fits
  pub comes-fit : (T : Assignment) (ss : List Step) (n k : ℕ) (values : List (Value Obj Mor)) (τ : Symbol → Option Obj) → Held T n k values τ → TypedFrom T n k ss → (op : ℕ) (called : List (Value Obj Mor)) → ComesTo S (EndsGive S) ss values op called → Fits S op called
  comes-fit T [] n k values τ held typed op args c = absurd c
  comes-fit T (s ∷ ss) n k values τ held typed op args (inr c) =
      let next = step-held T n k values τ held s c.0 typed.0 c.1 in
      comes-fit T ss (suc n) (suc k) (values ++ c.0 ∷ []) next.names next.held typed.1 op args c.2
  comes-fit T (Call o xs ∷ ss) n k values τ held typed op args (inl c) =
      let fits : Fits S o.0 (all_at values xs) = call-fits T n k values τ held o.0 xs typed.0.0 (T n) typed.0.1 (ap has_none c.1 ∙ c.2) in
      subst (λ p. Fits S p args) c.0 (subst (λ a. Fits S o.0 a) c.1 fits)
  comes-fit T (_ ∷ ss) n k values τ held typed op args (inl c) = absurd c

  -- what a run ends with
  pub record Ended (T : Assignment) (x : Var) (τ : Symbol → Option Obj) (v : Value Obj Mor) : Type 0 where
    pub names : Symbol → Option Obj
    pub is : IsAt names (T x.0) v
    pub given : (y : ℕ) → names (Given y) ≡ τ (Given y)

  pub ends-at : (T : Assignment) (ss : List Step) (n k : ℕ) (values : List (Value Obj Mor)) (τ : Symbol → Option Obj) → Held T n k values τ → TypedFrom T n k ss → (x : Var) → x.0 < n + length ss → (v : Value Obj Mor) → StepsGive S (EndsGive S) ss values x (done v) → Ended T x τ v
  ends-at T [] n k values τ held typed x inside v g = record { names = τ; is = rw (done_inner g) (held.shaped x (omega arith)); given = λ y. refl }
  ends-at T (s ∷ ss) n k values τ held typed x inside v (large r c, g, e) = absurd (cc)
  ends-at T (s ∷ ss) n k values τ held typed x inside v (done w, g, e) =
      let next = step-held T n k values τ held s w typed.0 g in
      let end = ends-at T ss (suc n) (suc k) (values ++ w ∷ []) next.names next.held typed.1 x (omega arith) v e in
      record { names = end.names; is = end.is; given = λ y. end.given y ∙ next.given y }
