-- The shape that the checker finds for a step is the only one with which the step is typed.
use Rattle.std.proofs.Common.{◌≡◌, ℕ, ◌<◌, List, [], ◌∷◌, length, refl, sym, ap, ◌∙◌}
use Rattle.std.specs.Prelude.{Option, Some, None, option_and_then, option_map, slice_get, map}
use Rattle.std.proofs.lemmas.List.Elements.{All-nil, All-cons, All-head, All-tail}
use Rattle.std.proofs.lemmas.Option.{slice_get_within}
use Rattle.cap_ops.specs.declared.ends.Ends.{Ends}
use Rattle.cap_ops.specs.declared.ends.Shape.{Shape}
use Rattle.cap_ops.specs.declared.ends.Shape.TheVariants.{Object, Morphism, Two, Four, Truth, Scalar}
use Rattle.cap_terms.specs.declared.body.Var.{Var}
use Rattle.cap_terms.specs.declared.body.Step.{Step}
use Rattle.cap_terms.specs.declared.body.Step.TheVariants.{Call, Src, Tgt, Part, MinusOne, Exists, Both, When, Tuple}
use Rattle.cap_terms.specs.declared.symbol.Symbol.{Symbol}
use Rattle.cap_terms.specs.Run.{nth_from_one}
use Rattle.cap_terms.specs.Typing.{Assignment, AllBefore, shapes_at, parts_of, tuple_shape, HasMorphisms, CanExist, StepTyped}
use Rattle.cap_terms.specs.Checker.{source_shape, target_shape, part_shape, exists_shape, both_shape, morphisms_only, when_shape, ends_of, ends_at, tuple_at, step_shape}
use Rattle.cap_ops.proofs.Places.{none≢some, some_inner}
use Rattle.cap_terms.proofs.Calls.{Knows, shape_known, call-sound, call-complete}

source-sound : (t answer : Shape Symbol) → source_shape t ≡ Some answer → (e : Ends Symbol) × (t ≡ Morphism e) × (answer ≡ Object e.src)
source-sound (Morphism e) answer h = (e, refl, sym (some_inner h))
source-sound _ answer h = absurd (none≢some h)

target-sound : (t answer : Shape Symbol) → target_shape t ≡ Some answer → (e : Ends Symbol) × (t ≡ Morphism e) × (answer ≡ Object e.tgt)
target-sound (Morphism e) answer h = (e, refl, sym (some_inner h))
target-sound _ answer h = absurd (none≢some h)

part-sound : (n : ℕ) (t answer : Shape Symbol) → part_shape n t ≡ Some answer → (e : Ends Symbol) × (nth_from_one (parts_of t) n ≡ Some e) × (answer ≡ Morphism e)
part-sound n t answer h = go (nth_from_one (parts_of t) n) refl h
  where
    go : (o : Option (Ends Symbol)) → nth_from_one (parts_of t) n ≡ o → option_map Morphism o ≡ Some answer → (e : Ends Symbol) × (nth_from_one (parts_of t) n ≡ Some e) × (answer ≡ Morphism e)
    go None at f = absurd (none≢some f)
    go (Some e) at f = (e, at, sym (some_inner f))

exists-sound : (t answer : Shape Symbol) → exists_shape t ≡ Some answer → CanExist t × (answer ≡ Truth)
exists-sound (Object a) answer h = absurd (none≢some h)
exists-sound Scalar answer h = absurd (none≢some h)
exists-sound _ answer h = (tt, sym (some_inner h))

exists-complete : (t : Shape Symbol) → CanExist t → exists_shape t ≡ Some Truth
exists-complete (Object a) h = absurd h
exists-complete Scalar h = absurd h
exists-complete _ h = refl

both-sound : (s t answer : Shape Symbol) → both_shape s t ≡ Some answer → (s ≡ Truth) × (t ≡ Truth) × (answer ≡ Truth)
both-sound Truth Truth answer h = (refl, refl, sym (some_inner h))
both-sound _ _ answer h = absurd (none≢some h)

morphisms-sound : (t answer : Shape Symbol) → morphisms_only t ≡ Some answer → HasMorphisms t × (answer ≡ t)
morphisms-sound (Morphism e) answer h = (tt, sym (some_inner h))
morphisms-sound (Two d e) answer h = (tt, sym (some_inner h))
morphisms-sound (Four c d e f) answer h = (tt, sym (some_inner h))
morphisms-sound _ answer h = absurd (none≢some h)

morphisms-complete : (t : Shape Symbol) → HasMorphisms t → morphisms_only t ≡ Some t
morphisms-complete (Morphism e) h = refl
morphisms-complete (Two d e) h = refl
morphisms-complete (Four c d e f) h = refl
morphisms-complete _ h = absurd h

when-sound : (s t answer : Shape Symbol) → when_shape s t ≡ Some answer → (s ≡ Truth) × HasMorphisms t × (answer ≡ t)
when-sound Truth t answer h = let m = morphisms-sound t answer h in (refl, m.0, m.1)
when-sound _ t answer h = absurd (none≢some h)

ends-sound : {X : Type 0} (f : Ends Symbol → Option X) (t : Shape Symbol) (answer : X) → option_and_then f (ends_of t) ≡ Some answer → (e : Ends Symbol) × (t ≡ Morphism e) × (f e ≡ Some answer)
ends-sound f (Morphism e) answer h = (e, refl, h)
ends-sound f _ answer h = absurd (none≢some h)

and_then_assoc : {X Y Z : Type 0} (f : Y → Option Z) (g : X → Option Y) (o : Option X) → option_and_then f (option_and_then g o) ≡ option_and_then (λ x. option_and_then f (g x)) o
and_then_assoc f g None = refl
and_then_assoc f g (Some x) = refl

module _ (known : List (Shape Symbol)) (T : Assignment) (knows : Knows known T) where
  -- a step that looks at one variable
  pub look-sound : {X : Type 0} (f : Shape Symbol → Option X) (x : ℕ) (answer : X) → option_and_then f (slice_get known x) ≡ Some answer → (x < length known) × (f (T x) ≡ Some answer)
  look-sound {X} f x answer h = go (slice_get known x) refl h
    where
      go : (o : Option (Shape Symbol)) → slice_get known x ≡ o → option_and_then f o ≡ Some answer → (x < length known) × (f (T x) ≡ Some answer)
      go None at e = absurd (none≢some e)
      go (Some t) at e = (slice_get_within known x t at, rw (shape_known known T knows x t at) e)

  pub look-complete : {X : Type 0} (f : Shape Symbol → Option X) (x : ℕ) (answer : X) → x < length known → f (T x) ≡ Some answer → option_and_then f (slice_get known x) ≡ Some answer
  look-complete f x answer inside e = rw (knows.is x inside) e

  look-ends : {X : Type 0} (f : Ends Symbol → Option X) (x : Var) (answer : X) → option_and_then f (ends_at known x) ≡ Some answer → (x.0 < length known) × (e : Ends Symbol) × (T x.0 ≡ Morphism e) × (f e ≡ Some answer)
  look-ends f x answer h =
      let l : (x.0 < length known) × (option_and_then f (ends_of (T x.0)) ≡ Some answer) = look-sound (λ t. option_and_then f (ends_of t)) x.0 answer (sym (and_then_assoc f ends_of (slice_get known x.0)) ∙ h) in
      let e = ends-sound f (T x.0) answer l.1 in
      (l.0, e.0, e.1, e.2)

  ends-complete : {X : Type 0} (f : Ends Symbol → Option X) (x : Var) (e : Ends Symbol) → x.0 < length known → T x.0 ≡ Morphism e → option_and_then f (ends_at known x) ≡ f e
  ends-complete f x e inside at = rw (knows.is x.0 inside, at) refl

  before_none : AllBefore (length known) []
  before_none = All-nil (λ x. x.0 < length known)

  before_all : (x : Var) (xs : List Var) → x.0 < length known → AllBefore (length known) xs → AllBefore (length known) (x ∷ xs)
  before_all x xs = All-cons (λ v. v.0 < length known) x xs

  before_head : (x : Var) (xs : List Var) → AllBefore (length known) (x ∷ xs) → x.0 < length known
  before_head x xs = All-head (λ v. v.0 < length known) x xs

  before_tail : (x : Var) (xs : List Var) → AllBefore (length known) (x ∷ xs) → AllBefore (length known) xs
  before_tail x xs = All-tail (λ v. v.0 < length known) x xs

  tuple-sound : (xs : List Var) (answer : Shape Symbol) → tuple_at known xs ≡ Some answer → AllBefore (length known) xs × (es : List (Ends Symbol)) × (shapes_at T xs ≡ map Morphism es) × (tuple_shape es ≡ Some answer)
  tuple-sound (x ∷ y ∷ []) answer h =
      let a = look-ends (λ d. option_and_then (λ e. Some (Two d e)) (ends_at known y)) x answer h in
      let b = look-ends (λ e. Some (Two a.1 e)) y answer a.3 in
      let p = a.2 in let q = b.2 in
      (before_all x (y ∷ []) a.0 (before_all y [] b.0 before_none), a.1 ∷ b.1 ∷ [], cc, b.3)
  tuple-sound (x ∷ y ∷ z ∷ w ∷ []) answer h =
      let a = look-ends (λ c. option_and_then (λ d. option_and_then (λ e. option_and_then (λ f. Some (Four c d e f)) (ends_at known w)) (ends_at known z)) (ends_at known y)) x answer h in
      let b = look-ends (λ d. option_and_then (λ e. option_and_then (λ f. Some (Four a.1 d e f)) (ends_at known w)) (ends_at known z)) y answer a.3 in
      let c = look-ends (λ e. option_and_then (λ f. Some (Four a.1 b.1 e f)) (ends_at known w)) z answer b.3 in
      let d = look-ends (λ f. Some (Four a.1 b.1 c.1 f)) w answer c.3 in
      let p = a.2 in let q = b.2 in let r = c.2 in let s = d.2 in
      (before_all x (y ∷ z ∷ w ∷ []) a.0 (before_all y (z ∷ w ∷ []) b.0 (before_all z (w ∷ []) c.0 (before_all w [] d.0 before_none))), a.1 ∷ b.1 ∷ c.1 ∷ d.1 ∷ [], cc, d.3)
  tuple-sound _ answer h = absurd (none≢some h)

  tuple-complete : (es : List (Ends Symbol)) (xs : List Var) (answer : Shape Symbol) → AllBefore (length known) xs → shapes_at T xs ≡ map Morphism es → tuple_shape es ≡ Some answer → tuple_at known xs ≡ Some answer
  tuple-complete (d ∷ e ∷ []) (x ∷ y ∷ []) answer before same is =
      let one : T x.0 ≡ Morphism d = cc in
      let two : T y.0 ≡ Morphism e = cc in
      let rest = before_tail x (y ∷ []) before in
      ends-complete (λ d. option_and_then (λ e. Some (Two d e)) (ends_at known y)) x d (before_head x (y ∷ []) before) one ∙ ends-complete (λ e. Some (Two d e)) y e (before_head y [] rest) two ∙ is
  tuple-complete (d ∷ e ∷ []) xs answer before same is = absurd (cc)
  tuple-complete (c ∷ d ∷ e ∷ f ∷ []) (x ∷ y ∷ z ∷ w ∷ []) answer before same is =
      let one : T x.0 ≡ Morphism c = cc in
      let two : T y.0 ≡ Morphism d = cc in
      let three : T z.0 ≡ Morphism e = cc in
      let four : T w.0 ≡ Morphism f = cc in
      let rest = before_tail x (y ∷ z ∷ w ∷ []) before in
      let last = before_tail y (z ∷ w ∷ []) rest in
      ends-complete (λ c. option_and_then (λ d. option_and_then (λ e. option_and_then (λ f. Some (Four c d e f)) (ends_at known w)) (ends_at known z)) (ends_at known y)) x c (before_head x (y ∷ z ∷ w ∷ []) before) one
      ∙ ends-complete (λ d. option_and_then (λ e. option_and_then (λ f. Some (Four c d e f)) (ends_at known w)) (ends_at known z)) y d (before_head y (z ∷ w ∷ []) rest) two
      ∙ ends-complete (λ e. option_and_then (λ f. Some (Four c d e f)) (ends_at known w)) z e (before_head z (w ∷ []) last) three
      ∙ ends-complete (λ f. Some (Four c d e f)) w f (before_head w [] (before_tail z (w ∷ []) last)) four
      ∙ is
  tuple-complete (c ∷ d ∷ e ∷ f ∷ []) xs answer before same is = absurd (cc)
  tuple-complete _ xs answer before same is = absurd (none≢some is)

  pub step-sound : (k : ℕ) (s : Step) (answer : Shape Symbol) → step_shape known k s ≡ Some answer → StepTyped T (length known) k s answer
  step-sound k (Call op xs) answer h = call-sound known T knows k op.0 xs answer h
  step-sound k (Src x) answer h = let l = look-sound source_shape x.0 answer h in let e = source-sound (T x.0) answer l.1 in (l.0, e.0, e.1, e.2)
  step-sound k (Tgt x) answer h = let l = look-sound target_shape x.0 answer h in let e = target-sound (T x.0) answer l.1 in (l.0, e.0, e.1, e.2)
  step-sound k (Part x n) answer h = let l = look-sound (part_shape n) x.0 answer h in let e = part-sound n (T x.0) answer l.1 in (l.0, e.0, e.1, e.2)
  step-sound k MinusOne answer h = sym (some_inner h)
  step-sound k (Exists x) answer h = let l = look-sound exists_shape x.0 answer h in let e = exists-sound (T x.0) answer l.1 in (l.0, e.0, e.1)
  step-sound k (Both x y) answer h =
      let l = look-sound (λ s. option_and_then (both_shape s) (slice_get known y.0)) x.0 answer h in
      let m = look-sound (both_shape (T x.0)) y.0 answer l.1 in
      let e = both-sound (T x.0) (T y.0) answer m.1 in
      (l.0, m.0, e.0, e.1, e.2)
  step-sound k (When x y) answer h =
      let l = look-sound (λ s. option_and_then (when_shape s) (slice_get known y.0)) x.0 answer h in
      let m = look-sound (when_shape (T x.0)) y.0 answer l.1 in
      let e = when-sound (T x.0) (T y.0) answer m.1 in
      (l.0, m.0, e.0, e.1, e.2)
  step-sound k (Tuple xs) answer h = tuple-sound xs answer h

  pub step-complete : (k : ℕ) (s : Step) (answer : Shape Symbol) → StepTyped T (length known) k s answer → step_shape known k s ≡ Some answer
  step-complete k (Call op xs) answer h = call-complete known T knows k op.0 xs answer h.0 h.1
  step-complete k (Src x) answer h = look-complete source_shape x.0 answer h.0 (rw (h.2, h.3) refl)
  step-complete k (Tgt x) answer h = look-complete target_shape x.0 answer h.0 (rw (h.2, h.3) refl)
  step-complete k (Part x n) answer h = look-complete (part_shape n) x.0 answer h.0 (rw (h.2, h.3) refl)
  step-complete k MinusOne answer h = ap Some (sym h)
  step-complete k (Exists x) answer h = look-complete exists_shape x.0 answer h.0 (exists-complete (T x.0) h.1 ∙ ap Some (sym h.2))
  step-complete k (Both x y) answer h =
      look-complete (λ s. option_and_then (both_shape s) (slice_get known y.0)) x.0 answer h.0 (look-complete (both_shape (T x.0)) y.0 answer h.1 (rw (h.2, h.3, h.4) refl))
  step-complete k (When x y) answer h =
      look-complete (λ s. option_and_then (when_shape s) (slice_get known y.0)) x.0 answer h.0 (look-complete (when_shape (T x.0)) y.0 answer h.1 (rw h.2 (morphisms-complete (T y.0) h.3 ∙ ap Some (sym h.4))))
  step-complete k (Tuple xs) answer h = tuple-complete h.1 xs answer h.0 h.2 h.3
