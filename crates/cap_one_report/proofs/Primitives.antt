-- What a primitive answers to arguments is one, with its ends, or it is too large, never both.
use Rattle.std.proofs.Common.{◌≡◌, ℕ, Bool, true, false, List, [], ◌∷◌, Option, Some, refl, sym, ap, subst, ◌∙◌, inl, inr}
use Rattle.std.specs.Prelude.{map}
use Rattle.cap_names.specs.declared.identifiers.Handle.{Handle}
use Rattle.cap_ops.specs.declared.arrows.Arrow.{Arrow}
use Rattle.cap_ops.specs.declared.arrows.End.{End}
use Rattle.cap_ops.specs.declared.arrows.OutArrow.{OutArrow}
use Rattle.cap_ops.specs.declared.ends.Ends.{Ends}
use Rattle.cap_ops.specs.declared.ends.Shape.{Shape}
use Rattle.cap_ops.specs.declared.ends.Shape.TheVariants.{Object, Morphism, Two, Four, Truth, Scalar}
use Rattle.cap_ops.specs.declared.keys.Arg.{Arg}
use Rattle.cap_ops.specs.declared.keys.Arg.TheVariants.{Obj, Mor, Num}
use Rattle.cap_ops.specs.declared.keys.Out.{Out}
use Rattle.cap_ops.specs.declared.keys.Out.TheVariants as out
use Rattle.cap_ops.specs.declared.keys.PrimOut.{PrimOut}
use Rattle.cap_ops.specs.Arrows.{Between, ValueOver, over, argument, arguments, between, out_between, tuple, olds, out_value}
use Rattle.cap_ops.specs.Ends.{profile_of, ends_in, places}
use Rattle.cap_ops.specs.Once.{is_among}
use Rattle.cap_ops.specs.Primitives.{OfferData, prime_of, HasOneOutcome, PrimAnswers, PrimIsLarge}
use Rattle.cap_ops.specs.Told.{TellsArrow, Tells, TellsAll, end_object}
use Rattle.cap_ops.specs.Values.{object, morphism, two, four, truth, scalar, none, HasEnds, HasShape}
use Rattle.cap_ops.proofs.Once.{among-is, once-finds}
use Rattle.cap_ops.proofs.Places.{Among, none≢some, some_inner}
use Rattle.cap_ops.proofs.Shapes.{same-objects}
use Rattle.cap_ops.proofs.Telling.{all-same}

-- letters have the same ends
abbrev Agree : (ℕ → Option End) → (ℕ → Option End) → List ℕ → Type 0
Agree f g xs = (x : ℕ) → Among xs x → f x ≡ g x

abbrev from_to : {M : Type 0} → End → End → M → Between End M
from_to a b m = record { src = a; tgt = b; value = m }

-- values of one shape with the same data, whose letters have the same ends
module _ {O M : Type 0} (p : ℕ) (f g : ℕ → Option End) where
  arrow-one : (look look' : End → Option O) (e : Ends ℕ) (m n : Between End M) (k : Between O M) → f e.src ≡ g e.src → f e.tgt ≡ g e.tgt → HasEnds (over p) f e m → HasEnds (over p) g e n → TellsArrow look m k → TellsArrow look' n k → m ≡ n
  arrow-one look look' e m n k s t h i u v =
      let src : m.src ≡ n.src = some_inner (sym h.0 ∙ s ∙ i.0) in
      let tgt : m.tgt ≡ n.tgt = some_inner (sym h.1 ∙ t ∙ i.1) in
      let value : m.value ≡ n.value = u.value ∙ sym v.value in
      ap (λ a. from_to a m.tgt m.value) src ∙ ap (λ b. from_to n.src b m.value) tgt ∙ ap (λ c. from_to n.src n.tgt c) value

  value-one : (look look' : End → Option O) (s : Shape ℕ) (v w : ValueOver End M) (d : ValueOver O M) → Agree f g (ends_in s) → HasShape (over p) f s v → HasShape (over p) g s w → Tells look v d → Tells look' w d → v ≡ w
  value-one look look' (Object x) (object a) (object b) d l h i t u = ap object (some_inner (sym h ∙ l x (inl refl) ∙ i))
  value-one look look' (Morphism e) (morphism m) (morphism n) (morphism k) l h i t u = ap morphism (arrow-one look look' e m n k (l e.src (inl refl)) (l e.tgt (inr (inl refl))) h i t u)
  value-one look look' (Two c e) (two m1 m2) (two n1 n2) (two k1 k2) l h i t u =
      rw (
        arrow-one look look' c m1 n1 k1 (l c.src (inl refl)) (l c.tgt (inr (inl refl))) h.0 i.0 t.0 u.0,
        arrow-one look look' e m2 n2 k2 (l e.src (inr (inr (inl refl)))) (l e.tgt (inr (inr (inr (inl refl))))) h.1 i.1 t.1 u.1,
      ) refl
  value-one look look' (Four c e r q) (four m1 m2 m3 m4) (four n1 n2 n3 n4) (four k1 k2 k3 k4) l h i t u =
      rw (
        arrow-one look look' c m1 n1 k1 (l c.src (inl refl)) (l c.tgt (inr (inl refl))) h.0 i.0 t.0 u.0,
        arrow-one look look' e m2 n2 k2 (l e.src (inr (inr (inl refl)))) (l e.tgt (inr (inr (inr (inl refl))))) h.1 i.1 t.1 u.1,
        arrow-one look look' r m3 n3 k3 (l r.src (inr (inr (inr (inr (inl refl)))))) (l r.tgt (inr (inr (inr (inr (inr (inl refl))))))) h.2 i.2 t.2 u.2,
        arrow-one look look' q m4 n4 k4 (l q.src (inr (inr (inr (inr (inr (inr (inl refl)))))))) (l q.tgt (inr (inr (inr (inr (inr (inr (inr (inl refl))))))))) h.3 i.3 t.3 u.3,
      ) refl
  value-one look look' Truth (truth a) (truth b) (truth c) l h i t u = ap truth (t ∙ sym u)
  value-one look look' Scalar (scalar a) (scalar b) (scalar c) l h i t u = ap scalar (t ∙ sym u)
  value-one look look' (Morphism e) (morphism m) (morphism n) _ l h i t u = absurd t
  value-one look look' (Two c e) (two m1 m2) (two n1 n2) _ l h i t u = absurd t
  value-one look look' (Four c e r q) (four m1 m2 m3 m4) (four n1 n2 n3 n4) _ l h i t u = absurd t
  value-one look look' Truth (truth a) (truth b) _ l h i t u = absurd t
  value-one look look' Scalar (scalar a) (scalar b) _ l h i t u = absurd t
  value-one look look' (Object x) (object a) _ _ l h i t u = absurd i
  value-one look look' (Morphism e) (morphism m) _ _ l h i t u = absurd i
  value-one look look' (Two c e) (two m1 m2) _ _ l h i t u = absurd i
  value-one look look' (Four c e r q) (four m1 m2 m3 m4) _ _ l h i t u = absurd i
  value-one look look' Truth (truth a) _ _ l h i t u = absurd i
  value-one look look' Scalar (scalar a) _ _ l h i t u = absurd i
  value-one look look' _ _ _ _ l h i t u = absurd h

-- `none` tells `none` alone
none-tells : {E O M : Type 0} (look : E → Option O) (d : ValueOver O M) → Tells look none d → d ≡ none
none-tells look none t = refl
none-tells look _ t = absurd t

tells-none : {E O M : Type 0} (look : E → Option O) (v : ValueOver E M) → Tells look v none → v ≡ none
tells-none look none t = refl
tells-none look _ t = absurd t

-- an answer is its value
module _ {E M : Type 0} where
  pub listed : ValueOver E M → List (Between E M)
  listed (morphism p) = p ∷ []
  listed (two p q) = p ∷ q ∷ []
  listed (four p q r s) = p ∷ q ∷ r ∷ s ∷ []
  listed _ = []

  pub is_tuple : ValueOver E M → Bool
  is_tuple (two p q) = true
  is_tuple (four p q r s) = true
  is_tuple _ = false

  pub tuple-listed : (xs : List (Between E M)) (v : ValueOver E M) → tuple xs ≡ Some v → (xs ≡ listed v) × (is_tuple v ≡ true)
  unfolding listed is_tuple
  tuple-listed [] v e = absurd (none≢some e)
  tuple-listed (p ∷ []) v e = absurd (none≢some e)
  tuple-listed (p ∷ q ∷ []) v e = let w : two p q ≡ v = some_inner e in subst (λ v. (p ∷ q ∷ [] ≡ listed v) × (is_tuple v ≡ true)) w (refl, refl)
  tuple-listed (p ∷ q ∷ r ∷ []) v e = absurd (none≢some e)
  tuple-listed (p ∷ q ∷ r ∷ s ∷ []) v e = let w : four p q r s ≡ v = some_inner e in subst (λ v. (p ∷ q ∷ r ∷ s ∷ [] ≡ listed v) × (is_tuple v ≡ true)) w (refl, refl)
  tuple-listed (p ∷ q ∷ r ∷ s ∷ t ∷ xs) v e = absurd (none≢some e)

module _ {M : Type 0} where
  abbrev out_arrow : Between End M → OutArrow M
  out_arrow f = record { src = f.src; tgt = f.tgt; value = f.value }

  back-again : (fs : List (OutArrow M)) → map out_arrow (map out_between fs) ≡ fs
  back-again [] = refl
  back-again (f ∷ fs) = ap (λ gs. f ∷ gs) (back-again fs)

  morphism-inner : (f g : Between End M) → ◌≡◌ {A = ValueOver End M} (morphism f) (morphism g) → f ≡ g
  morphism-inner f g e = cc

  truth-inner : (a b : Bool) → ◌≡◌ {A = ValueOver End M} (truth a) (truth b) → a ≡ b
  truth-inner a b e = cc

  not-tuple : (xs : List (Between End M)) (v w : ValueOver End M) → tuple xs ≡ Some v → Some w ≡ Some v → is_tuple w ≡ false → ⊥
  not-tuple xs v w e f n = let t : true ≡ false = sym (tuple-listed xs v e).1 ∙ ap is_tuple (sym (some_inner f)) ∙ n in cc

  apart : (v w : ValueOver End M) → (v ≡ w → ⊥) → (u : ValueOver End M) → Some v ≡ Some u → Some w ≡ Some u → ⊥
  apart v w n u e f = n (some_inner (e ∙ sym f))

  pub out-one : (a b : Out M) (v : ValueOver End M) → out_value a ≡ Some v → out_value b ≡ Some v → a ≡ b
  unfolding is_tuple
  out-one (out.One f) (out.One g) v e h = ap out.One (ap out_arrow (morphism-inner (out_between f) (out_between g) (some_inner (e ∙ sym h))))
  out-one (out.Many fs) (out.Many gs) v e h =
      let same : map out_between fs ≡ map out_between gs = (tuple-listed (map out_between fs) v e).0 ∙ sym (tuple-listed (map out_between gs) v h).0 in
      ap out.Many (sym (back-again fs) ∙ ap (map out_arrow) same ∙ back-again gs)
  out-one (out.Truth a) (out.Truth b) v e h = ap out.Truth (truth-inner a b (some_inner (e ∙ sym h)))
  out-one out.Nothing out.Nothing v e h = refl
  out-one (out.One f) (out.Many gs) v e h = absurd (not-tuple (map out_between gs) v (morphism (out_between f)) h e refl)
  out-one (out.Many fs) (out.One g) v e h = absurd (not-tuple (map out_between fs) v (morphism (out_between g)) e h refl)
  out-one (out.Truth a) (out.Many gs) v e h = absurd (not-tuple (map out_between gs) v (truth a) h e refl)
  out-one (out.Many fs) (out.Truth b) v e h = absurd (not-tuple (map out_between fs) v (truth b) e h refl)
  out-one out.Nothing (out.Many gs) v e h = absurd (not-tuple (map out_between gs) v none h e refl)
  out-one (out.Many fs) out.Nothing v e h = absurd (not-tuple (map out_between fs) v none e h refl)
  out-one (out.One f) (out.Truth b) v e h = absurd (apart (morphism (out_between f)) (truth b) (λ q. cc) v e h)
  out-one (out.One f) out.Nothing v e h = absurd (apart (morphism (out_between f)) none (λ q. cc) v e h)
  out-one (out.Truth a) (out.One g) v e h = absurd (apart (truth a) (morphism (out_between g)) (λ q. cc) v e h)
  out-one (out.Truth a) out.Nothing v e h = absurd (apart (truth a) none (λ q. cc) v e h)
  out-one out.Nothing (out.One g) v e h = absurd (apart none (morphism (out_between g)) (λ q. cc) v e h)
  out-one out.Nothing (out.Truth b) v e h = absurd (apart none (truth b) (λ q. cc) v e h)

  -- arguments are their values
  abbrev arrow : Between Handle M → Arrow M
  arrow f = record { src = f.src; tgt = f.tgt; value = f.value }

  handles-inner : (f g : Between Handle M) → ◌≡◌ {A = ValueOver Handle M} (morphism f) (morphism g) → f ≡ g
  handles-inner f g e = cc

  argument-one : (a b : Arg M) → argument a ≡ argument b → a ≡ b
  argument-one (Obj h) (Obj k) e = let same : h ≡ k = cc in ap Obj same
  argument-one (Mor f) (Mor g) e = ap Mor (ap arrow (handles-inner (between f) (between g) e))
  argument-one (Num m) (Num n) e = let same : m ≡ n = cc in ap Num same
  argument-one (Obj h) (Mor g) e = absurd (cc)
  argument-one (Obj h) (Num n) e = absurd (cc)
  argument-one (Mor f) (Obj k) e = absurd (cc)
  argument-one (Mor f) (Num n) e = absurd (cc)
  argument-one (Num m) (Obj k) e = absurd (cc)
  argument-one (Num m) (Mor g) e = absurd (cc)

  pub arguments-one : (xs ys : List (Arg M)) → arguments xs ≡ arguments ys → xs ≡ ys
  arguments-one [] [] e = refl
  arguments-one [] (y ∷ ys) e = absurd (cc)
  arguments-one (x ∷ xs) [] e = absurd (cc)
  arguments-one (x ∷ xs) (y ∷ ys) e =
      let first : argument x ≡ argument y = cc in
      let more : arguments xs ≡ arguments ys = cc in
      rw (argument-one x y first, arguments-one xs ys more) refl

abbrev given_of : {O M : Type 0} → List O → Out M → PrimOut O M
given_of fresh given = record { fresh = fresh; out = given }

same-number : (x y : ℕ) → x ≡ y → x ≡ y
same-number x y e = e

module _ {O M : Type 0} (D : OfferData O M) (one : HasOneOutcome D) (told told' : Handle → Option O) (op : ℕ) (args : List (Arg M)) (data_of : List (ValueOver O M)) (tells : TellsAll told (arguments args) data_of) (tells' : TellsAll told' (arguments args) data_of) where
  module _ (a b : PrimOut O M) (A : PrimAnswers D told op args a) (B : PrimAnswers D told' op args b) where
    same-data : A.data_of ≡ B.data_of
    same-data = all-same told (arguments args) A.data_of data_of A.tells_arguments tells ∙ all-same told' (arguments args) data_of B.data_of tells' B.tells_arguments

    same-out : A.out ≡ B.out
    same-out = one.one op B.data_of A.out B.out (subst (λ ds. D.answer op ds A.out) same-data A.answers) B.answers

    same-fresh : a.fresh ≡ b.fresh
    same-fresh = A.fresh_is ∙ ap (D.fresh op) same-data ∙ sym B.fresh_is

    letter-one : (x : ℕ) → Among (ends_in (profile_of op).answer) x → A.fits.objects x ≡ B.fits.objects x
    letter-one x m = go (is_among (λ y. y) (places (profile_of op).arguments) x) refl
      where
        go : (t : Bool) → is_among (λ y. y) (places (profile_of op).arguments) x ≡ t → A.fits.objects x ≡ B.fits.objects x
        go true e = same-objects (over (prime_of D)) A.fits.objects B.fits.objects (profile_of op).arguments (olds (arguments args)) A.fits.arguments B.fits.arguments x (among-is (λ y. y) same-number (places (profile_of op).arguments) x e)
        go false e =
            let k = once-finds (λ y. y) same-number (places (profile_of op).arguments) (ends_in (profile_of op).answer) x m e in
            A.used.in_order k.0 x k.1 ∙ sym (B.used.in_order k.0 x k.1)

    tells-b : Tells (end_object told' b.fresh) B.value A.out
    tells-b = subst (Tells (end_object told' b.fresh) B.value) (sym same-out) B.tells

    left-none : A.value ≡ none → A.value ≡ B.value
    left-none e =
        let it : A.out ≡ none = none-tells (end_object told a.fresh) A.out (subst (λ v. Tells (end_object told a.fresh) v A.out) e A.tells) in
        e ∙ sym (tells-none (end_object told' b.fresh) B.value (subst (Tells (end_object told' b.fresh) B.value) it tells-b))

    right-none : B.value ≡ none → A.value ≡ B.value
    right-none e =
        let it : A.out ≡ none = none-tells (end_object told' b.fresh) A.out (subst (λ v. Tells (end_object told' b.fresh) v A.out) e tells-b) in
        tells-none (end_object told a.fresh) A.value (subst (Tells (end_object told a.fresh) A.value) it A.tells) ∙ sym e

    same-value : A.value ≡ B.value
    same-value = elim A.fits.answer [
      | inl e ↦ left-none e
      | inr h ↦ elim B.fits.answer [
        | inl e ↦ right-none e
        | inr k ↦ value-one (prime_of D) A.fits.objects B.fits.objects (end_object told a.fresh) (end_object told' b.fresh) (profile_of op).answer A.value B.value A.out letter-one h k A.tells tells-b
      ]
    ]

    pub prim-one : a ≡ b
    prim-one =
        let same : a.out ≡ b.out = out-one a.out b.out B.value (A.is_value ∙ ap Some same-value) B.is_value in
        ap (λ os. given_of os a.out) same-fresh ∙ ap (given_of b.fresh) same

  pub prim-either : (a : PrimOut O M) (rows columns : ℕ) → PrimAnswers D told op args a → PrimIsLarge D told' op args rows columns → ⊥
  prim-either a rows columns A L =
      let same : L.data_of ≡ A.data_of = all-same told' (arguments args) L.data_of data_of L.tells_arguments tells' ∙ all-same told (arguments args) data_of A.data_of tells A.tells_arguments in
      A.within rows columns (subst (λ ds. D.large op ds rows columns) same L.large)
