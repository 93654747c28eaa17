-- A value that is good where all objects are told is good where its own ends and the arguments are told.
use Rattle.std.proofs.Common.{◌≡◌, ℕ, Bool, List, [], ◌∷◌, Option, Some, sym, subst, ap, ◌∙◌}
use Rattle.std.specs.List.{All}
use Rattle.std.proofs.lemmas.List.Elements.{All-head, All-tail}
use Rattle.std.proofs.lemmas.List.Concat.{flat_map-cons}
use Rattle.cap_names.specs.declared.identifiers.Handle.{Handle}
use Rattle.cap_ops.specs.declared.arrows.Arrow.{Arrow}
use Rattle.cap_ops.specs.declared.keys.Arg.{Arg}
use Rattle.cap_ops.specs.declared.keys.Value.{Value as Answer}
use Rattle.cap_ops.specs.declared.keys.Value.TheVariants.{One, Many, Truth, Nothing}
use Rattle.cap_ops.specs.declared.plans.Plan.{Plan}
use Rattle.cap_ops.specs.Values.{morphism, two, four, truth, none}
use Rattle.cap_ops.specs.Arrows.{Between, ValueOver, between, arguments, value_of}
use Rattle.cap_ops.specs.Mentions.{ends_of, mentions}
use Rattle.cap_ops.specs.Told.{TellsArrow, Tells, TellsAll, Known, StaysTold}
use Rattle.cap_ops.specs.Primitives.{OfferData}
use Rattle.cap_ops.proofs.Places.{none≢some, some_inner}
use Rattle.cap_terms.specs.declared.body.Rule.{Rule}
use Rattle.cap_run.specs.Puts.{Good}
use Rattle.cap_ops.proofs.Telling.{all-kept, all-same}
use Rattle.cap_seat.proofs.Among.{IsTold}

narrow-end : {O : Type 0} (few all : Handle → Option O) → StaysTold few all → (h : Handle) (o : O) → IsTold few h → all h ≡ Some o → few h ≡ Some o
narrow-end few all stays h o t e = t.1 ∙ ap Some (some_inner (sym (stays h t.0 t.1) ∙ e))

module _ {O M : Type 0} (few all : Handle → Option O) (stays : StaysTold few all) where
  narrow-arrow : (f : Arrow M) (g : Between O M) → IsTold few f.src → IsTold few f.tgt → TellsArrow all (between f) g → TellsArrow few (between f) g
  narrow-arrow f g s t h = record { src = narrow-end few all stays f.src g.src s h.src; tgt = narrow-end few all stays f.tgt g.tgt t h.tgt; value = h.value }

  one : (f : Arrow M) (d : ValueOver O M) → All (IsTold few) (mentions (One f)) → Tells all (morphism (between f)) d → Tells few (morphism (between f)) d
  one f (morphism g) ts h =
      let rest = All-tail (IsTold few) f.src (f.tgt ∷ []) ts in
      narrow-arrow f g (All-head (IsTold few) f.src (f.tgt ∷ []) ts) (All-head (IsTold few) f.tgt [] rest) h
  one f _ ts h = absurd h

  -- the ends of the first of several arrows, and of the others
  first-ends : (f : Arrow M) (fs : List (Arrow M)) → All (IsTold few) (mentions (Many (f ∷ fs))) → IsTold few f.src × IsTold few f.tgt × All (IsTold few) (mentions (Many fs))
  first-ends f fs ts =
      let split : mentions (Many (f ∷ fs)) ≡ f.src ∷ f.tgt ∷ mentions (Many fs) = flat_map-cons ends_of f fs in
      let us : All (IsTold few) (f.src ∷ f.tgt ∷ mentions (Many fs)) = subst (All (IsTold few)) split ts in
      let rest = All-tail (IsTold few) f.src (f.tgt ∷ mentions (Many fs)) us in
      (All-head (IsTold few) f.src (f.tgt ∷ mentions (Many fs)) us, All-head (IsTold few) f.tgt (mentions (Many fs)) rest, All-tail (IsTold few) f.tgt (mentions (Many fs)) rest)

  two-arrows : (f g : Arrow M) (d : ValueOver O M) → All (IsTold few) (mentions (Many (f ∷ g ∷ []))) → Tells all (two (between f) (between g)) d → Tells few (two (between f) (between g)) d
  two-arrows f g (two x y) ts h =
      let a = first-ends f (g ∷ []) ts in
      let b = first-ends g [] a.2 in
      (narrow-arrow f x a.0 a.1 h.0, narrow-arrow g y b.0 b.1 h.1)
  two-arrows f g _ ts h = absurd h

  four-arrows : (f g k l : Arrow M) (d : ValueOver O M) → All (IsTold few) (mentions (Many (f ∷ g ∷ k ∷ l ∷ []))) → Tells all (four (between f) (between g) (between k) (between l)) d → Tells few (four (between f) (between g) (between k) (between l)) d
  four-arrows f g k l (four x y z w) ts h =
      let a = first-ends f (g ∷ k ∷ l ∷ []) ts in
      let b = first-ends g (k ∷ l ∷ []) a.2 in
      let c = first-ends k (l ∷ []) b.2 in
      let e = first-ends l [] c.2 in
      (narrow-arrow f x a.0 a.1 h.0, narrow-arrow g y b.0 b.1 h.1, narrow-arrow k z c.0 c.1 h.2, narrow-arrow l w e.0 e.1 h.3)
  four-arrows f g k l _ ts h = absurd h

  told-as : (w v : ValueOver Handle M) (d : ValueOver O M) → Some w ≡ Some v → Tells all v d → Tells all w d
  told-as w v d e t = subst (λ x. Tells all x d) (sym (some_inner e)) t

  told-to : (w v : ValueOver Handle M) (d : ValueOver O M) → Some w ≡ Some v → Tells few w d → Tells few v d
  told-to w v d e t = subst (λ x. Tells few x d) (some_inner e) t

  plain-truth : (b : Bool) (d : ValueOver O M) → Tells all (truth b) d → Tells few (truth b) d
  plain-truth b (truth c) h = h
  plain-truth b _ h = absurd h

  plain-none : (d : ValueOver O M) → Tells all none d → Tells few none d
  plain-none none h = h
  plain-none _ h = absurd h

  narrow-value : (v : Answer M) (value : ValueOver Handle M) (d : ValueOver O M) → value_of v ≡ Some value → All (IsTold few) (mentions v) → Tells all value d → Tells few value d
  narrow-value (One f) value d e ts h = told-to (morphism (between f)) value d e (one f d ts (told-as (morphism (between f)) value d e h))
  narrow-value (Many []) value d e ts h = absurd (none≢some e)
  narrow-value (Many (f ∷ [])) value d e ts h = absurd (none≢some e)
  narrow-value (Many (f ∷ g ∷ [])) value d e ts h = told-to (two (between f) (between g)) value d e (two-arrows f g d ts (told-as (two (between f) (between g)) value d e h))
  narrow-value (Many (f ∷ g ∷ k ∷ [])) value d e ts h = absurd (none≢some e)
  narrow-value (Many (f ∷ g ∷ k ∷ l ∷ [])) value d e ts h = told-to (four (between f) (between g) (between k) (between l)) value d e (four-arrows f g k l d ts (told-as (four (between f) (between g) (between k) (between l)) value d e h))
  narrow-value (Many (f ∷ g ∷ k ∷ l ∷ m ∷ more)) value d e ts h = absurd (none≢some e)
  narrow-value (Truth b) value d e ts h = told-to (truth b) value d e (plain-truth b d (told-as (truth b) value d e h))
  narrow-value Nothing value d e ts h = told-to none value d e (plain-none d (told-as none value d e h))

  -- a good value is good for whoever was told its ends and those of the arguments
  pub narrow-good : (D : OfferData O M) (rules : List Rule) (p : Plan) (op : ℕ) (args : List (Arg M)) (v : Answer M) → Known D.category few (arguments args) → All (IsTold few) (mentions v) → Good D rules p all op args v → Good D rules p few op args v
  narrow-good D rules p op args v known ts G = record {
    data_of = G.data_of;
    are_data = G.are_data;
    tells_arguments = subst (TellsAll few (arguments args)) (all-same all (arguments args) known.data_of G.data_of (all-kept few all stays (arguments args) known.data_of known.tells) G.tells_arguments) known.tells;
    value = G.value;
    is_value = G.is_value;
    out = G.out;
    tells = narrow-value v G.value G.out G.is_value ts G.tells;
    is_datum = G.is_datum;
    runs = G.runs;
    fits = G.fits;
  }
