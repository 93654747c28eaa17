-- A true event may be asked: its key is short, and the ends of what it puts are there.
use Rattle.std.proofs.Common.{◌≡◌, List, [], ◌∷◌, Some, length, sym, subst}
use Rattle.std.specs.List.{All}
use Rattle.std.proofs.lemmas.Option.{slice_get_within}
use Rattle.std.proofs.lemmas.List.Elements.{All-nil, All-cons}
use Rattle.cap_ops.specs.declared.arrows.End.{End}
use Rattle.cap_ops.specs.declared.arrows.End.TheVariants.{Old, New}
use Rattle.cap_ops.specs.declared.arrows.OutArrow.{OutArrow}
use Rattle.cap_ops.specs.declared.keys.Out.{Out}
use Rattle.cap_ops.specs.declared.keys.Out.TheVariants.{One as OutOne, Many as OutMany, Truth as OutTruth, Nothing as OutNothing}
use Rattle.cap_ops.specs.Values.{morphism, two, four}
use Rattle.cap_ops.specs.Arrows.{Between, ValueOver, out_between, out_value}
use Rattle.cap_ops.specs.Told.{TellsArrow, Tells, end_object, told_in}
use Rattle.cap_ops.specs.Primitives.{OfferData, prime_of, HasFewObjects}
use Rattle.cap_ops.specs.declared.keys.Key.{Key}
use Rattle.cap_ops.proofs.Places.{none≢some, some_inner}
use Rattle.cap_ops.proofs.Short.{key-short}
use Rattle.cap_terms.specs.declared.body.Rule.{Rule}
use Rattle.cap_run.proofs.Puts.{put-short}
use Rattle.cap_history.specs.declared.entries.Event.{Event}
use Rattle.cap_history.specs.declared.entries.Event.TheVariants.{Register, Finalise, Declare, Ask, Put, PlanOf}
use Rattle.cap_history.specs.declared.entries.Entry.{Entry}
use Rattle.cap_history.specs.Reading.{objects}
use Rattle.cap_history.specs.May.{EndIsThere, ArrowIsThere, OutIsThere, IsAsked, May}
use Rattle.cap_legal.specs.Legal.{IsFit, TrueEvent}

module _ {O : Type 0} (all fresh : List O) where
  end-there : (e : End) (o : O) → end_object (told_in all) fresh e ≡ Some o → EndIsThere (length all) (length fresh) e
  end-there (Old h) o t = slice_get_within all h.0 o t
  end-there (New k) o t = slice_get_within fresh k o t

  module _ {M : Type 0} where
    abbrev Is : OutArrow M → Type 0
    Is f = ArrowIsThere (length all) (length fresh) f

    arrow-there : (f : OutArrow M) (g : Between O M) → TellsArrow (end_object (told_in all) fresh) (out_between f) g → Is f
    arrow-there f g t = record { src = end-there f.src g.src t.src; tgt = end-there f.tgt g.tgt t.tgt }

    one-there : (f : OutArrow M) (d : ValueOver O M) → Tells (end_object (told_in all) fresh) (morphism (out_between f)) d → Is f
    one-there f (morphism g) t = arrow-there f g t
    one-there f _ t = absurd t

    two-there : (f g : OutArrow M) (d : ValueOver O M) → Tells (end_object (told_in all) fresh) (two (out_between f) (out_between g)) d → All Is (f ∷ g ∷ [])
    two-there f g (two x y) t = All-cons Is f (g ∷ []) (arrow-there f x t.0) (All-cons Is g [] (arrow-there g y t.1) (All-nil Is))
    two-there f g _ t = absurd t

    four-there : (f g h i : OutArrow M) (d : ValueOver O M) → Tells (end_object (told_in all) fresh) (four (out_between f) (out_between g) (out_between h) (out_between i)) d → All Is (f ∷ g ∷ h ∷ i ∷ [])
    four-there f g h i (four x y z w) t = All-cons Is f (g ∷ h ∷ i ∷ []) (arrow-there f x t.0) (All-cons Is g (h ∷ i ∷ []) (arrow-there g y t.1) (All-cons Is h (i ∷ []) (arrow-there h z t.2) (All-cons Is i [] (arrow-there i w t.3) (All-nil Is))))
    four-there f g h i _ t = absurd t

    told-as : (w v : ValueOver End M) (d : ValueOver O M) → Some w ≡ Some v → Tells (end_object (told_in all) fresh) v d → Tells (end_object (told_in all) fresh) w d
    told-as w v d e t = subst (λ x. Tells (end_object (told_in all) fresh) x d) (sym (some_inner e)) t

    out-there : (out : Out M) (v : ValueOver End M) (d : ValueOver O M) → out_value out ≡ Some v → Tells (end_object (told_in all) fresh) v d → OutIsThere (length all) (length fresh) out
    out-there (OutOne f) v d e t = one-there f d (told-as (morphism (out_between f)) v d e t)
    out-there (OutMany []) v d e t = absurd (none≢some e)
    out-there (OutMany (f ∷ [])) v d e t = absurd (none≢some e)
    out-there (OutMany (f ∷ g ∷ [])) v d e t = two-there f g d (told-as (two (out_between f) (out_between g)) v d e t)
    out-there (OutMany (f ∷ g ∷ h ∷ [])) v d e t = absurd (none≢some e)
    out-there (OutMany (f ∷ g ∷ h ∷ i ∷ [])) v d e t = four-there f g h i d (told-as (four (out_between f) (out_between g) (out_between h) (out_between i)) v d e t)
    out-there (OutMany (f ∷ g ∷ h ∷ i ∷ j ∷ more)) v d e t = absurd (none≢some e)
    out-there (OutTruth b) v d e t = tt
    out-there OutNothing v d e t = tt

module _ {O M : Type 0} (D : OfferData O M) (few : HasFewObjects D) (rules : List Rule) (entries : List (Entry O M)) where
  fit-asked : (key : Key M) → IsFit D rules entries key → IsAsked key
  fit-asked key fit = record { operation = fit.fits.operation; short = key-short (prime_of D) key fit.fits }

  pub true-may : (event : Event O M) → TrueEvent D rules entries event → May entries event
  true-may (Register op weight) t = t
  true-may Finalise t = tt
  true-may (Declare name object) t = tt
  true-may (Ask key) t = fit-asked key t
  true-may (Put key out) t = record {
    asked = fit-asked key t.fit;
    at = t.at;
    p = t.p;
    final = t.final;
    short = put-short D rules t.p few (told_in (objects entries)) key.op.0 key.args out t.is;
    there = out-there (objects entries) out.fresh out.out t.is.value t.is.out t.is.is_value t.is.tells;
  }
  true-may PlanOf t = tt
