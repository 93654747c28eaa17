-- Objects told in a list, and the handles of those that come behind them.
use Rattle.std.proofs.Common.{◌≡◌, ℕ, ◌+◌, ◌^◌, ◌<◌, List, [], ◌∷◌, ◌++◌, Option, Some, length, sym, subst, ◌∙◌, refl, arith}
use Rattle.std.specs.List.{All}
use Rattle.std.proofs.lemmas.Option.{slice_get_within}
use Rattle.std.proofs.lemmas.List.Elements.{All-nil, All-cons}
use Rattle.cap_names.specs.declared.identifiers.Handle.{Handle}
use Rattle.cap_ops.specs.declared.arrows.End.{End}
use Rattle.cap_ops.specs.declared.arrows.End.TheVariants.{Old, New}
use Rattle.cap_ops.specs.declared.arrows.OutArrow.{OutArrow}
use Rattle.cap_ops.specs.declared.keys.Out.{Out}
use Rattle.cap_ops.specs.declared.keys.Out.TheVariants.{One as OutOne, Many as OutMany, Truth as OutTruth, Nothing as OutNothing}
use Rattle.cap_ops.specs.Values.{morphism, two, four}
use Rattle.cap_ops.specs.Arrows.{Between, ValueOver, out_between, out_value}
use Rattle.cap_ops.specs.Told.{TellsArrow, Tells, end_object, told_in, StaysTold}
use Rattle.cap_ops.proofs.Places.{none≢some, some_inner, get-more, get-behind}
use Rattle.cap_settle.specs.Settled.{EndFits, ArrowFits, OutFits}
use Rattle.cap_settle.specs.Laws.{TellsNew}

pub told-more : {O : Type 0} (objects fresh : List O) → StaysTold (told_in objects) (told_in (objects ++ fresh))
told-more objects fresh h o e = get-more objects fresh h.0 o e

pub tells-new : {O : Type 0} (objects fresh : List O) → TellsNew (told_in objects) fresh (length objects) (told_in (objects ++ fresh))
tells-new objects fresh = record {
  stays = λ h o e. get-more objects fresh h.0 o e;
  news = λ k o e. get-behind objects fresh (length objects + k) k refl ∙ e;
}

-- the handles of the new objects fit
module _ {O : Type 0} (told : Handle → Option O) (fresh : List O) (count : ℕ) (room : count + length fresh < 2 ^ 32) where
  end-fits : (e : End) (o : O) → end_object told fresh e ≡ Some o → EndFits count e
  end-fits (Old h) o t = tt
  end-fits (New k) o t = let l = slice_get_within fresh k o t in omega (arith, l, room)

  module _ {M : Type 0} where
    arrow-fits : (f : OutArrow M) (g : Between O M) → TellsArrow (end_object told fresh) (out_between f) g → ArrowFits count f
    arrow-fits f g t = record { src = end-fits f.src g.src t.src; tgt = end-fits f.tgt g.tgt t.tgt }

    one-fits : (f : OutArrow M) (d : ValueOver O M) → Tells (end_object told fresh) (morphism (out_between f)) d → ArrowFits count f
    one-fits f (morphism g) t = arrow-fits f g t
    one-fits f _ t = absurd t

    two-fits : (f g : OutArrow M) (d : ValueOver O M) → Tells (end_object told fresh) (two (out_between f) (out_between g)) d → All (ArrowFits count) (f ∷ g ∷ [])
    two-fits f g (two x y) t = All-cons (ArrowFits count) f (g ∷ []) (arrow-fits f x t.0) (All-cons (ArrowFits count) g [] (arrow-fits g y t.1) (All-nil (ArrowFits count)))
    two-fits f g _ t = absurd t

    four-fits : (f g h i : OutArrow M) (d : ValueOver O M) → Tells (end_object told fresh) (four (out_between f) (out_between g) (out_between h) (out_between i)) d → All (ArrowFits count) (f ∷ g ∷ h ∷ i ∷ [])
    four-fits f g h i (four x y z w) t =
        All-cons (ArrowFits count) f (g ∷ h ∷ i ∷ []) (arrow-fits f x t.0) (All-cons (ArrowFits count) g (h ∷ i ∷ []) (arrow-fits g y t.1) (All-cons (ArrowFits count) h (i ∷ []) (arrow-fits h z t.2) (All-cons (ArrowFits count) i [] (arrow-fits i w t.3) (All-nil (ArrowFits count)))))
    four-fits f g h i _ t = absurd t

    told-as : (w v : ValueOver End M) (d : ValueOver O M) → Some w ≡ Some v → Tells (end_object told fresh) v d → Tells (end_object told fresh) w d
    told-as w v d e t = subst (λ x. Tells (end_object told fresh) x d) (sym (some_inner e)) t

    pub out-fits : (out : Out M) (v : ValueOver End M) (d : ValueOver O M) → out_value out ≡ Some v → Tells (end_object told fresh) v d → OutFits count out
    out-fits (OutOne f) v d e t = one-fits f d (told-as (morphism (out_between f)) v d e t)
    out-fits (OutMany []) v d e t = absurd (none≢some e)
    out-fits (OutMany (f ∷ [])) v d e t = absurd (none≢some e)
    out-fits (OutMany (f ∷ g ∷ [])) v d e t = two-fits f g d (told-as (two (out_between f) (out_between g)) v d e t)
    out-fits (OutMany (f ∷ g ∷ h ∷ [])) v d e t = absurd (none≢some e)
    out-fits (OutMany (f ∷ g ∷ h ∷ i ∷ [])) v d e t = four-fits f g h i d (told-as (four (out_between f) (out_between g) (out_between h) (out_between i)) v d e t)
    out-fits (OutMany (f ∷ g ∷ h ∷ i ∷ j ∷ more)) v d e t = absurd (none≢some e)
    out-fits (OutTruth b) v d e t = tt
    out-fits OutNothing v d e t = tt
