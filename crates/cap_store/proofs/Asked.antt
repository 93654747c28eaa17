-- A put of one morphism between its one new object may be asked of a final history.
use Rattle.std.proofs.Common.{◌≡◌, ◌∙◌, List, [], ◌∷◌, ◌++◌, length, ap, sym, subst, arith}
use Rattle.cap_ops.specs.declared.arrows.End.TheVariants.{New}
use Rattle.cap_ops.specs.declared.arrows.OutArrow.{OutArrow}
use Rattle.cap_ops.specs.declared.keys.Key.{Key}
use Rattle.cap_ops.specs.declared.keys.Out.TheVariants.{One}
use Rattle.cap_history.specs.declared.entries.Event.TheVariants.{Put}
use Rattle.cap_history.specs.May.{EndIsThere, IsAsked}
use Rattle.cap_history.specs.Reading.{objects}
use Rattle.cap_store.specs.Tested.{IsOnceFinal}

pub put-may : {O M : Type 0} (key : Key M) (fresh : List O) (f : OutArrow M) → IsAsked key → length fresh ≡ 1 → f.src ≡ New 0 → f.tgt ≡ New 0 → IsOnceFinal (Put key (record { fresh = fresh; out = One f }))
put-may key fresh f asked one s t entries at p final = record {
  asked = asked;
  at = at;
  p = p;
  final = final;
  short = (tt, omega (arith, one));
  there = record {
    src = subst (EndIsThere (length (objects entries)) (length fresh)) (sym s) (omega (arith, one));
    tgt = subst (EndIsThere (length (objects entries)) (length fresh)) (sym t) (omega (arith, one));
  };
}

-- a list of one element
pub one-of : {A : Type 0} (xs ys zs : List A) (x : A) → xs ≡ ys → ys ≡ zs ++ x ∷ [] → zs ≡ [] → length xs ≡ 1
one-of xs ys zs x p q r = ap length (p ∙ (q ∙ ap (λ l. l ++ x ∷ []) r))
