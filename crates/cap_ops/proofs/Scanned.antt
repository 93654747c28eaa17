-- No end is wrong exactly where the arguments fit.
use Rattle.std.proofs.Common.{◌≡◌, ◌↔◌, ℕ, zero, suc, ◌-◌, ◌+◌, ◌<◌, ◌≤◌, List, [], ◌∷◌, ◌++◌, length, drop, get_or, refl, sym, ap, subst, ◌∙◌, arith}
use Rattle.std.specs.Prelude.{Option, Some, None, map, slice_get, Result, Ok, Err, MatchResult, IsOk, IfErr}
use Rattle.std.proofs.lemmas.List.{length-map}
use Rattle.cap_names.specs.declared.identifiers.Handle.{Handle}
use Rattle.cap_ops.specs.declared.ends.Shape.{Shape}
use Rattle.cap_ops.specs.declared.ends.Shape.TheVariants.{Object, Morphism, Two, Four, Truth, Scalar}
use Rattle.cap_ops.specs.declared.fitting.Mismatch.{Mismatch}
use Rattle.cap_ops.specs.declared.keys.Arg.{Arg}
use Rattle.cap_ops.specs.declared.keys.Arg.TheVariants.{Obj, Mor, Num}
use Rattle.cap_ops.specs.declared.sorts.Sort.TheVariants.{Obj as ObjSort, Mor as MorSort, Num as NumSort, Truth as TruthSort, Tuple}
use Rattle.cap_ops.specs.Ends.{sort_of, profile_of, padded}
use Rattle.cap_ops.proofs.Padded.{padded-at}
use Rattle.cap_ops.specs.Values.{HaveShapes, Fits}
use Rattle.cap_ops.specs.Arrows.{over, arguments}
use Rattle.cap_ops.specs.Mismatches.{HaveSorts, sort_of_argument, place, all_places, places_of, first_with, IsFirstWrong, IsMismatch}
use Rattle.cap_ops.specs.Scan.{scan, no_handles, wanted_places}
use Rattle.cap_ops.proofs.Letters.{few_letters}
use Rattle.cap_ops.proofs.Places.{some_inner}
use Rattle.cap_ops.proofs.Scans.{AllTell, AllRight, told-at, first-told, ends-say}

heads : {X : Type 0} {x y : X} {xs ys : List X} → (x ∷ xs) ≡ (y ∷ ys) → x ≡ y
heads e = cc

tails : {X : Type 0} {x y : X} {xs ys : List X} → (x ∷ xs) ≡ (y ∷ ys) → xs ≡ ys
tails e = cc

no-list : {X : Type 0} {x : X} {xs : List X} → [] ≡ (x ∷ xs) → ⊥
no-list e = cc

module _ {M : Type 0} (p : ℕ) (f : ℕ → Option Handle) where
  shaped : (ss : List (Shape ℕ)) (args : List (Arg M)) → map sort_of_argument args ≡ map sort_of ss → AllTell f (all_places ss args) → HaveShapes (over p) f ss (arguments args)
  shaped [] [] e all = tt
  shaped [] (a ∷ args) e all = absurd (no-list (sym e))
  shaped (s ∷ ss) [] e all = absurd (no-list e)
  shaped (Object x ∷ ss) (Obj h ∷ args) e all = (all.0, shaped ss args (tails e) all.1)
  shaped (Morphism g ∷ ss) (Mor a ∷ args) e all = ((all.0, all.1.0), shaped ss args (tails e) all.1.1)
  shaped (Scalar ∷ ss) (Num n ∷ args) e all = (tt, shaped ss args (tails e) all)
  shaped (Object x ∷ ss) (Mor a ∷ args) e all = absurd (let k : MorSort ≡ ObjSort = heads e in cc)
  shaped (Object x ∷ ss) (Num n ∷ args) e all = absurd (let k : NumSort ≡ ObjSort = heads e in cc)
  shaped (Morphism g ∷ ss) (Obj h ∷ args) e all = absurd (let k : ObjSort ≡ MorSort = heads e in cc)
  shaped (Morphism g ∷ ss) (Num n ∷ args) e all = absurd (let k : NumSort ≡ MorSort = heads e in cc)
  shaped (Scalar ∷ ss) (Obj h ∷ args) e all = absurd (let k : ObjSort ≡ NumSort = heads e in cc)
  shaped (Scalar ∷ ss) (Mor a ∷ args) e all = absurd (let k : MorSort ≡ NumSort = heads e in cc)
  shaped (Two c d ∷ ss) (Obj h ∷ args) e all = absurd (let k : ObjSort ≡ Tuple 2 = heads e in cc)
  shaped (Two c d ∷ ss) (Mor a ∷ args) e all = absurd (let k : MorSort ≡ Tuple 2 = heads e in cc)
  shaped (Two c d ∷ ss) (Num n ∷ args) e all = absurd (let k : NumSort ≡ Tuple 2 = heads e in cc)
  shaped (Four b c d g ∷ ss) (Obj h ∷ args) e all = absurd (let k : ObjSort ≡ Tuple 4 = heads e in cc)
  shaped (Four b c d g ∷ ss) (Mor a ∷ args) e all = absurd (let k : MorSort ≡ Tuple 4 = heads e in cc)
  shaped (Four b c d g ∷ ss) (Num n ∷ args) e all = absurd (let k : NumSort ≡ Tuple 4 = heads e in cc)
  shaped (Truth ∷ ss) (Obj h ∷ args) e all = absurd (let k : ObjSort ≡ TruthSort = heads e in cc)
  shaped (Truth ∷ ss) (Mor a ∷ args) e all = absurd (let k : MorSort ≡ TruthSort = heads e in cc)
  shaped (Truth ∷ ss) (Num n ∷ args) e all = absurd (let k : NumSort ≡ TruthSort = heads e in cc)

  told : (ss : List (Shape ℕ)) (args : List (Arg M)) → HaveShapes (over p) f ss (arguments args) → AllTell f (all_places ss args)
  told [] [] h = tt
  told (Object x ∷ ss) (Obj a ∷ args) h = (h.0, told ss args h.1)
  told (Morphism g ∷ ss) (Mor a ∷ args) h = (h.0.0, (h.0.1, told ss args h.1))
  told (Scalar ∷ ss) (Num n ∷ args) h = told ss args h.1
  told [] (a ∷ args) h = absurd h
  told (s ∷ ss) [] h = absurd h
  told (Object x ∷ ss) (Mor a ∷ args) h = absurd h.0
  told (Object x ∷ ss) (Num n ∷ args) h = absurd h.0
  told (Morphism g ∷ ss) (Obj a ∷ args) h = absurd h.0
  told (Morphism g ∷ ss) (Num n ∷ args) h = absurd h.0
  told (Scalar ∷ ss) (Obj a ∷ args) h = absurd h.0
  told (Scalar ∷ ss) (Mor a ∷ args) h = absurd h.0
  told (Two c d ∷ ss) (Obj a ∷ args) h = absurd h.0
  told (Two c d ∷ ss) (Mor a ∷ args) h = absurd h.0
  told (Two c d ∷ ss) (Num a ∷ args) h = absurd h.0
  told (Four b c d g ∷ ss) (Obj a ∷ args) h = absurd h.0
  told (Four b c d g ∷ ss) (Mor a ∷ args) h = absurd h.0
  told (Four b c d g ∷ ss) (Num a ∷ args) h = absurd h.0
  told (Truth ∷ ss) (Obj a ∷ args) h = absurd h.0
  told (Truth ∷ ss) (Mor a ∷ args) h = absurd h.0
  told (Truth ∷ ss) (Num a ∷ args) h = absurd h.0

module _ {M : Type 0} (op : ℕ) (args : List (Arg M)) where
  pub right-fits : (p : ℕ) → HaveSorts op args → AllRight (places_of op args) → Fits (over p) op (arguments args)
  right-fits p sorts all = record { operation = sorts.operation; objects = first_with (places_of op args); arguments = shaped p (first_with (places_of op args)) (profile_of op).arguments args sorts.sorts all }

  pub wrong-differs : (p : ℕ) (m : Mismatch) → IsFirstWrong (places_of op args) m → Fits (over p) op (arguments args) → ⊥
  wrong-differs p m w fits =
      let all = told p fits.objects (profile_of op).arguments args fits.arguments in
      let found = told-at fits.objects (places_of op args) all (m.place - 1) (place w.wrong.letter m.right) w.wrong.there in
      let needed = first-told fits.objects (places_of op args) all w.wrong.letter m.left w.wrong.first in
      w.wrong.differ (some_inner (sym needed ∙ found))

  -- what a scan's result says
  abbrev pub ScanSays : Result (Unit {0}) Mismatch → Type 0
  ScanSays r = MatchResult r (λ u. scan (places_of op args) no_handles 0 ≡ None) (λ m. scan (places_of op args) no_handles 0 ≡ Some m)

  pub fits-clause : HaveSorts op args → (r : Result (Unit {0}) Mismatch) → ScanSays r → (p : ℕ) → IsOk r ↔ Fits (over p) op (arguments args)
  fits-clause sorts (Ok u) h p = ((λ ok. right-fits p sorts ((ends-say op args).right h)), (λ f. refl))
  fits-clause sorts (Err m) h p = ((λ ok. absurd (cc)), (λ f. absurd (wrong-differs p m ((ends-say op args).wrong m h) f)))

  pub wrong-clause : (r : Result (Unit {0}) Mismatch) → ScanSays r → IfErr r (λ m. IsMismatch op args m)
  wrong-clause (Ok u) h = tt
  wrong-clause (Err m) h = (ends-say op args).wrong m h

  pub few-arguments : HaveSorts op args → (length args ≤ 4) × (length (profile_of op).arguments ≡ length args)
  few-arguments sorts =
      let a = sym (length-map args sort_of_argument) ∙ (ap length sorts.sorts ∙ length-map (profile_of op).arguments sort_of) in
      let few = (few_letters op).2 in
      (omega (arith, a, few), sym a)

pub arguments-step : {M : Type 0} (ss : List (Shape ℕ)) (args : List (Arg M)) (i : ℕ) (d : Arg M) → i < length args → length ss ≡ length args → all_places (drop i ss) (drop i args) ≡ wanted_places (slice_get ss i) (get_or args i d) ++ all_places (drop (i + 1) ss) (drop (i + 1) args)
arguments-step [] [] i d inside many = absurd (omega arith)
arguments-step [] (a ∷ args) i d inside many = absurd (omega arith)
arguments-step (s ∷ ss) [] i d inside many = absurd (omega arith)
arguments-step (s ∷ ss) (a ∷ args) zero d inside many = refl
arguments-step (s ∷ ss) (a ∷ args) (suc i) d inside many = let e : suc i + 1 ≡ suc (i + 1) = omega arith in rw e (arguments-step ss args i d (omega arith) (omega arith))

pub scan-more : {M : Type 0} (ss : List (Shape ℕ)) (args : List (Arg M)) (i : ℕ) (a : Arg M) (wanted : List (Option (Shape ℕ))) (seen : List (Option Handle)) (n : ℕ) → wanted ≡ padded ss → get_or args i a ≡ a → i < 4 → i < length args → length ss ≡ length args
    → scan (all_places (drop i ss) (drop i args)) seen n ≡ scan (wanted_places (get_or wanted i None) a ++ all_places (drop (i + 1) ss) (drop (i + 1) args)) seen n
scan-more ss args i a wanted seen n is at low inside many =
    let w : get_or wanted i None ≡ slice_get ss i = ap (λ ps. get_or ps i None) is ∙ padded-at ss i low in
    rw w (subst (λ x. scan (all_places (drop i ss) (drop i args)) seen n ≡ scan (wanted_places (slice_get ss i) x ++ all_places (drop (i + 1) ss) (drop (i + 1) args)) seen n) at (ap (λ ps. scan ps seen n) (arguments-step ss args i a inside many)))
