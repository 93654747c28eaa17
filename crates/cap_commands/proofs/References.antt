-- What a reference names, where it fits and is there.
use Rattle.std.proofs.Common.{◌≡◌, ℕ, zero, suc, ◌+◌, ◌-◌, ◌<◌, ◌≤◌, Bool, true, false, not, List, [], ◌∷◌, length, map, Option, Some, None, refl, sym, ap, ◌∙◌, subst, find, slice_get, cond, arith}
use Rattle.std.specs.Prelude.{option_map, option_and_then}
use Rattle.std.specs.List.{All, AllZip, Contains}
use Rattle.cap_names.specs.declared.identifiers.Handle.{Handle}
use Rattle.cap_grammar.specs.declared.tree.RefTok.{RefTok}
use Rattle.cap_block_faults.specs.Names.{same}
use Rattle.cap_ops.proofs.Places.{some_inner, slice_get-there}
use Rattle.std.proofs.lemmas.Option.{get_or_from_slice_get}
use Rattle.std.proofs.lemmas.List.Elements.{All-contains}
use Rattle.cap_ops.specs.declared.arrows.Arrow.{Arrow}
use Rattle.cap_ops.specs.declared.sorts.Sort.{Sort}
use Rattle.cap_ops.specs.declared.sorts.Sort.TheVariants.{Obj, Mor, Num, Truth, Tuple}
use Rattle.cap_faults.specs.declared.values.Value.{Value}
use Rattle.cap_faults.specs.Commands.{is_value, value_of}
use Rattle.cap_fitting.specs.Commands.{Scope, RefersToObject, RefersToMorphism, RefersToAnyMorphism, IsMorphism, HasPart}
use Rattle.cap_data.specs.declared.data.ObjData.{ObjData}
use Rattle.cap_data.specs.declared.data.MorData.{MorData}
use Rattle.cap_offer.specs.Labels.{Label, any_offer}
use Rattle.cap_report.specs.declared.lines.LineAnswer.{LineAnswer}
use Rattle.cap_report.specs.declared.lines.LineAnswer.TheVariants as line
use Rattle.cap_report.specs.declared.situation.Bound.{Bound}
use Rattle.cap_report.specs.declared.situation.Made.{Made}
use Rattle.cap_accounts.specs.Commands.{binds, category_of, answer_of, is_there, object_in, arrow_in, object_at, arrow_at}
use Rattle.cap_commands.specs.Agreement.{Standing, HasSort, IsToldObject, IsToldArrow, IsToldAnswer, Telling, Stands, Agrees}

-- what a binding that may not be there says of a value
abbrev pub IsFound : Standing → Telling → Option (Bound MorData) → Value → Type 0
IsFound S telling o v = (b : Bound MorData) × (option_map (λ b. b.answer) o ≡ Some b.answer) × Stands S telling v b

-- an element of a list at a place before its end
part-there : {X : Type 0} (xs : List X) (i : ℕ) → i < length xs → (x : X) × (slice_get xs i ≡ Some x) × Contains xs x
part-there xs i h = let at = slice_get-there xs i h in (at.0, at.1, (i, h, get_or_from_slice_get xs i at.0 at.0 at.1))

module _ (S : Standing) (telling : Telling) where
  found-step : (x : Value) (b : Bound MorData) (v : Value) (xs : Option Value) (bs : Option (Bound MorData)) (q : Bool) → Stands S telling x b
      → (xs ≡ Some v → IsFound S telling bs v) → cond q (Some x) xs ≡ Some v → IsFound S telling (cond q (Some b) bs) v
  found-step x b v xs bs true s rest e = (b, refl, subst (λ w. Stands S telling w b) (some_inner e) s)
  found-step x b v xs bs false s rest e = rest e

  -- where the values stand for bindings one by one, the first value of a name stands for its first binding
  found-in : (values : List Value) (bound : List (Bound MorData)) (name : List ℕ) (v : Value) → AllZip (Stands S telling) values bound → find (is_value name) values ≡ Some v
      → IsFound S telling (find (λ b. same b.name name) bound) v
  found-in [] [] name v all e = absurd (cc)
  found-in [] (b ∷ bs) name v all e = absurd all
  found-in (x ∷ xs) [] name v all e = absurd all
  found-in (x ∷ xs) (b ∷ bs) name v all e =
      subst (λ n. IsFound S telling (cond (same n name) (Some b) (find (λ b. same b.name name) bs)) v) all.0.name
      (found-step x b v (find (is_value name) xs) (find (λ b. same b.name name) bs) (same x.name name) all.0 (found-in xs bs name v all.1) e)

  pub found : (scope : Scope) (name : List ℕ) (v : Value) → Agrees scope S telling → value_of scope.values name ≡ Some v → (b : Bound MorData) × (answer_of S name ≡ Some b.answer) × Stands S telling v b
  found scope name v A e = found-in scope.values S.bound name v A.bound e

  -- an object, a morphism and a tuple are answers that names stand for
  object-answer : (a : LineAnswer MorData) → HasSort Obj a → binds a ≡ true → (h : Handle) × (a ≡ line.Object h)
  object-answer (line.Object h) s b = (h, refl)
  object-answer line.Category s b = absurd (cc)
  object-answer (line.Registered op w) s b = absurd (cc)
  object-answer line.Final s b = absurd (cc)
  object-answer (line.Plan p) s b = absurd (cc)
  object-answer (line.Morphism f) s b = absurd (cc)
  object-answer (line.Tuple fs) s b = absurd (cc)
  object-answer (line.Truth t) s b = absurd (cc)
  object-answer line.Nothing s b = absurd (cc)
  object-answer (line.Refused r) s b = absurd (cc)

  arrow-answer : (a : LineAnswer MorData) → HasSort Mor a → binds a ≡ true → (f : Arrow MorData) × (a ≡ line.Morphism f)
  arrow-answer (line.Morphism f) s b = (f, refl)
  arrow-answer line.Category s b = absurd (cc)
  arrow-answer (line.Registered op w) s b = absurd (cc)
  arrow-answer line.Final s b = absurd (cc)
  arrow-answer (line.Plan p) s b = absurd (cc)
  arrow-answer (line.Object h) s b = absurd (cc)
  arrow-answer (line.Tuple fs) s b = absurd (cc)
  arrow-answer (line.Truth t) s b = absurd (cc)
  arrow-answer line.Nothing s b = absurd (cc)
  arrow-answer (line.Refused r) s b = absurd (cc)

  tuple-answer : (n : ℕ) (a : LineAnswer MorData) → HasSort (Tuple n) a → binds a ≡ true → (fs : List (Arrow MorData)) × (a ≡ line.Tuple fs) × (length fs ≡ n)
  tuple-answer n (line.Tuple fs) s b = (fs, refl, s)
  tuple-answer n line.Category s b = absurd (cc)
  tuple-answer n (line.Registered op w) s b = absurd (cc)
  tuple-answer n line.Final s b = absurd (cc)
  tuple-answer n (line.Plan p) s b = absurd (cc)
  tuple-answer n (line.Object h) s b = absurd (cc)
  tuple-answer n (line.Morphism f) s b = absurd (cc)
  tuple-answer n (line.Truth t) s b = absurd (cc)
  tuple-answer n line.Nothing s b = absurd (cc)
  tuple-answer n (line.Refused r) s b = absurd (cc)

  -- what a reference to an object names
  pub record ObjectNamed (made : Made Label) (r : RefTok) : Type 0 where
    pub h : Handle
    pub is : object_at S r ≡ Some h
    pub told : IsToldObject (any_offer made.category) (telling made.number.0) h

  -- and one to a morphism
  pub record ArrowNamed (made : Made Label) (r : RefTok) : Type 0 where
    pub f : Arrow MorData
    pub is : arrow_at S r ≡ Some f
    pub none : object_at S r ≡ None
    pub told : IsToldArrow (any_offer made.category) (telling made.number.0) f

  module _ (scope : Scope) (A : Agrees scope S telling) (cat : List ℕ) (made : Made Label) (is : category_of S cat ≡ Some made) where
    -- the category that was made is the one of this name
    told-here : (v : Value) (b : Bound MorData) → v.cat ≡ cat → Stands S telling v b → IsToldAnswer (any_offer made.category) (telling made.number.0) b.answer
    told-here v b c s =
        let same : s.made ≡ made = some_inner (sym s.is ∙ subst (λ n. category_of S n ≡ Some made) (sym c) is) in
        subst (λ (m : Made Label). IsToldAnswer (any_offer m.category) (telling m.number.0) b.answer) same s.told

    object-told : (r : RefTok) (v : Value) (b : Bound MorData) → v.cat ≡ cat → v.sort ≡ Obj → answer_of S r.name ≡ Some b.answer → Stands S telling v b → is_there S (answer_of S r.name) ≡ true → ObjectNamed made r
    object-told r v b c o e s there =
        let binding : binds b.answer ≡ true = subst (λ a. is_there S a ≡ true) e there in
        let as-object = object-answer b.answer (subst (λ sort. HasSort sort b.answer) o s.sort) binding in
        let told = told-here v b c s in
        record {
          h = as-object.0;
          is = ap (option_and_then (object_in S)) (e ∙ ap Some as-object.1);
          told = subst (λ a. IsToldAnswer (any_offer made.category) (telling made.number.0) a) as-object.1 told;
        }

    pub object-named : (r : RefTok) → RefersToObject scope.values cat r → is_there S (answer_of S r.name) ≡ true → ObjectNamed made r
    object-named r R there =
        let F = found scope r.name R.value A R.bound in
        object-told r R.value F.0 R.category R.object F.1 F.2 there

    arrow-told : (r : RefTok) (v : Value) (b : Bound MorData) (part : Option ℕ) → r.part ≡ part → v.cat ≡ cat → IsMorphism v.sort part → answer_of S r.name ≡ Some b.answer → Stands S telling v b
        → is_there S (answer_of S r.name) ≡ true → ArrowNamed made r
    arrow-told r v b None p c m e s there =
        let binding : binds b.answer ≡ true = subst (λ a. is_there S a ≡ true) e there in
        let as-arrow = arrow-answer b.answer (subst (λ sort. HasSort sort b.answer) m s.sort) binding in
        let told = told-here v b c s in
        record {
          f = as-arrow.0;
          is = ap (λ part. option_and_then (arrow_in S part) (answer_of S r.name)) p ∙ ap (option_and_then (arrow_in S None)) (e ∙ ap Some as-arrow.1);
          none = ap (option_and_then (object_in S)) (e ∙ ap Some as-arrow.1);
          told = subst (λ a. IsToldAnswer (any_offer made.category) (telling made.number.0) a) as-arrow.1 told;
        }
    arrow-told r v b (Some i) p c m e s there =
        let binding : binds b.answer ≡ true = subst (λ a. is_there S a ≡ true) e there in
        let as-tuple = tuple-answer m.parts b.answer (subst (λ sort. HasSort sort b.answer) m.tuple s.sort) binding in
        let told = told-here v b c s in
        let all : All (IsToldArrow (any_offer made.category) (telling made.number.0)) as-tuple.0 = subst (λ a. IsToldAnswer (any_offer made.category) (telling made.number.0) a) as-tuple.1 told in
        let at = part-there as-tuple.0 (i - 1) (omega (arith, m.first, m.last, as-tuple.2)) in
        record {
          f = at.0;
          is = ap (λ part. option_and_then (arrow_in S part) (answer_of S r.name)) p ∙ ap (option_and_then (arrow_in S (Some i))) (e ∙ ap Some as-tuple.1) ∙ at.1;
          none = ap (option_and_then (object_in S)) (e ∙ ap Some as-tuple.1);
          told = All-contains (IsToldArrow (any_offer made.category) (telling made.number.0)) as-tuple.0 at.0 all at.2;
        }

    pub arrow-named : (r : RefTok) → RefersToMorphism scope.values cat r → is_there S (answer_of S r.name) ≡ true → ArrowNamed made r
    arrow-named r R there =
        let F = found scope r.name R.value A R.bound in
        arrow-told r R.value F.0 r.part refl R.category R.morphism F.1 F.2 there

  module _ (scope : Scope) (A : Agrees scope S telling) where
    any-arrow-in : (r : RefTok) (v : Value) (b : Bound MorData) (part : Option ℕ) → r.part ≡ part → IsMorphism v.sort part → answer_of S r.name ≡ Some b.answer → Stands S telling v b → is_there S (answer_of S r.name) ≡ true → (f : Arrow MorData) × (arrow_at S r ≡ Some f)
    any-arrow-in r v b None p m e s there =
        let binding : binds b.answer ≡ true = subst (λ a. is_there S a ≡ true) e there in
        let as-arrow = arrow-answer b.answer (subst (λ sort. HasSort sort b.answer) m s.sort) binding in
        (as-arrow.0, ap (λ part. option_and_then (arrow_in S part) (answer_of S r.name)) p ∙ ap (option_and_then (arrow_in S None)) (e ∙ ap Some as-arrow.1))
    any-arrow-in r v b (Some i) p m e s there =
        let binding : binds b.answer ≡ true = subst (λ a. is_there S a ≡ true) e there in
        let as-tuple = tuple-answer m.parts b.answer (subst (λ sort. HasSort sort b.answer) m.tuple s.sort) binding in
        let at = part-there as-tuple.0 (i - 1) (omega (arith, m.first, m.last, as-tuple.2)) in
        (at.0, ap (λ part. option_and_then (arrow_in S part) (answer_of S r.name)) p ∙ ap (option_and_then (arrow_in S (Some i))) (e ∙ ap Some as-tuple.1) ∙ at.1)

    -- a reference to a morphism of whatever category names one
    pub any-arrow : (r : RefTok) → RefersToAnyMorphism scope.values r → is_there S (answer_of S r.name) ≡ true → (f : Arrow MorData) × (arrow_at S r ≡ Some f)
    any-arrow r R there =
        let F = found scope r.name R.value A R.bound in
        any-arrow-in r R.value F.0 r.part refl R.morphism F.1 F.2 there
