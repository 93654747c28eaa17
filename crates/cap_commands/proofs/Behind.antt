-- Behind a command the names agree with what stands: what was bound stays, and what the command binds stands for its answer.
use Rattle.std.proofs.Common.{◌≡◌, ℕ, Bool, true, false, List, [], ◌∷◌, ◌++◌, set, Option, Some, None, refl, sym, ap, ◌∙◌, subst}
use Rattle.std.specs.Prelude.{◌==◌, slice_get, option_map, option_to_list}
use Rattle.std.specs.List.{AllZip}
use Rattle.std.proofs.lemmas.Bool.{eqb-true, eq-eqb}
use Rattle.std.proofs.lemmas.List.{append-nil}
use Rattle.cap_names.specs.declared.identifiers.Handle.{Handle}
use Rattle.cap_names.specs.declared.literals.MorLit.{MorLit}
use Rattle.cap_grammar.specs.declared.tree.Command.{Command}
use Rattle.cap_grammar.specs.declared.tree.Command.TheVariants.{Register, Finalise, Plan, Object, Src, Tgt, Let, Call}
use Rattle.cap_grammar.specs.declared.tree.Over.{Over}
use Rattle.cap_grammar.specs.declared.tree.RefTok.{RefTok}
use Rattle.cap_checked.specs.declared.tree.CheckedObj.{CheckedObj}
use Rattle.cap_ops.specs.declared.arrows.Arrow.{Arrow}
use Rattle.cap_ops.specs.declared.sorts.Sort.{Sort}
use Rattle.cap_ops.specs.declared.sorts.Sort.TheVariants.{Obj, Mor}
use Rattle.cap_ops.specs.Ends.{operation_answer}
use Rattle.cap_ops.specs.Primitives.{OfferData}
use Rattle.cap_ops.specs.Told.{StaysTold}
use Rattle.cap_ops.proofs.Places.{none≢some, some_inner}
use Rattle.cap_faults.specs.declared.values.Value.{Value}
use Rattle.cap_faults.specs.Commands.{value, end_of, value_of}
use Rattle.cap_fitting.specs.Commands.{Scope, IsKnown, CommandFits, RefersToAnyMorphism}
use Rattle.cap_fitting.specs.Values.{bound_by}
use Rattle.cap_data.specs.declared.data.ObjData.{ObjData}
use Rattle.cap_data.specs.declared.data.MorData.{MorData}
use Rattle.cap_offer.specs.Labels.{Label, any_offer}
use Rattle.cap_report.specs.declared.lines.LineAnswer.{LineAnswer}
use Rattle.cap_report.specs.declared.lines.LineAnswer.TheVariants as line
use Rattle.cap_report.specs.declared.lines.LineRefusal.{LineRefusal}
use Rattle.cap_report.specs.declared.situation.Bound.{Bound}
use Rattle.cap_report.specs.declared.situation.Made.{Made}
use Rattle.cap_report.specs.Named.{category_name, bound_name}
use Rattle.cap_accounts.specs.Commands.{category_of, answer_of, is_there, arrow_at}
use Rattle.cap_accounts.specs.Accounts.{with_bound}
use Rattle.cap_seat.specs.Seats.{told_at}
use Rattle.cap_commands.specs.Agreement.{Standing, HasSort, IsToldArrow, IsToldObject, IsToldAnswer, Telling, Stands, IsMadeOver, Agrees}
use Rattle.cap_commands.specs.Seats.{AtSeat, told_or_none, telling}
use Rattle.cap_commands.specs.Doing.{HasItsSort}
use Rattle.cap_commands.specs.Running.{behind_command}
use Rattle.cap_commands.proofs.References.{found, arrow-named}
use Rattle.cap_commands.proofs.Seating.{set-here, set-elsewhere, number-apart}
use Rattle.cap_commands.proofs.ToldAnswers.{refused-sort, answer-stays}

-- two lists one by one
zip-weaker : {A B : Type 0} (P Q : A → B → Type 0) → ((a : A) (b : B) → P a b → Q a b) → (xs : List A) (ys : List B) → AllZip P xs ys → AllZip Q xs ys
zip-weaker P Q k [] [] all = tt
zip-weaker P Q k [] (y ∷ ys) all = absurd all
zip-weaker P Q k (x ∷ xs) [] all = absurd all
zip-weaker P Q k (x ∷ xs) (y ∷ ys) all = (k x y all.0, zip-weaker P Q k xs ys all.1)

zip-append : {A B : Type 0} (P : A → B → Type 0) (xs more : List A) (ys others : List B) → AllZip P xs ys → AllZip P more others → AllZip P (xs ++ more) (ys ++ others)
zip-append P [] more [] others all rest = rest
zip-append P [] more (y ∷ ys) others all rest = absurd all
zip-append P (x ∷ xs) more [] others all rest = absurd all
zip-append P (x ∷ xs) more (y ∷ ys) others all rest = (all.0, zip-append P xs more ys others all.1 rest)

-- what a name that may be there is bound to
abbrev pub bound_as : Option (List ℕ) → LineAnswer MorData → List (Bound MorData)
bound_as None answer = []
bound_as (Some name) answer = record { name = name; answer = answer } ∷ []

-- no binding changes what categories are made
module _ (S : Standing) (answer : LineAnswer MorData) where
  bound-behind : (o : Option (List ℕ)) → (with_bound S o answer).bound ≡ S.bound ++ bound_as o answer
  bound-behind None = sym (append-nil S.bound)
  bound-behind (Some name) = refl

  category-behind : (o : Option (List ℕ)) (cat : List ℕ) → category_of (with_bound S o answer) cat ≡ category_of S cat
  category-behind None cat = refl
  category-behind (Some name) cat = refl

  made-behind : (o : Option (List ℕ)) (cat : List ℕ) (over : Over) → IsMadeOver S cat over → IsMadeOver (with_bound S o answer) cat over
  made-behind o cat over m = record { made = m.made; is = category-behind o cat ∙ m.is; category = m.category }

  stands-behind : (told told' : Telling) → ((n : ℕ) → StaysTold (told n) (told' n)) → (o : Option (List ℕ)) (v : Value) (b : Bound MorData) → Stands S told v b → Stands (with_bound S o answer) told' v b
  stands-behind told told' stays o v b s = record {
    name = s.name;
    sort = s.sort;
    made = s.made;
    is = category-behind o v.cat ∙ s.is;
    told = answer-stays (any_offer s.made.category) (told s.made.number.0) (told' s.made.number.0) (stays s.made.number.0) b.answer s.told;
  }

-- where what was told stays, and what the command binds stands for its answer, the names agree
pub agrees-behind : (S : Standing) (told told' : Telling) → ((n : ℕ) → StaysTold (told n) (told' n)) → (scope : Scope) → Agrees scope S told → (c : Command CheckedObj MorLit) (answer : LineAnswer MorData)
    → AllZip (Stands S told') (bound_by scope.values c) (bound_as (bound_name c) answer) → Agrees (behind_command scope c) (with_bound S (bound_name c) answer) told'
agrees-behind S told told' stays scope A c answer new =
    let o = bound_name c in
    let S' : Standing = with_bound S o answer in
    record {
      bound = subst (λ bs. AllZip (Stands S' told') (scope.values ++ bound_by scope.values c) bs) (sym (bound-behind S answer o))
          (zip-append (Stands S' told') scope.values (bound_by scope.values c) S.bound (bound_as o answer)
          (zip-weaker (Stands S told) (Stands S' told') (stands-behind S answer told told' stays o) scope.values S.bound A.bound)
          (zip-weaker (Stands S told') (Stands S' told') (stands-behind S answer told' told' (λ n h x e. e) o) (bound_by scope.values c) (bound_as o answer) new));
      made = λ cat over known. made-behind S answer o cat over (A.made cat over known);
    }

module _ (S : Standing) (told : Telling) where
  -- what is bound at the end
  abbrev BindsTo : List Value → Command CheckedObj MorLit → LineAnswer MorData → Type 0
  BindsTo values c answer = AllZip (Stands S told) (bound_by values c) (bound_as (bound_name c) answer)

  -- an answer in a category that is made
  stands-there : (x cat : List ℕ) (sort : Sort) (answer : LineAnswer MorData) (made : Made Label) → category_of S cat ≡ Some made → HasSort sort answer → IsToldAnswer (any_offer made.category) (told made.number.0) answer
      → Stands S told (value x cat sort) (record { name = x; answer = answer })
  stands-there x cat sort answer made is has here = record { name = refl; sort = has; made = made; is = is; told = here }

  pub answer-binds : (c : Command CheckedObj MorLit) (name : List ℕ) → category_name c ≡ Some name → (values : List Value) (answer : LineAnswer MorData) → HasItsSort c answer
      → (made : Made Label) → category_of S name ≡ Some made → IsToldAnswer (any_offer made.category) (told made.number.0) answer → BindsTo values c answer
  answer-binds (Register cat op weight) name named values answer has made is here = tt
  answer-binds (Finalise cat) name named values answer has made is here = tt
  answer-binds (Plan cat) name named values answer has made is here = tt
  answer-binds (Object cat x lit) name named values answer has made is here = (stands-there x cat Obj answer made (subst (λ n. category_of S n ≡ Some made) (sym (some_inner named)) is) has here, tt)
  answer-binds (Src x r) name named values answer has made is here = absurd (none≢some named)
  answer-binds (Tgt x r) name named values answer has made is here = absurd (none≢some named)
  answer-binds (Let x cat src tgt lit) name named values answer has made is here = (stands-there x cat Mor answer made (subst (λ n. category_of S n ≡ Some made) (sym (some_inner named)) is) has here, tt)
  answer-binds (Call x cat op args) name named values answer has made is here = (stands-there x cat (operation_answer op.0) answer made (subst (λ n. category_of S n ≡ Some made) (sym (some_inner named)) is) has here, tt)

  module _ (scope : Scope) (A : Agrees scope S told) where
    -- no name stands for a refusal
    refused-there : (x cat : List ℕ) (sort : Sort) (why : LineRefusal) → IsKnown scope cat → Stands S told (value x cat sort) (record { name = x; answer = line.Refused why })
    refused-there x cat sort why known =
        let M = A.made cat known.over known.known in
        stands-there x cat sort (line.Refused why) M.made M.is (refused-sort sort why) tt

    -- an end is of the category of its morphism
    end-there : (x : List ℕ) (r : RefTok) (R : RefersToAnyMorphism scope.values r) (answer : LineAnswer MorData) → Stands S told (end_of x R.value) (record { name = x; answer = answer })
        → AllZip (Stands S told) (option_to_list (option_map (end_of x) (value_of scope.values r.name))) (record { name = x; answer = answer } ∷ [])
    end-there x r R answer s = subst (λ o. AllZip (Stands S told) (option_to_list (option_map (end_of x) o)) (record { name = x; answer = answer } ∷ [])) (sym R.bound) (s, tt)

    refused-end : (x : List ℕ) (r : RefTok) (R : RefersToAnyMorphism scope.values r) (why : LineRefusal) → AllZip (Stands S told) (option_to_list (option_map (end_of x) (value_of scope.values r.name))) (record { name = x; answer = line.Refused why } ∷ [])
    refused-end x r R why =
        let s = (found S told scope r.name R.value A R.bound).2 in
        end-there x r R (line.Refused why) (stands-there x R.value.cat Obj (line.Refused why) s.made s.is refl tt)

    pub refusal-binds : (c : Command CheckedObj MorLit) → CommandFits scope c → (why : LineRefusal) → BindsTo scope.values c (line.Refused why)
    refusal-binds (Register cat op weight) fits why = tt
    refusal-binds (Finalise cat) fits why = tt
    refusal-binds (Plan cat) fits why = tt
    refusal-binds (Object cat x lit) fits why = (refused-there x cat Obj why fits.category, tt)
    refusal-binds (Src x r) fits why = refused-end x r fits.morphism why
    refusal-binds (Tgt x r) fits why = refused-end x r fits.morphism why
    refusal-binds (Let x cat src tgt lit) fits why = (refused-there x cat Mor why fits.category, tt)
    refusal-binds (Call x cat op args) fits why = (refused-there x cat (operation_answer op.0) why fits.category, tt)

    -- the ends of a morphism between told objects are told
    pub end-binds : (x : List ℕ) (r : RefTok) (R : RefersToAnyMorphism scope.values r) → is_there S (answer_of S r.name) ≡ true → (end : Arrow MorData → Handle)
        → ((D : OfferData ObjData MorData) (look : Handle → Option ObjData) (f : Arrow MorData) → IsToldArrow D look f → IsToldObject D look (end f))
        → (answer : LineAnswer MorData) → option_map (λ f. line.Object (end f)) (arrow_at S r) ≡ Some answer → AllZip (Stands S told) (option_to_list (option_map (end_of x) (value_of scope.values r.name))) (record { name = x; answer = answer } ∷ [])
    end-binds x r R there end tells answer e =
        let s = (found S told scope r.name R.value A R.bound).2 in
        let N = arrow-named S told scope A R.value.cat s.made s.is r (record { value = R.value; bound = R.bound; category = refl; morphism = R.morphism }) there in
        let as-object : line.Object (end N.f) ≡ answer = some_inner (sym (ap (option_map (λ f. line.Object (end f))) N.is) ∙ e) in
        subst (λ (l : LineAnswer MorData). AllZip (Stands S told) (option_to_list (option_map (end_of x) (value_of scope.values r.name))) (record { name = x; answer = l } ∷ [])) as-object
        (end-there x r R (line.Object (end N.f)) (stands-there x R.value.cat Obj (line.Object (end N.f)) s.made s.is tt (tells (any_offer s.made.category) (told s.made.number.0) N.f N.told)))

-- both ends of a told morphism are told objects
pub source-told : (D : OfferData ObjData MorData) (look : Handle → Option ObjData) (f : Arrow MorData) → IsToldArrow D look f → IsToldObject D look f.src
source-told D look f t = record { object = t.from; stands = t.src; is = t.is.src }

pub target-told : (D : OfferData ObjData MorData) (look : Handle → Option ObjData) (f : Arrow MorData) → IsToldArrow D look f → IsToldObject D look f.tgt
target-told D look f t = record { object = t.to; stands = t.tgt; is = t.is.tgt }

-- where one seat is set, and what was told there stays, what was told anywhere stays
module _ (seats : List AtSeat) (place : ℕ) (s t : AtSeat) (there : slice_get seats place ≡ Some s) (stays : StaysTold (told_at s) (told_at t)) where
  pub told-there : telling (set seats place t) place ≡ told_at t
  told-there = ap told_or_none (set-here seats place s t there)

  stays-at : (n : ℕ) (b : Bool) → (b ≡ true → place ≡ n) → (b ≡ false → place ≡ n → ⊥) → StaysTold (telling seats n) (telling (set seats place t) n)
  stays-at n true same apart =
      subst (λ m. StaysTold (telling seats m) (telling (set seats place t) m)) (same refl)
      (subst (λ (look : Handle → Option ObjData). StaysTold look (telling (set seats place t) place)) (sym (ap told_or_none there))
      (subst (λ (look : Handle → Option ObjData). StaysTold (told_at s) look) (sym told-there) stays))
  stays-at n false same apart =
      let other = apart refl in
      subst (λ o. StaysTold (telling seats n) (told_or_none o)) (sym (set-elsewhere seats place n t (λ e. other (sym e)))) (λ h x e. e)

  pub telling-stays : (n : ℕ) → StaysTold (telling seats n) (telling (set seats place t) n)
  telling-stays n = stays-at n (place == n) (eqb-true place n) (number-apart (place == n) place n (eq-eqb place n))
