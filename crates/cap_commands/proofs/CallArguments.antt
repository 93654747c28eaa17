-- The arguments of a call that fits: they are there, have the operation's sorts, and are data of the category between objects that were told.
use Rattle.std.proofs.Common.{◌≡◌, ℕ, Bool, true, false, not, List, [], ◌∷◌, map, Option, Some, None, refl, sym, ap, ◌∙◌, subst, find, cond}
use Rattle.std.specs.Prelude.{IsSome}
use Rattle.std.specs.List.{AllZip, AllByRecursion as ByRecursion}
use Rattle.std.proofs.lemmas.List.Elements.{All-from_recursion}
use Rattle.cap_names.specs.declared.identifiers.Handle.{Handle}
use Rattle.cap_grammar.specs.declared.tree.RefTok.{RefTok}
use Rattle.cap_grammar.specs.declared.tree.ArgTok.{ArgTok}
use Rattle.cap_grammar.specs.declared.tree.ArgTok.TheVariants.{Ref, Int}
use Rattle.cap_ops.specs.declared.keys.Arg.{Arg}
use Rattle.cap_ops.specs.declared.keys.Arg.TheVariants as arg
use Rattle.cap_ops.specs.declared.sorts.Sort.{Sort}
use Rattle.cap_ops.specs.declared.sorts.Sort.TheVariants.{Obj, Mor, Num, Truth, Tuple}
use Rattle.cap_ops.specs.Arrows.{ValueOver, argument, arguments}
use Rattle.cap_ops.specs.Mismatches.{sort_of_argument}
use Rattle.cap_ops.specs.Values.{object, morphism, scalar}
use Rattle.cap_ops.specs.Primitives.{prime_of}
use Rattle.cap_ops.specs.Told.{Tells, IsDatum, Known}
use Rattle.cap_fitting.specs.Commands.{Scope, ArgumentFits, ArgumentsFit}
use Rattle.cap_data.specs.declared.data.ObjData.{ObjData}
use Rattle.cap_data.specs.declared.data.MorData.{MorData}
use Rattle.cap_offer.specs.Labels.{Label, any_offer}
use Rattle.cap_report.specs.declared.situation.Made.{Made}
use Rattle.cap_ops.proofs.Places.{some_inner}
use Rattle.cap_primitives.specs.Given.{from_to}
use Rattle.cap_accounts.specs.Arguments.{HasValue, HaveValues}
use Rattle.cap_accounts.specs.Commands.{category_of, answer_of, is_there, argument_needs, argument_or, object_at, arrow_at, IsArgument, AreArguments}
use Rattle.cap_commands.specs.Agreement.{Standing, Telling, Agrees}
use Rattle.cap_commands.proofs.References.{ObjectNamed, ArrowNamed, object-named, arrow-named}

-- no argument is lacking: each reference's name is there
abbrev pub IsLackingNone : Standing → List ArgTok → Type 0
IsLackingNone S args = find (λ need. not need.1) (argument_needs S args) ≡ None

-- where no argument is lacking, neither the first is nor any other
find-apart : (q : Bool) (x : List ℕ × Bool) (rest : Option (List ℕ × Bool)) → cond (not q) (Some x) rest ≡ None → (q ≡ true) × (rest ≡ None)
find-apart true x rest e = (refl, e)
find-apart false x rest e = absurd (cc)

lacking-apart : (S : Standing) (t : ArgTok) (tokens : List ArgTok) → IsLackingNone S (t ∷ tokens) → IsLackingNone S (t ∷ []) × IsLackingNone S tokens
lacking-apart S (Ref r) tokens e =
    let apart = find-apart (is_there S (answer_of S r.name)) (r.name, is_there S (answer_of S r.name)) (find (λ need. not need.1) (argument_needs S tokens)) e in
    (ap (λ q. cond (not q) (Some (r.name, is_there S (answer_of S r.name))) None) apart.0, apart.1)
lacking-apart S (Int n) tokens e = (refl, e)

module _ (S : Standing) (telling : Telling) (scope : Scope) (A : Agrees scope S telling) (cat : List ℕ) (made : Made Label) (is : category_of S cat ≡ Some made) where
  -- the argument has the sort, and is a datum of the category between told objects
  pub record IsGiven (sort : Sort) (a : Arg MorData) : Type 0 where
    pub has_sort : sort_of_argument a ≡ sort
    pub datum : ValueOver ObjData MorData
    pub tells : Tells (telling made.number.0) (argument a) datum
    pub is_datum : IsDatum (any_offer made.category).category datum

  there-now : (r : RefTok) → IsLackingNone S (Ref r ∷ []) → is_there S (answer_of S r.name) ≡ true
  there-now r e = (find-apart (is_there S (answer_of S r.name)) (r.name, is_there S (answer_of S r.name)) None e).0

  -- one argument
  object-given : (r : RefTok) (a : Arg MorData) → ObjectNamed S telling made r → argument_or S (object_at S r) (arrow_at S r) ≡ Some a → IsGiven Obj a
  object-given r a N e =
      let as-object : arg.Obj N.h ≡ a = some_inner (sym (ap (λ o. argument_or S o (arrow_at S r)) N.is) ∙ e) in
      subst (λ a. IsGiven Obj a) as-object (record { has_sort = refl; datum = object N.told.object; tells = N.told.stands; is_datum = N.told.is })

  arrow-given : (r : RefTok) (a : Arg MorData) → ArrowNamed S telling made r → argument_or S (object_at S r) (arrow_at S r) ≡ Some a → IsGiven Mor a
  arrow-given r a N e =
      let as-arrow : arg.Mor N.f ≡ a = some_inner (sym (ap (λ o. argument_or S o (arrow_at S r)) N.none ∙ ap (λ f. argument_or S None f) N.is) ∙ e) in
      subst (λ a. IsGiven Mor a) as-arrow (record {
        has_sort = refl;
        datum = morphism (from_to N.told.from N.told.to N.f.value);
        tells = record { src = N.told.src; tgt = N.told.tgt; value = refl };
        is_datum = N.told.is;
      })

  one-given : (sort : Sort) (t : ArgTok) (a : Arg MorData) → ArgumentFits scope.values cat sort t → find (λ need. not need.1) (argument_needs S (t ∷ [])) ≡ None
      → IsArgument S (prime_of (any_offer made.category)) t a → IsGiven sort a
  one-given Obj (Ref r) a fits there e = object-given r a (object-named S telling scope A cat made is r fits (there-now r there)) e
  one-given Mor (Ref r) a fits there e = arrow-given r a (arrow-named S telling scope A cat made is r fits (there-now r there)) e
  one-given Num (Ref r) a fits there e = absurd fits
  one-given Truth (Ref r) a fits there e = absurd fits
  one-given (Tuple n) (Ref r) a fits there e = absurd fits
  one-given Obj (Int n) a fits there e = absurd fits
  one-given Mor (Int n) a fits there e = absurd fits
  one-given Truth (Int n) a fits there e = absurd fits
  one-given (Tuple m) (Int n) a fits there e = absurd fits
  one-given Num (Int n) (arg.Num k) fits there e = record { has_sort = refl; datum = scalar k; tells = refl; is_datum = e.below }
  one-given Num (Int n) (arg.Obj h) fits there e = absurd e
  one-given Num (Int n) (arg.Mor f) fits there e = absurd e

  -- all arguments: they have the sorts, and are known
  pub record AreGiven (sorts : List Sort) (args : List (Arg MorData)) : Type 0 where
    pub have_sorts : map sort_of_argument args ≡ sorts
    pub known : Known (any_offer made.category).category (telling made.number.0) (arguments args)

  pub all-given : (sorts : List Sort) (tokens : List ArgTok) (args : List (Arg MorData)) → ArgumentsFit scope.values cat sorts tokens → IsLackingNone S tokens
      → AreArguments S (prime_of (any_offer made.category)) tokens args → AreGiven sorts args
  all-given [] [] [] fits there are = record { have_sorts = refl; known = record { data_of = []; tells = tt; are = tt } }
  all-given [] [] (a ∷ args) fits there are = absurd are
  all-given [] (t ∷ tokens) args fits there are = absurd fits
  all-given (s ∷ sorts) [] args fits there are = absurd fits
  all-given (s ∷ sorts) (t ∷ tokens) [] fits there are = absurd are
  all-given (s ∷ sorts) (t ∷ tokens) (a ∷ args) fits there are =
      let apart = lacking-apart S t tokens there in
      let one = one-given s t a fits.0 apart.0 are.0 in
      let rest = all-given sorts tokens args fits.1 apart.1 are.1 in
      record {
        have_sorts = ap (λ s. s ∷ map sort_of_argument args) one.has_sort ∙ ap (λ ss. s ∷ ss) rest.have_sorts;
        known = record { data_of = one.datum ∷ rest.known.data_of; tells = (one.tells, rest.known.tells); are = (one.is_datum, rest.known.are) };
      }

  -- and each reference names a value
  has-value : (sort : Sort) (t : ArgTok) → ArgumentFits scope.values cat sort t → find (λ need. not need.1) (argument_needs S (t ∷ [])) ≡ None → HasValue S t
  has-value Obj (Ref r) fits there = let N = object-named S telling scope A cat made is r fits (there-now r there) in subst (λ o. IsSome (argument_or S o (arrow_at S r))) (sym N.is) refl
  has-value Mor (Ref r) fits there =
      let N = arrow-named S telling scope A cat made is r fits (there-now r there) in
      subst (λ o. IsSome (argument_or S o (arrow_at S r))) (sym N.none) (subst (λ f. IsSome (argument_or S None f)) (sym N.is) refl)
  has-value Num (Ref r) fits there = absurd fits
  has-value Truth (Ref r) fits there = absurd fits
  has-value (Tuple n) (Ref r) fits there = absurd fits
  has-value sort (Int n) fits there = tt

  have-values-by : (sorts : List Sort) (tokens : List ArgTok) → ArgumentsFit scope.values cat sorts tokens → IsLackingNone S tokens → ByRecursion (HasValue S) tokens
  have-values-by [] [] fits there = tt
  have-values-by [] (t ∷ tokens) fits there = absurd fits
  have-values-by (s ∷ sorts) [] fits there = absurd fits
  have-values-by (s ∷ sorts) (t ∷ tokens) fits there =
      let apart = lacking-apart S t tokens there in
      (has-value s t fits.0 apart.0, have-values-by sorts tokens fits.1 apart.1)

  pub have-values : (sorts : List Sort) (tokens : List ArgTok) → ArgumentsFit scope.values cat sorts tokens → IsLackingNone S tokens → HaveValues S tokens
  have-values sorts tokens fits there = All-from_recursion (HasValue S) tokens (have-values-by sorts tokens fits there)
