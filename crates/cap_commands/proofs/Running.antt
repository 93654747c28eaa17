-- A command of a session over its seats runs as the accounts say.
use Rattle.std.proofs.Common.{◌≡◌, ℕ, ◌<◌, Bool, true, false, not, List, [], ◌∷◌, ◌++◌, length, set, Option, Some, None, Result, Ok, Err, refl, sym, ap, ◌∙◌, subst, find, cond, filter_map}
use Rattle.std.specs.Prelude.{slice_get, option_map, IsSome, IfOk}
use Rattle.std.specs.List.{AllZip}
use Rattle.std.proofs.lemmas.List.{append-nil}
use Rattle.std.proofs.lemmas.Option.{slice_get_within}
use Rattle.cap_names.specs.declared.faults.NoMemory.{NoMemory as Wanting}
use Rattle.cap_names.specs.declared.identifiers.CatNo.{CatNo}
use Rattle.cap_names.specs.declared.identifiers.Handle.{Handle}
use Rattle.cap_names.specs.declared.identifiers.SessionNo.{SessionNo}
use Rattle.cap_names.specs.declared.literals.MorLit.{MorLit}
use Rattle.cap_grammar.specs.declared.tree.Command.{Command}
use Rattle.cap_grammar.specs.declared.tree.Command.TheVariants.{Register, Finalise, Plan, Object, Src, Tgt, Let, Call}
use Rattle.cap_grammar.specs.declared.tree.RefTok.{RefTok}
use Rattle.cap_checked.specs.declared.tree.CheckedObj.{CheckedObj}
use Rattle.cap_ops.specs.declared.arrows.Arrow.{Arrow}
use Rattle.cap_ops.proofs.Places.{none≢some, some_inner}
use Rattle.cap_rules.specs.Table.{rule_table}
use Rattle.cap_fitting.specs.Commands.{Scope, CommandFits}
use Rattle.cap_fitting.specs.Values.{bound_by}
use Rattle.cap_data.specs.declared.data.ObjData.{ObjData}
use Rattle.cap_data.specs.declared.data.MorData.{MorData}
use Rattle.cap_data.specs.Counts.{cells_in_object, cells_in_morphism}
use Rattle.cap_ops.specs.Told.{StaysTold}
use Rattle.cap_offer.specs.Labels.{Label, any_offer}
use Rattle.cap_report.specs.declared.lines.LineAnswer.{LineAnswer}
use Rattle.cap_report.specs.declared.lines.LineAnswer.TheVariants as line
use Rattle.cap_report.specs.declared.lines.LineRefusal.TheVariants as refusal
use Rattle.cap_report.specs.declared.report.History.{History}
use Rattle.cap_report.specs.declared.situation.Made.{Made}
use Rattle.cap_report.specs.Named.{category_name, bound_name}
use Rattle.cap_accounts.specs.Commands.{category_of, answer_of, is_made, is_there, argument_needs, lacking, arrow_at}
use Rattle.cap_accounts.specs.Accounts.{DoesAll, DoesOrLacks}
use Rattle.cap_desk.specs.Woven.{AreOthers}
use Rattle.cap_desk.proofs.Handing.{more-none}
use Rattle.cap_desk.proofs.Weaving.{woven-start}
use Rattle.cap_seat.specs.declared.tries.Try.{Try}
use Rattle.cap_seat.specs.Events.{entered}
use Rattle.cap_seat.specs.Seats.{told_at, Holds}
use Rattle.cap_commands.specs.Kinds.{kinds}
use Rattle.cap_commands.specs.Agreement.{Standing, IsToldAnswer, Stands, Agrees}
use Rattle.cap_commands.specs.Seats.{AtSeat, OfData, with_number, IsSeat, AreSeats, told_or_none, telling, seen_at, hand_at, FullIsWhole, CommandRuns}
use Rattle.cap_commands.specs.Doing.{Saying, DoesAt, IsAtSeat, in_category}
use Rattle.cap_commands.specs.Running.{ComesTo, DoesAlone, DoesInPlace, EndDoes, IsPrepared, AgreesBehind, NamesArrow, Runs}
use Rattle.cap_commands.proofs.References.{any-arrow}
use Rattle.cap_commands.proofs.Ready.{needs-both}
use Rattle.cap_commands.proofs.Behind.{bound_as, agrees-behind, answer-binds, refusal-binds, end-binds, source-told, target-told, told-there, telling-stays}
use Rattle.cap_commands.proofs.Seating.{IsSeatOf, seat-of, emptied, runs-at, seats-after}

-- what was tried is what the command tried
pub does_alone : (others : List OfData → Type 0) (says : Saying) (s : AtSeat) (number : CatNo) (before : List (CatNo × OfData)) (answer : LineAnswer MorData) (behind s' : AtSeat) (after : List (CatNo × OfData))
    → s.tries ≡ [] → DoesAt others says s answer behind → Holds (any_offer behind.offer) cells_in_object cells_in_morphism behind → s' ≡ record behind { tries = [] }
    → after ≡ before ++ with_number number (filter_map entered behind.tries) → DoesAlone others says s number before answer s' after
does_alone others says s number before answer behind s' after none d holds emptied added =
    let tried : behind.tries ≡ d.more = d.goes.tries ∙ ap (λ ts. ts ++ d.more) none in
    record { behind = behind; does = d; holds = holds; emptied = emptied; added = added ∙ ap (λ ts. before ++ with_number number (filter_map entered ts)) tried }

-- where no name is lacking, the category of the command was made
there-made : (S : Standing) (o : Option (Made Label)) → is_made S o ≡ true → IsSome o
there-made S None e = absurd (cc)
there-made S (Some m) e = refl

module _ (S : Standing) where
  made-first : (cat : List ℕ) (rest : Option (List ℕ × Bool)) → option_map (λ (need : List ℕ × Bool). need.0) (cond (not (is_made S (category_of S cat))) (Some (cat, is_made S (category_of S cat))) rest) ≡ None → (name : List ℕ) → Some cat ≡ Some name → IsSome (category_of S name)
  made-first cat rest lacks name named = subst (λ n. IsSome (category_of S n)) (some_inner named) (there-made S (category_of S cat) (needs-both (is_made S (category_of S cat)) cat rest lacks).0)

  pub is_made_by : (c : Command CheckedObj MorLit) (name : List ℕ) → category_name c ≡ Some name → lacking S c ≡ None → IsSome (category_of S name)
  is_made_by (Register cat op weight) name named lacks = made-first cat None lacks name named
  is_made_by (Finalise cat) name named lacks = made-first cat None lacks name named
  is_made_by (Plan cat) name named lacks = made-first cat None lacks name named
  is_made_by (Object cat x lit) name named lacks = made-first cat None lacks name named
  is_made_by (Src x r) name named lacks = absurd (none≢some named)
  is_made_by (Tgt x r) name named lacks = absurd (none≢some named)
  is_made_by (Let x cat src tgt lit) name named lacks =
      made-first cat (cond (not (is_there S (answer_of S src.name))) (Some (src.name, is_there S (answer_of S src.name))) (cond (not (is_there S (answer_of S tgt.name))) (Some (tgt.name, is_there S (answer_of S tgt.name))) None)) lacks name named
  is_made_by (Call x cat op args) name named lacks = made-first cat (find (λ need. not need.1) (argument_needs S args)) lacks name named

  -- an end is asked of a morphism
  arrow-there : (seats : List AtSeat) (c : Command CheckedObj MorLit) (r : RefTok) → (f : Arrow MorData) × (arrow_at S r ≡ Some f) → IsSome (arrow_at S r)
  arrow-there seats c r F = subst (λ (o : Option (Arrow MorData)). IsSome o) (sym F.1) refl

  pub names_arrow : (seats : List AtSeat) (c : Command CheckedObj MorLit) → IsPrepared S seats c → category_name c ≡ None → lacking S c ≡ None → NamesArrow S c
  names_arrow seats (Src x r) P named lacks =
      arrow-there seats (Src x r) r (any-arrow S (telling seats) P.scope P.agrees r P.fits.morphism (needs-both (is_there S (answer_of S r.name)) r.name None lacks).0)
  names_arrow seats (Tgt x r) P named lacks =
      arrow-there seats (Tgt x r) r (any-arrow S (telling seats) P.scope P.agrees r P.fits.morphism (needs-both (is_there S (answer_of S r.name)) r.name None lacks).0)
  names_arrow seats (Register cat op weight) P named lacks = absurd (none≢some (sym named))
  names_arrow seats (Finalise cat) P named lacks = absurd (none≢some (sym named))
  names_arrow seats (Plan cat) P named lacks = absurd (none≢some (sym named))
  names_arrow seats (Object cat x lit) P named lacks = absurd (none≢some (sym named))
  names_arrow seats (Let x cat src tgt lit) P named lacks = absurd (none≢some (sym named))
  names_arrow seats (Call x cat op args) P named lacks = absurd (none≢some (sym named))

module _ (S : Standing) (seats : List AtSeat) (c : Command CheckedObj MorLit) (P : IsPrepared S seats c) (name : List ℕ) (made : Made Label) (named : category_name c ≡ Some name) (is : category_of S name ≡ Some made) (lacks : lacking S c ≡ None) where
  here : IsSeatOf P.session S seats made
  here = seat-of P.session S seats P.are name made is

  pub in_bounds : made.number.0 < length seats
  in_bounds = slice_get_within seats made.number.0 here.seat here.there

  comes-here : IsSeat P.session made here.seat → ComesTo S made here.seat c
  comes-here at = record {
    comes = record { name = name; named = named; is = is; lacks = lacks; scope = P.scope; telling = telling seats; here = ap told_or_none here.there; agrees = P.agrees; fits = P.fits; literal = P.literal };
    offer = sym at.offer;
    taken = at.taken;
    holds = at.holds;
  }

  pub comes_to : (s : AtSeat) → slice_get seats made.number.0 ≡ Some s → ComesTo S made s c
  comes_to s there = subst (λ t. ComesTo S made t c) (some_inner (sym here.there ∙ there)) (comes-here here.is)

module _ (others : List OfData → Type 0) (are : AreOthers others) (S : Standing) (seats : List AtSeat) (c : Command CheckedObj MorLit) (before : List (CatNo × OfData)) where
  -- at a seat
  module _ (name : List ℕ) (made : Made Label) (named : category_name c ≡ Some name) (is : category_of S name ≡ Some made) (lacks : lacking S c ≡ None) (s s' : AtSeat) (there : slice_get seats made.number.0 ≡ Some s) (answer : LineAnswer MorData) (after : List (CatNo × OfData))
      (A : DoesAlone others (in_category s.session S made c) s made.number before answer s' after) where
    seat-is : (session : SessionNo) → AreSeats session S seats → IsSeatOf session S seats made
    seat-is session at = seat-of session S seats at name made is

    seat-here : (session : SessionNo) (at : AreSeats session S seats) → IsSeat session made s
    seat-here session at = let H = seat-is session at in subst (IsSeat session made) (some_inner (sym H.there ∙ there)) H.is

    agrees-here : A.behind.offer ≡ made.category → AgreesBehind S seats c answer (set seats made.number.0 (emptied A.behind))
    agrees-here offer scope agrees fits literal =
        let told' = telling (set seats made.number.0 (emptied A.behind)) in
        let told : IsToldAnswer (any_offer made.category) (told_at A.behind) answer = subst (λ x. IsToldAnswer (any_offer x) (told_at A.behind) answer) offer A.does.told in
        agrees-behind S (telling seats) told' (telling-stays seats made.number.0 s (emptied A.behind) there A.does.stays) scope agrees c answer
        (answer-binds S told' c name named scope.values answer A.does.sort made is
        (subst (λ (look : Handle → Option ObjData). IsToldAnswer (any_offer made.category) look answer) (sym (told-there seats made.number.0 s (emptied A.behind) there A.does.stays)) told))

    pub seats_run : Runs others S seats c before answer (set seats made.number.0 s') after
    seats_run = record {
      own = with_number made.number (filter_map entered A.does.more);
      added = A.added;
      are = λ session at. let I = seat-here session at in
          subst (λ t. AreSeats session S (set seats made.number.0 t)) (sym A.emptied)
          (seats-after session S seats at made A.behind (seat-is session at).listed (A.does.goes.offer ∙ I.offer) (A.does.goes.session ∙ I.own) A.holds);
      runs = λ session at. let I = seat-here session at in
          subst (λ t. CommandRuns others session S seats c (with_number made.number (filter_map entered A.does.more)) answer (set seats made.number.0 t)) (sym A.emptied)
          (runs-at others are session S seats c name made named is lacks s A.behind there answer I.own I.offer A.does);
      agrees = λ session at. let I = seat-here session at in
          subst (λ t. AgreesBehind S seats c answer (set seats made.number.0 t)) (sym A.emptied) (agrees-here (A.does.goes.offer ∙ I.offer));
      stays = λ session at. subst (λ (t : AtSeat). (n : ℕ) → StaysTold (telling seats n) (telling (set seats made.number.0 t) n)) (sym A.emptied) (telling-stays seats made.number.0 s (emptied A.behind) there A.does.stays);
    }

  -- at no seat
  nothing-runs : (answer : LineAnswer MorData) → ((session : SessionNo) (histories : List (History ObjData MorData)) → DoesOrLacks kinds rule_table histories (lacking S c) session S c [] answer) → ((histories : List (History ObjData MorData)) → FullIsWhole histories S c answer)
      → ((scope : Scope) → Agrees scope S (telling seats) → CommandFits scope c → AllZip (Stands S (telling seats)) (bound_by scope.values c) (bound_as (bound_name c) answer)) → Runs others S seats c before answer seats before
  nothing-runs answer does full binds = record {
    own = [];
    added = sym (append-nil before);
    are = λ session at. at;
    runs = λ session at. record { does = λ histories whole. does session histories; full = λ histories whole. full histories; grown = λ n. woven-start others are (seen_at seats n); hands = λ n. more-none (hand_at seats n) };
    agrees = λ session at scope agrees fits literal. agrees-behind S (telling seats) (telling seats) (λ n h x e. e) scope agrees c answer (binds scope agrees fits);
    stays = λ session at n h x e. e;
  }

  pub lacks_runs : (name : List ℕ) → lacking S c ≡ Some name → Runs others S seats c before (line.Refused (refusal.Lacks name)) seats before
  lacks_runs name lacks =
      nothing-runs (line.Refused (refusal.Lacks name)) (λ session histories. subst (λ l. DoesOrLacks kinds rule_table histories l session S c [] (line.Refused (refusal.Lacks name))) (sym lacks) (refl, refl)) (λ histories. tt)
      (λ scope agrees fits. refusal-binds S (telling seats) scope agrees c fits (refusal.Lacks name))

-- the end of a morphism is no refusal
end-not-full : (S : Standing) (c : Command CheckedObj MorLit) (histories : List (History ObjData MorData)) (g : Arrow MorData → Handle) (o : Option (Arrow MorData)) (answer : LineAnswer MorData) → option_map (λ f. line.Object (g f)) o ≡ Some answer → FullIsWhole histories S c answer
end-not-full S c histories g None answer e = absurd (none≢some e)
end-not-full S c histories g (Some f) answer e = subst (λ a. FullIsWhole histories S c a) (some_inner e) tt

module _ (others : List OfData → Type 0) (are : AreOthers others) (S : Standing) (seats : List AtSeat) (before : List (CatNo × OfData)) where
  end-does : (c : Command CheckedObj MorLit) (answer : LineAnswer MorData) → lacking S c ≡ None → EndDoes S c answer → (session : SessionNo) (histories : List (History ObjData MorData)) → DoesAll kinds rule_table histories session S c [] answer → DoesOrLacks kinds rule_table histories (lacking S c) session S c [] answer
  end-does c answer lacks E session histories d = subst (λ l. DoesOrLacks kinds rule_table histories l session S c [] answer) (sym lacks) d

  pub end_runs : (c : Command CheckedObj MorLit) (answer : LineAnswer MorData) → lacking S c ≡ None → EndDoes S c answer → Runs others S seats c before answer seats before
  end_runs (Src x r) answer lacks E = nothing-runs others are S seats (Src x r) before answer (λ session histories. end-does (Src x r) answer lacks E session histories (refl, E)) (λ histories. end-not-full S (Src x r) histories (λ f. f.src) (arrow_at S r) answer E)
      (λ scope agrees fits. end-binds S (telling seats) scope agrees x r fits.morphism (needs-both (is_there S (answer_of S r.name)) r.name None lacks).0 (λ f. f.src) source-told answer E)
  end_runs (Tgt x r) answer lacks E = nothing-runs others are S seats (Tgt x r) before answer (λ session histories. end-does (Tgt x r) answer lacks E session histories (refl, E)) (λ histories. end-not-full S (Tgt x r) histories (λ f. f.tgt) (arrow_at S r) answer E)
      (λ scope agrees fits. end-binds S (telling seats) scope agrees x r fits.morphism (needs-both (is_there S (answer_of S r.name)) r.name None lacks).0 (λ f. f.tgt) target-told answer E)
  end_runs (Register cat op weight) answer lacks E = absurd E
  end_runs (Finalise cat) answer lacks E = absurd E
  end_runs (Plan cat) answer lacks E = absurd E
  end_runs (Object cat x lit) answer lacks E = absurd E
  end_runs (Let x cat src tgt lit) answer lacks E = absurd E
  end_runs (Call x cat op args) answer lacks E = absurd E

-- from one place
pub place_runs : (others : List OfData → Type 0) → AreOthers others → (S : Standing) (seats : List AtSeat) (c : Command CheckedObj MorLit) (before : List (CatNo × OfData)) (name : List ℕ) (made : Made Label) → category_name c ≡ Some name → category_of S name ≡ Some made → lacking S c ≡ None
    → (answer : LineAnswer MorData) (seats' : List AtSeat) (after : List (CatNo × OfData)) → DoesInPlace others S made seats made.number.0 c before answer seats' after → Runs others S seats c before answer seats' after
place_runs others are S seats c before name made named is lacks answer seats' after D =
    subst (λ (ss : List AtSeat). Runs others S seats c before answer ss after) (sym D.set_is) (seats_run others are S seats c before name made named is lacks D.seat D.behind D.there answer after D.does)

pub place_clause : (others : List OfData → Type 0) → AreOthers others → (S : Standing) (seats : List AtSeat) (c : Command CheckedObj MorLit) (before : List (CatNo × OfData)) (name : List ℕ) (made : Made Label) → category_name c ≡ Some name → category_of S name ≡ Some made → lacking S c ≡ None
    → (seats' : List AtSeat) (after : List (CatNo × OfData)) (r : Result (LineAnswer MorData) Wanting) → IfOk r (λ answer. DoesInPlace others S made seats made.number.0 c before answer seats' after) → IfOk r (λ answer. Runs others S seats c before answer seats' after)
place_clause others are S seats c before name made named is lacks seats' after (Ok answer) d = place_runs others are S seats c before name made named is lacks answer seats' after d
place_clause others are S seats c before name made named is lacks seats' after (Err e) d = tt

pub in_place_clause : (others : List OfData → Type 0) (S : Standing) (made : Made Label) (seats : List AtSeat) (place : ℕ) (c : Command CheckedObj MorLit) (before : List (CatNo × OfData)) (s s' : AtSeat) → slice_get seats place ≡ Some s → (after : List (CatNo × OfData)) (r : Result (LineAnswer MorData) Wanting)
    → IfOk r (λ answer. DoesAlone others (in_category s.session S made c) s made.number before answer s' after) → IfOk r (λ answer. DoesInPlace others S made seats place c before answer (set seats place s') after)
in_place_clause others S made seats place c before s s' there after (Ok answer) d = record { seat = s; there = there; behind = s'; set_is = refl; does = d }
in_place_clause others S made seats place c before s s' there after (Err e) d = tt
