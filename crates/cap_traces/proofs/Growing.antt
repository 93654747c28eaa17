-- What sessions see over a chain: own entries are woven into it, and where nothing comes between them it grows by these.
use Rattle.std.proofs.Common.{◌≡◌, ℕ, ◌==◌, if◌then◌else◌, List, [], ◌∷◌, ◌++◌, Option, Some, None, refl, sym, ap, ◌∙◌, subst}
use Rattle.std.proofs.lemmas.List.Elements.{filter_map-append}
use Rattle.cap_names.specs.declared.identifiers.CatNo.{CatNo}
use Rattle.cap_names.specs.declared.identifiers.SessionNo.{SessionNo}
use Rattle.cap_names.specs.declared.literals.MorLit.{MorLit}
use Rattle.cap_grammar.specs.declared.tree.Command.{Command}
use Rattle.cap_checked.specs.declared.tree.CheckedObj.{CheckedObj}
use Rattle.cap_data.specs.declared.data.ObjData.{ObjData}
use Rattle.cap_data.specs.declared.data.MorData.{MorData}
use Rattle.cap_desk.specs.Woven.{IsNothing, IsWoven, AreOthers}
use Rattle.cap_desk.proofs.Weaving.{woven-start, woven-on, woven-alone, nothing-others}
use Rattle.cap_report.specs.declared.lines.LineAnswer.{LineAnswer}
use Rattle.cap_report.specs.declared.report.History.{History}
use Rattle.cap_report.specs.Named.{bound_name}
use Rattle.cap_accounts.specs.Accounts.{of_category, with_bound}
use Rattle.cap_commands.specs.Agreement.{Standing}
use Rattle.cap_commands.specs.Seats.{AtSeat, OfData, AreSeats, seen_at, AreWhole}
use Rattle.cap_traces.specs.Chains.{Chain}
use Rattle.cap_traces.proofs.Longer.{longer-seats, whole-longer}

-- the events of a category in two lists
pub of-both : (n : ℕ) (xs ys : List (CatNo × OfData)) → of_category n (xs ++ ys) ≡ of_category n xs ++ of_category n ys
of-both n xs ys = filter_map-append (λ e. if e.0.0 == n then Some e.1 else None) xs ys

-- what is bound makes no category
bound-categories : (S : Standing) (name : Option (List ℕ)) (a : LineAnswer MorData) → (with_bound S name a).categories ≡ S.categories
bound-categories S None a = refl
bound-categories S (Some name) a = refl

pub seats-behind : (session : SessionNo) (S : Standing) (name : Option (List ℕ)) (a : LineAnswer MorData) (seats : List AtSeat) → AreSeats session S seats → AreSeats session (with_bound S name a) seats
seats-behind session S None a seats A = A
seats-behind session S (Some name) a seats A = record { numbered = A.numbered; all = A.all }

pub seats-before : (session : SessionNo) (S : Standing) (name : Option (List ℕ)) (a : LineAnswer MorData) (seats : List AtSeat) → AreSeats session (with_bound S name a) seats → AreSeats session S seats
seats-before session S None a seats A = A
seats-before session S (Some name) a seats A = record { numbered = A.numbered; all = A.all }

-- where others may come between own entries
module _ (others : List OfData → Type 0) (session : SessionNo) where
  -- a chain's own entries are woven into what is seen
  pub woven : AreOthers others → (S : Standing) (seats : List AtSeat) (cs : List (Command CheckedObj MorLit)) (events : List (CatNo × OfData)) (answers : List (LineAnswer MorData)) (S' : Standing) (seats' : List AtSeat)
      → Chain others session S seats cs events answers S' seats' → (n : ℕ) → IsWoven others (seen_at seats n) (of_category n events) (seen_at seats' n)
  woven any S seats [] events answers S' seats' C n =
      subst (λ ss. IsWoven others (seen_at seats n) (of_category n events) (seen_at ss n)) (sym C.3)
      (subst (λ es. IsWoven others (seen_at seats n) (of_category n es) (seen_at seats n)) (sym C.0) (woven-start others any (seen_at seats n)))
  woven any S seats (c ∷ cs) events answers S' seats' (first, later, a, rest, between, e, f, runs, are, chain) n =
      subst (λ own. IsWoven others (seen_at seats n) own (seen_at seats' n)) (sym (of-both n first later) ∙ ap (of_category n) (sym e))
      (woven-on others any (seen_at seats n) (of_category n first) (seen_at between n) (of_category n later) (seen_at seats' n) (runs.grown n)
      (woven any (with_bound S (bound_name c) a) between cs later rest S' seats' chain n))

  -- the seats behind a chain are those of the same categories
  pub stay : (S : Standing) (seats : List AtSeat) (cs : List (Command CheckedObj MorLit)) (events : List (CatNo × OfData)) (answers : List (LineAnswer MorData)) (S' : Standing) (seats' : List AtSeat)
      → Chain others session S seats cs events answers S' seats' → AreSeats session S seats → AreSeats session S seats'
  stay S seats [] events answers S' seats' C A = subst (AreSeats session S) (sym C.3) A
  stay S seats (c ∷ cs) events answers S' seats' (first, later, a, rest, between, e, f, runs, are, chain) A =
      seats-before session S (bound_name c) a seats' (stay (with_bound S (bound_name c) a) between cs later rest S' seats' chain (seats-behind session S (bound_name c) a between are))

module _ (session : SessionNo) where
  pub grown : (S : Standing) (seats : List AtSeat) (cs : List (Command CheckedObj MorLit)) (events : List (CatNo × OfData)) (answers : List (LineAnswer MorData)) (S' : Standing) (seats' : List AtSeat)
      → Chain IsNothing session S seats cs events answers S' seats' → (n : ℕ) → seen_at seats' n ≡ seen_at seats n ++ of_category n events
  grown S seats cs events answers S' seats' C n =
      woven-alone (seen_at seats n) (of_category n events) (seen_at seats' n) (woven IsNothing session (nothing-others ObjData MorData) S seats cs events answers S' seats' C n)

  pub seats-stay : (S : Standing) (seats : List AtSeat) (cs : List (Command CheckedObj MorLit)) (events : List (CatNo × OfData)) (answers : List (LineAnswer MorData)) (S' : Standing) (seats' : List AtSeat)
      → Chain IsNothing session S seats cs events answers S' seats' → AreSeats session S seats → AreSeats session S seats'
  seats-stay = stay IsNothing session

  -- whole histories behind some commands are whole before them
  pub whole-before : (S : Standing) (before behind : List AtSeat) (own : ℕ → List OfData) → AreSeats session S before → AreSeats session S behind → ((n : ℕ) → seen_at behind n ≡ seen_at before n ++ own n)
      → (histories : List (History ObjData MorData)) → AreWhole histories behind → AreWhole histories before
  whole-before S before behind own A B more histories W = whole-longer before behind (longer-seats session S before behind own A B more) histories W
