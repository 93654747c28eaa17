-- A chain's events and answers are what its commands do.
use Rattle.std.proofs.Common.{◌≡◌, ℕ, List, [], ◌∷◌, ◌++◌, length, Option, Some, None, map, refl, sym, ap, ◌∙◌, subst, slice_get, append_assoc, arith}
use Rattle.std.specs.Prelude.{option_map}
use Rattle.std.specs.List.{position_or_len}
use Rattle.std.proofs.lemmas.List.{append-nil, length-append, nil_from_length}
use Rattle.std.proofs.lemmas.List.Folds.{find_at}
use Rattle.std.proofs.lemmas.Option.{slice_get-map}
use Rattle.cap_names.specs.declared.identifiers.CatNo.{CatNo}
use Rattle.cap_names.specs.declared.identifiers.SessionNo.{SessionNo}
use Rattle.cap_names.specs.declared.literals.MorLit.{MorLit}
use Rattle.cap_grammar.specs.declared.tree.Command.{Command}
use Rattle.cap_block_faults.specs.Names.{same}
use Rattle.cap_checked.specs.declared.tree.CheckedObj.{CheckedObj}
use Rattle.cap_rules.specs.Table.{rule_table}
use Rattle.cap_data.specs.declared.data.ObjData.{ObjData}
use Rattle.cap_data.specs.declared.data.MorData.{MorData}
use Rattle.cap_desk.specs.Woven.{IsNothing, IsWoven, AreOthers}
use Rattle.cap_desk.proofs.Weaving.{woven-longer}
use Rattle.cap_offer.specs.Labels.{Label}
use Rattle.cap_report.specs.declared.lines.LineAnswer.{LineAnswer}
use Rattle.cap_report.specs.declared.lines.LineAnswer.TheVariants as line
use Rattle.cap_report.specs.declared.lines.LineRefusal.TheVariants as refusal
use Rattle.cap_report.specs.declared.report.History.{History}
use Rattle.cap_report.specs.declared.situation.Made.{Made}
use Rattle.cap_report.specs.Histories.{entries_or_none, history_of}
use Rattle.cap_report.specs.Named.{bound_name}
use Rattle.cap_accounts.specs.Commands.{category_of}
use Rattle.cap_accounts.specs.Accounts.{of_category, with_bound, IsFullOf, FullEnds, CommandsDo}
use Rattle.cap_commands.specs.Agreement.{Standing}
use Rattle.cap_commands.specs.Kinds.{kinds}
use Rattle.cap_commands.specs.Seats.{AtSeat, OfData, IsSeat, AreSeats, seen_or_none, seen_at, AreWhole, FullIsWhole, CommandRuns}
use Rattle.cap_traces.specs.Chains.{Chain}
use Rattle.cap_traces.proofs.Pairs.{zip-right}
use Rattle.cap_traces.proofs.Longer.{whole-seen}
use Rattle.cap_traces.proofs.Growing.{seats-behind, seats-before, woven, stay, whole-before}
use Rattle.cap_traces.proofs.Within.{IsWithin, woven-within}

-- what the seats have seen, as whole histories
abbrev history_at : AtSeat → History ObjData MorData
history_at s = record { cat = record { 0 = 0 }; entries = s.seen }

-- where two lists together are none, each is none
pub left-nil : (xs ys : List OfData) → xs ++ ys ≡ [] → xs ≡ []
left-nil xs ys e = nil_from_length xs (omega (arith, ap length e, length-append xs ys))

pub right-nil : (xs ys : List OfData) → xs ++ ys ≡ [] → ys ≡ []
right-nil xs ys e = nil_from_length ys (omega (arith, ap length e, length-append xs ys))

seen-alone-or : (o : Option AtSeat) → entries_or_none (option_map history_at o) ≡ seen_or_none o
seen-alone-or None = refl
seen-alone-or (Some s) = refl

seen-alone : (seats : List AtSeat) (n : ℕ) → history_of (map history_at seats) n ≡ seen_at seats n
seen-alone seats n = ap entries_or_none (slice_get-map history_at seats n) ∙ seen-alone-or (slice_get seats n)

module _ (session : SessionNo) (S : Standing) where
  whole-alone : (seats : List AtSeat) → AreSeats session S seats → AreWhole (map history_at seats) seats
  whole-alone seats A = whole-seen session S seats A (map history_at seats) (seen-alone seats)

  -- where a category's name is found, it stands at its number
  found-there : (name : List ℕ) (m : Made Label) (seats : List AtSeat) → AreSeats session S seats → category_of S name ≡ Some m → slice_get S.categories m.number.0 ≡ Some m
  found-there name m seats A e =
      let place = position_or_len (λ m. same m.name name) S.categories in
      let at : slice_get S.categories place ≡ Some m = sym (find_at (λ m. same m.name name) S.categories) ∙ e in
      subst (λ i. slice_get S.categories i ≡ Some m) (sym (A.numbered place m at)) at

  -- a full history is as long as what was seen of it
  full-seen : (c : Command CheckedObj MorLit) (n k : ℕ) (between : List AtSeat) → AreSeats session S between
      → ((histories : List (History ObjData MorData)) → AreWhole histories between → FullIsWhole histories S c (line.Refused (refusal.Full n k))) → (histories : List (History ObjData MorData)) → AreWhole histories between
      → (category : CatNo) × IsFullOf kinds rule_table histories S c category n k × (length (history_of histories category.0) ≡ length (seen_at between category.0))
  full-seen c n k between A full histories V =
      let now = full histories V in
      let then = full (map history_at between) (whole-alone between A) in
      let same : then.0 ≡ now.0 = let name = then.1.named in cc in
      (now.0, now.1, sym now.1.entries ∙ then.1.entries ∙ ap length (seen-alone between then.0.0) ∙ ap (λ c. length (seen_at between c.0)) same)

  nothing-later : (whole seen later : List OfData) → whole ≡ seen ++ later → length whole ≡ length seen → later ≡ []
  nothing-later whole seen later e l = nil_from_length later (omega (arith, sym l ∙ ap length e, length-append seen later))

  -- nothing comes behind it
  pub full-nothing : (c : Command CheckedObj MorLit) (n k : ℕ) (between : List AtSeat) → AreSeats session S between
      → ((histories : List (History ObjData MorData)) → AreWhole histories between → FullIsWhole histories S c (line.Refused (refusal.Full n k))) → (histories : List (History ObjData MorData)) → AreWhole histories between
      → (later : ℕ → List OfData) → ((m : ℕ) → history_of histories m ≡ seen_at between m ++ later m) → (category : CatNo) × IsFullOf kinds rule_table histories S c category n k × (later category.0 ≡ [])
  full-nothing c n k between A full histories V later goes =
      let now = full-seen c n k between A full histories V in
      (now.0, now.1, nothing-later (history_of histories now.0.0) (seen_at between now.0.0) (later now.0.0) (goes now.0.0) now.2)

  -- a full history has no later entry
  full-ends : (others : List OfData → Type 0) (c : Command CheckedObj MorLit) (a : LineAnswer MorData) (between seats' : List AtSeat) (later : List (CatNo × OfData)) → AreSeats session S between → AreSeats session S seats'
      → ((n : ℕ) → IsWoven others (seen_at between n) (of_category n later) (seen_at seats' n)) → ((histories : List (History ObjData MorData)) → AreWhole histories between → FullIsWhole histories S c a)
      → (histories : List (History ObjData MorData)) → AreWhole histories seats' → AreWhole histories between → FullEnds kinds rule_table histories S c a later
  full-ends others c (line.Refused (refusal.Full n k)) between seats' later A B w full histories W V =
      let now = full-seen c n k between A full histories V in
      let seat = zip-right (IsSeat session) S.categories seats' now.1.made.number.0 now.1.made B.all (found-there now.1.name now.1.made seats' B now.1.is) in
      let number : now.1.made.number.0 ≡ now.0.0 = ap (λ c. c.0) now.1.number in
      let there : slice_get seats' now.0.0 ≡ Some seat.0 = subst (λ i. slice_get seats' i ≡ Some seat.0) number seat.1 in
      let whole = W now.0.0 seat.0 there in
      let own = of_category now.0.0 later in
      let grew = woven-within others (seen_at between now.0.0) own (seen_at seats' now.0.0) (w now.0.0) in
      let seen : seat.0.seen ≡ seen_at between now.0.0 ++ grew.0 = sym (ap seen_or_none there) ∙ grew.1 in
      let none : grew.0 ++ whole.later ≡ [] = nothing-later (history_of histories now.0.0) (seen_at between now.0.0) (grew.0 ++ whole.later)
      (whole.whole ∙ ap (λ es. es ++ whole.later) seen ∙ append_assoc (seen_at between now.0.0) grew.0 whole.later) now.2 in
      (now.0, now.1, subst (IsWithin own) (left-nil grew.0 whole.later none) grew.2)
  full-ends others c _ between seats' later A B w full histories W V = tt

module _ (others : List OfData → Type 0) (any : AreOthers others) (session : SessionNo) where
  pub chain-does : (S S' : Standing) (seats seats' : List AtSeat) (cs : List (Command CheckedObj MorLit)) (events : List (CatNo × OfData)) (answers : List (LineAnswer MorData))
      → Chain others session S seats cs events answers S' seats' → (histories : List (History ObjData MorData)) → AreWhole histories seats' → CommandsDo kinds rule_table histories session S cs events answers
  chain-does S S' seats seats' [] events answers C histories W = (C.0, C.1)
  chain-does S S' seats seats' (c ∷ cs) events answers (first, later, a, rest, between, e, f, runs, are, chain) histories W =
      let T = with_bound S (bound_name c) a in
      let behind = seats-behind session S (bound_name c) a between are in
      let here = seats-before session S (bound_name c) a seats' (stay others session T between cs later rest S' seats' chain behind) in
      let w : (n : ℕ) → IsWoven others (seen_at between n) (of_category n later) (seen_at seats' n) = woven others session any T between cs later rest S' seats' chain in
      let V = whole-before session S between seats' (λ n. (woven-longer others (seen_at between n) (of_category n later) (seen_at seats' n) (w n)).0) are here
      (λ n. (woven-longer others (seen_at between n) (of_category n later) (seen_at seats' n) (w n)).1) histories W in
      subst (CommandsDo kinds rule_table histories session S (c ∷ cs) events) (sym f)
      (first, later, e, runs.does histories V, full-ends session S others c a between seats' later are here w runs.full histories W V, chain-does T S' between seats' cs later rest chain histories W)

module _ (session : SessionNo) where
  pub chain-more : (S between : Standing) (seats middle seats' : List AtSeat) (cs : List (Command CheckedObj MorLit)) (c : Command CheckedObj MorLit) (events own : List (CatNo × OfData))
      (answers : List (LineAnswer MorData)) (a : LineAnswer MorData) → Chain IsNothing session S seats cs events answers between middle → CommandRuns IsNothing session between middle c own a seats'
      → AreSeats session between seats' → Chain IsNothing session S seats (cs ++ c ∷ []) (events ++ own) (answers ++ a ∷ []) (with_bound between (bound_name c) a) seats'
  chain-more S between seats middle seats' [] c events own answers a C runs are = (
    own,
    [],
    a,
    [],
    seats',
    ap (λ es. es ++ own) C.0 ∙ sym (append-nil own),
    ap (λ answers. answers ++ a ∷ []) C.1,
    subst (λ ss. CommandRuns IsNothing session S ss c own a seats') C.3 (subst (λ T. CommandRuns IsNothing session T middle c own a seats') C.2 runs),
    subst (λ T. AreSeats session T seats') C.2 are,
    (refl, refl, ap (λ T. with_bound T (bound_name c) a) C.2, refl),
  )
  chain-more S between seats middle seats' (d ∷ cs) c events own answers a (first, later, b, rest, next, e, f, first_runs, first_are, chain) runs are = (
    first,
    later ++ own,
    b,
    rest ++ a ∷ [],
    next,
    ap (λ es. es ++ own) e ∙ append_assoc first later own,
    ap (λ answers. answers ++ a ∷ []) f,
    first_runs,
    first_are,
    chain-more (with_bound S (bound_name d) b) between next middle seats' cs c later own rest a chain runs are,
  )
