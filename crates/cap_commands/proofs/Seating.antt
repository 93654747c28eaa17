-- A command at one seat of several is a command of the session.
use Rattle.std.proofs.Common.{◌≡◌, ℕ, zero, suc, ◌<◌, Bool, true, false, List, [], ◌∷◌, ◌++◌, length, map, set, Option, Some, None, refl, sym, ap, ◌∙◌, subst, find, cond, filter_map, arith}
use Rattle.std.specs.Prelude.{◌==◌, if◌then◌else◌, slice_get, option_map}
use Rattle.std.specs.List.{AllZip, cons_option}
use Rattle.std.proofs.lemmas.Bool.{eqb-true, eq-eqb}
use Rattle.cap_names.specs.declared.identifiers.CatNo.{CatNo}
use Rattle.cap_names.specs.declared.identifiers.Handle.{Handle}
use Rattle.cap_names.specs.declared.identifiers.SessionNo.{SessionNo}
use Rattle.cap_names.specs.declared.literals.MorLit.{MorLit}
use Rattle.cap_grammar.specs.declared.tree.Command.{Command}
use Rattle.cap_grammar.specs.declared.tree.Command.TheVariants.{Register, Finalise, Plan, Object, Src, Tgt, Let, Call}
use Rattle.cap_block_faults.specs.Names.{same}
use Rattle.cap_checked.specs.declared.tree.CheckedObj.{CheckedObj}
use Rattle.cap_ops.specs.Told.{told_in}
use Rattle.cap_ops.proofs.Places.{none≢some, some_inner}
use Rattle.cap_rules.specs.Table.{rule_table}
use Rattle.cap_data.specs.declared.data.ObjData.{ObjData}
use Rattle.cap_data.specs.declared.data.MorData.{MorData}
use Rattle.cap_data.specs.Counts.{cells_in_object, cells_in_morphism}
use Rattle.cap_offer.specs.Labels.{Label, any_offer}
use Rattle.cap_history.specs.Reading.{objects, cells}
use Rattle.cap_history.specs.Replies.{IsFull}
use Rattle.cap_legal.specs.Legal.{Legal}
use Rattle.cap_report.specs.declared.lines.LineAnswer.{LineAnswer}
use Rattle.cap_report.specs.declared.lines.LineAnswer.TheVariants as line
use Rattle.cap_report.specs.declared.lines.LineRefusal.TheVariants as refusal
use Rattle.cap_report.specs.declared.report.History.{History}
use Rattle.cap_report.specs.declared.situation.Made.{Made}
use Rattle.cap_report.specs.Histories.{history_of}
use Rattle.cap_report.specs.Named.{category_name}
use Rattle.cap_accounts.specs.Commands.{category_of, lacking, DoesIn}
use Rattle.cap_accounts.specs.Accounts.{of_category, DoesAll, DoesOrLacks, InCategory, IsFullOf}
use Rattle.cap_desk.specs.Books.{frame}
use Rattle.cap_desk.specs.Hands.{with_more}
use Rattle.cap_desk.proofs.Handing.{more-none}
use Rattle.cap_desk.specs.Woven.{IsWoven, AreOthers}
use Rattle.cap_desk.proofs.Weaving.{woven-start}
use Rattle.cap_seat.specs.Events.{entered, HasFullFront}
use Rattle.cap_seat.specs.Seats.{Holds}
use Rattle.cap_session_lines.proofs.Recording.{whole-front}
use Rattle.cap_commands.specs.Kinds.{kinds}
use Rattle.cap_commands.specs.Agreement.{Standing}
use Rattle.cap_commands.specs.Seats.{AtSeat, OfData, with_number, IsSeat, AreSeats, seen_or_none, seen_at, hand_or_none, hand_at, AreWhole, FullIsWhole, CommandRuns}
use Rattle.cap_commands.specs.Doing.{DoesAt, IsFullSeen, in_category}

-- what is found in a list stands there at a place
abbrev StandsIn : {X : Type 0} → List X → X → Type 0
StandsIn xs x = (i : ℕ) × (slice_get xs i ≡ Some x)

found-step : {X : Type 0} (b : Bool) (y x : X) (ys : List X) (rest : Option X) → (rest ≡ Some x → StandsIn ys x) → cond b (Some y) rest ≡ Some x → StandsIn (y ∷ ys) x
found-step true y x ys rest k e = (0, e)
found-step false y x ys rest k e = let later = k e in (suc later.0, later.1)

found-at : {X : Type 0} (test : X → Bool) (xs : List X) (x : X) → find test xs ≡ Some x → StandsIn xs x
found-at test [] x e = absurd (none≢some e)
found-at test (y ∷ ys) x e = found-step (test y) y x ys (find test ys) (found-at test ys x) e

-- a list in which one place is set
pub set-here : {X : Type 0} (xs : List X) (i : ℕ) (x y : X) → slice_get xs i ≡ Some x → slice_get (set xs i y) i ≡ Some y
set-here [] i x y e = absurd (none≢some e)
set-here (z ∷ xs) zero x y e = refl
set-here (z ∷ xs) (suc i) x y e = set-here xs i x y e

pub set-elsewhere : {X : Type 0} (xs : List X) (i j : ℕ) (y : X) → (j ≡ i → ⊥) → slice_get (set xs i y) j ≡ slice_get xs j
set-elsewhere [] i j y apart = refl
set-elsewhere (z ∷ xs) zero zero y apart = absurd (apart refl)
set-elsewhere (z ∷ xs) zero (suc j) y apart = refl
set-elsewhere (z ∷ xs) (suc i) zero y apart = refl
set-elsewhere (z ∷ xs) (suc i) (suc j) y apart = set-elsewhere xs i j y (λ e. apart (ap suc e))

-- two lists one by one
zip-there : {A B : Type 0} (P : A → B → Type 0) (xs : List A) (ys : List B) (i : ℕ) (a : A) → AllZip P xs ys → slice_get xs i ≡ Some a → (b : B) × (slice_get ys i ≡ Some b) × P a b
zip-there P [] ys i a all e = absurd (none≢some e)
zip-there P (x ∷ xs) [] i a all e = absurd all
zip-there P (x ∷ xs) (y ∷ ys) zero a all e = (y, refl, subst (λ x. P x y) (some_inner e) all.0)
zip-there P (x ∷ xs) (y ∷ ys) (suc i) a all e = zip-there P xs ys i a all.1 e

zip-set : {A B : Type 0} (P : A → B → Type 0) (xs : List A) (ys : List B) (i : ℕ) (a : A) (b : B) → AllZip P xs ys → slice_get xs i ≡ Some a → P a b → AllZip P xs (set ys i b)
zip-set P [] ys i a b all e p = absurd (none≢some e)
zip-set P (x ∷ xs) [] i a b all e p = absurd all
zip-set P (x ∷ xs) (y ∷ ys) zero a b all e p = (subst (λ z. P z b) (sym (some_inner e)) p, all.1)
zip-set P (x ∷ xs) (y ∷ ys) (suc i) a b all e p = (all.0, zip-set P xs ys i a b all.1 e p)

-- the seat of a category that was made
pub record IsSeatOf (session : SessionNo) (S : Standing) (seats : List AtSeat) (made : Made Label) : Type 0 where
  pub seat : AtSeat
  pub there : slice_get seats made.number.0 ≡ Some seat
  pub listed : slice_get S.categories made.number.0 ≡ Some made
  pub is : IsSeat session made seat

pub seat-of : (session : SessionNo) (S : Standing) (seats : List AtSeat) → AreSeats session S seats → (name : List ℕ) (made : Made Label) → category_of S name ≡ Some made → IsSeatOf session S seats made
seat-of session S seats are name made e =
    let at = found-at (λ (m : Made Label). same m.name name) S.categories made e in
    let here : made.number.0 ≡ at.0 = are.numbered at.0 made at.1 in
    let listed : slice_get S.categories made.number.0 ≡ Some made = ap (slice_get S.categories) here ∙ at.1 in
    let there = zip-there (IsSeat session) S.categories seats made.number.0 made are.all listed in
    record { seat = there.0; there = there.1; listed = listed; is = there.2 }

-- the entries of a category among numbered ones
one-number : (b : Bool) (e : OfData) (es : List OfData) → b ≡ true → cons_option (if b then Some e else None) es ≡ e ∷ es
one-number true e es t = refl
one-number false e es t = absurd cc

no-number : (b : Bool) (e : OfData) (es : List OfData) → b ≡ false → cons_option (if b then Some e else None) es ≡ es
no-number true e es t = absurd cc
no-number false e es t = refl

own-category : (number : CatNo) (entries : List OfData) → of_category number.0 (with_number number entries) ≡ entries
own-category number [] = refl
own-category number (e ∷ es) = one-number (number.0 == number.0) e (of_category number.0 (with_number number es)) (eq-eqb number.0 number.0 refl) ∙ ap (λ es. e ∷ es) (own-category number es)

apart-false : (b : Bool) (m n : ℕ) → (b ≡ true → m ≡ n) → (m ≡ n → ⊥) → b ≡ false
apart-false true m n e apart = absurd (apart (e refl))
apart-false false m n e apart = refl

other-category : (number : CatNo) (n : ℕ) → (number.0 ≡ n → ⊥) → (entries : List OfData) → of_category n (with_number number entries) ≡ []
other-category number n apart [] = refl
other-category number n apart (e ∷ es) = no-number (number.0 == n) e (of_category n (with_number number es)) (apart-false (number.0 == n) number.0 n (eqb-true number.0 n) apart) ∙ other-category number n apart es

pub number-apart : (b : Bool) (m n : ℕ) → (m ≡ n → b ≡ true) → b ≡ false → m ≡ n → ⊥
number-apart true m n e f g = absurd cc
number-apart false m n e f g = let t : false ≡ true = e g in absurd cc

-- a command with a category does all that it does there
does-all : (histories : List (History ObjData MorData)) (session : SessionNo) (S : Standing) (c : Command CheckedObj MorLit) (events : List (CatNo × OfData)) (answer : LineAnswer MorData)
    → InCategory kinds rule_table histories session S c events answer → DoesAll kinds rule_table histories session S c events answer
does-all histories session S (Register cat op weight) events answer d = d
does-all histories session S (Finalise cat) events answer d = d
does-all histories session S (Plan cat) events answer d = d
does-all histories session S (Object cat x lit) events answer d = d
does-all histories session S (Src x r) events answer d = absurd (none≢some d.named)
does-all histories session S (Tgt x r) events answer d = absurd (none≢some d.named)
does-all histories session S (Let x cat src tgt lit) events answer d = d
does-all histories session S (Call x cat op args) events answer d = d

-- a seat whose tries were taken
abbrev pub emptied : AtSeat → AtSeat
emptied s = record s { tries = [] }

module _ (others : List OfData → Type 0) (are : AreOthers others) (session : SessionNo) (S : Standing) (seats : List AtSeat) (c : Command CheckedObj MorLit) (name : List ℕ) (made : Made Label) where
  module _ (named : category_name c ≡ Some name) (is : category_of S name ≡ Some made) (lacks : lacking S c ≡ None) (s s' : AtSeat) (there : slice_get seats made.number.0 ≡ Some s) (answer : LineAnswer MorData)
      (own : s.session ≡ session) (offer : s.offer ≡ made.category) (d : DoesAt others (in_category s.session S made c) s answer s') where
    abbrev entries : List OfData
    entries = filter_map entered d.more

    abbrev after : List AtSeat
    after = set seats made.number.0 (emptied s')

    here-after : slice_get after made.number.0 ≡ Some (emptied s')
    here-after = set-here seats made.number.0 s (emptied s') there

    does-after : (histories : List (History ObjData MorData)) → AreWhole histories after → DoesOrLacks kinds rule_table histories (lacking S c) session S c (with_number made.number entries) answer
    does-after histories whole =
        let w = whole made.number.0 (emptied s') here-after in
        let there : DoesIn kinds rule_table session S made (told_in (objects (history_of histories made.number.0))) c entries answer =
        subst (λ es. DoesIn kinds rule_table session S made (told_in (objects es)) c entries answer) (sym w.whole) (subst (λ n. DoesIn kinds rule_table n S made (told_in (objects (s'.seen ++ w.later))) c entries answer) own (d.does w.later)) in
        subst (λ l. DoesOrLacks kinds rule_table histories l session S c (with_number made.number entries) answer) (sym lacks)
        (does-all histories session S c (with_number made.number entries) answer (record { name = name; named = named; made = made; is = is; entries = entries; events_are = refl; does = there }))

    full-by : (histories : List (History ObjData MorData)) → AreWhole histories after → (n k : ℕ) → HasFullFront cells_in_object cells_in_morphism s'.seen n k → IsFullOf kinds rule_table histories S c made.number n k
    full-by histories whole n k front =
        let w = whole made.number.0 (emptied s') here-after in
        let legal : Legal (frame (any_offer s'.offer) cells_in_object cells_in_morphism) (s'.seen ++ w.later) = subst (Legal (frame (any_offer s'.offer) cells_in_object cells_in_morphism)) w.whole w.legal in
        let f = (whole-front (frame (any_offer s'.offer) cells_in_object cells_in_morphism) s'.seen w.later n k legal front).1 in
        let back = sym w.whole in
        record {
          name = name;
          named = named;
          made = made;
          is = is;
          number = refl;
          entries = subst (λ es. n ≡ length es) back f.count_is;
          cells_are = subst (λ es. k ≡ cells cells_in_object cells_in_morphism es) back f.weight_is;
          full = subst (λ es. IsFull cells_in_object cells_in_morphism es) back f.full;
        }

    full-after : (histories : List (History ObjData MorData)) → AreWhole histories after → (l : LineAnswer MorData) → IsFullSeen s'.seen l → FullIsWhole histories S c l
    full-after histories whole (line.Refused (refusal.Full n k)) front = (made.number, full-by histories whole n k front)
    full-after histories whole _ front = tt

    grown-after : (n : ℕ) (b : Bool) → (b ≡ true → made.number.0 ≡ n) → (b ≡ false → made.number.0 ≡ n → ⊥) → IsWoven others (seen_at seats n) (of_category n (with_number made.number entries)) (seen_at after n)
    grown-after n true same apart =
        subst (λ m. IsWoven others (seen_at seats m) (of_category m (with_number made.number entries)) (seen_at after m)) (same refl)
        (subst (λ o. IsWoven others (seen_or_none o) (of_category made.number.0 (with_number made.number entries)) (seen_at after made.number.0)) (sym there)
        (subst (λ o. IsWoven others s.seen (of_category made.number.0 (with_number made.number entries)) (seen_or_none o)) (sym here-after)
        (subst (λ es. IsWoven others s.seen es s'.seen) (sym (own-category made.number entries)) d.goes.woven)))
    grown-after n false same apart =
        let other = apart refl in
        subst (λ es. IsWoven others (seen_at seats n) es (seen_at after n)) (sym (other-category made.number n other entries))
        (subst (λ o. IsWoven others (seen_at seats n) [] (seen_or_none o)) (sym (set-elsewhere seats made.number.0 n (emptied s') (λ e. other (sym e)))) (woven-start others are (seen_at seats n)))

    hand-after : (n : ℕ) (b : Bool) → (b ≡ true → made.number.0 ≡ n) → (b ≡ false → made.number.0 ≡ n → ⊥) → hand_at after n ≡ with_more (hand_at seats n) (length (of_category n (with_number made.number entries)))
    hand-after n true same apart =
        subst (λ m. hand_at after m ≡ with_more (hand_at seats m) (length (of_category m (with_number made.number entries)))) (same refl)
        (ap hand_or_none here-after ∙ d.goes.hand ∙ ap (λ hand. with_more hand (length entries)) (sym (ap hand_or_none there))
        ∙ ap (λ es. with_more (hand_at seats made.number.0) (length es)) (sym (own-category made.number entries)))
    hand-after n false same apart =
        let other = apart refl in
        ap hand_or_none (set-elsewhere seats made.number.0 n (emptied s') (λ e. other (sym e)))
        ∙ more-none (hand_at seats n)
        ∙ ap (λ es. with_more (hand_at seats n) (length es)) (sym (other-category made.number n other entries))

    pub runs-at : CommandRuns others session S seats c (with_number made.number entries) answer after
    runs-at = record {
      does = does-after;
      full = λ histories whole. full-after histories whole answer d.full;
      grown = λ n. grown-after n (made.number.0 == n) (eqb-true made.number.0 n) (number-apart (made.number.0 == n) made.number.0 n (eq-eqb made.number.0 n));
      hands = λ n. hand-after n (made.number.0 == n) (eqb-true made.number.0 n) (number-apart (made.number.0 == n) made.number.0 n (eq-eqb made.number.0 n));
    }

-- the seats stay the session's seats
holds-emptied : (s : AtSeat) → Holds (any_offer s.offer) cells_in_object cells_in_morphism s → Holds (any_offer s.offer) cells_in_object cells_in_morphism (emptied s)
holds-emptied s h = record { legal = h.legal; told = h.told; plan = h.plan; objects = h.objects }

pub seats-after : (session : SessionNo) (S : Standing) (seats : List AtSeat) → AreSeats session S seats → (made : Made Label) (s' : AtSeat) → slice_get S.categories made.number.0 ≡ Some made → s'.offer ≡ made.category → s'.session ≡ session
    → Holds (any_offer s'.offer) cells_in_object cells_in_morphism s' → AreSeats session S (set seats made.number.0 (emptied s'))
seats-after session S seats are made s' listed offer own holds = record {
  numbered = are.numbered;
  all = zip-set (IsSeat session) S.categories seats made.number.0 made (emptied s') are.all listed (record { offer = offer; own = own; holds = holds-emptied s' holds; taken = refl });
}
