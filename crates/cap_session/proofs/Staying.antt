-- Names that agree still do so when more is told, when another session sits down, and when what a session bound is forgotten.
use Rattle.std.proofs.Common.{◌≡◌, ℕ, zero, suc, ◌+◌, ◌<◌, List, [], ◌∷◌, ◌++◌, length, map, take, drop, get_or, slice_set, Option, Some, None, refl, sym, ap, ◌∙◌, subst, slice_get, append_assoc, add-one, arith}
use Rattle.std.specs.Prelude.{option_map}
use Rattle.std.specs.List.{AllZip}
use Rattle.std.proofs.Math.Seq.{take-append_seam, take-suc}
use Rattle.std.proofs.lemmas.List.{length-map, length-take, map-append}
use Rattle.std.proofs.lemmas.List.Elements.{All-weaker}
use Rattle.std.proofs.lemmas.Option.{slice_get-map}
use Rattle.cap_names.specs.declared.identifiers.Handle.{Handle}
use Rattle.cap_names.specs.declared.identifiers.SessionNo.{SessionNo}
use Rattle.cap_ops.specs.declared.arrows.Arrow.{Arrow}
use Rattle.cap_ops.specs.Primitives.{OfferData}
use Rattle.cap_ops.specs.Told.{StaysTold}
use Rattle.cap_faults.specs.declared.values.Value.{Value}
use Rattle.cap_fitting.specs.Commands.{Scope}
use Rattle.cap_data.specs.declared.data.ObjData.{ObjData}
use Rattle.cap_data.specs.declared.data.MorData.{MorData}
use Rattle.cap_offer.specs.Labels.{Label, any_offer}
use Rattle.cap_report.specs.declared.lines.LineAnswer.{LineAnswer}
use Rattle.cap_report.specs.declared.lines.LineAnswer.TheVariants as line
use Rattle.cap_report.specs.declared.situation.Bound.{Bound}
use Rattle.cap_report.specs.declared.situation.Made.{Made}
use Rattle.cap_commands.specs.Agreement.{Standing, Telling, IsToldArrow, IsToldAnswer, Stands, Agrees}
use Rattle.cap_commands.specs.Seats.{AtSeat, IsSeat, AreSeats, told_or_none, telling}
use Rattle.cap_traces.specs.Runs.{seated}
use Rattle.cap_session.proofs.Counting.{StandsOn}

-- what is told stays told
module _ (D : OfferData ObjData MorData) (told told' : Handle → Option ObjData) (stays : StaysTold told told') where
  arrow-stays : (f : Arrow MorData) → IsToldArrow D told f → IsToldArrow D told' f
  arrow-stays f t = record { from = t.from; to = t.to; src = stays f.src t.from t.src; tgt = stays f.tgt t.to t.tgt; is = t.is }

  pub answer-stays : (a : LineAnswer MorData) → IsToldAnswer D told a → IsToldAnswer D told' a
  answer-stays (line.Object h) t = record { object = t.object; stands = stays h t.object t.stands; is = t.is }
  answer-stays (line.Morphism f) t = arrow-stays f t
  answer-stays (line.Tuple fs) t = All-weaker (IsToldArrow D told) (IsToldArrow D told') arrow-stays fs t
  answer-stays line.Category t = tt
  answer-stays (line.Registered op weight) t = tt
  answer-stays line.Final t = tt
  answer-stays (line.Plan p) t = tt
  answer-stays (line.Truth b) t = tt
  answer-stays line.Nothing t = tt
  answer-stays (line.Refused why) t = tt

module _ (S : Standing) (t t' : Telling) (stays : (n : ℕ) → StaysTold (t n) (t' n)) where
  pub stands-stays : (v : Value) (b : Bound MorData) → Stands S t v b → Stands S t' v b
  stands-stays v b s = record {
    name = s.name;
    sort = s.sort;
    made = s.made;
    is = s.is;
    told = answer-stays (any_offer s.made.category) (t s.made.number.0) (t' s.made.number.0) (stays s.made.number.0) b.answer s.told;
  }

  all-stay : (vs : List Value) (bs : List (Bound MorData)) → AllZip (Stands S t) vs bs → AllZip (Stands S t') vs bs
  all-stay [] [] a = tt
  all-stay [] (b ∷ bs) a = absurd a
  all-stay (v ∷ vs) [] a = absurd a
  all-stay (v ∷ vs) (b ∷ bs) a = (stands-stays v b a.0, all-stay vs bs a.1)

  pub agrees-stays : (scope : Scope) → Agrees scope S t → Agrees scope S t'
  agrees-stays scope A = record { bound = all-stay scope.values S.bound A.bound; made = A.made }

-- another session at the seats
told-alike : (session : SessionNo) (o : Option AtSeat) → StaysTold (told_or_none o) (told_or_none (option_map (λ (s : AtSeat). record s { session = session }) o))
told-alike session None h o e = e
told-alike session (Some s) h o e = e

told-alike-back : (session : SessionNo) (o : Option AtSeat) → StaysTold (told_or_none (option_map (λ (s : AtSeat). record s { session = session }) o)) (told_or_none o)
told-alike-back session None h o e = e
told-alike-back session (Some s) h o e = e

pub seated-stays : (session : SessionNo) (seats : List AtSeat) (n : ℕ) → StaysTold (telling seats n) (telling (seated session seats) n)
seated-stays session seats n = subst (λ o. StaysTold (telling seats n) (told_or_none o)) (sym (slice_get-map (λ (s : AtSeat). record s { session = session }) seats n)) (told-alike session (slice_get seats n))

seat-again : (last session : SessionNo) (m : Made Label) (s : AtSeat) → IsSeat last m s → IsSeat session m (record s { session = session })
seat-again last session m s i = record {
  offer = i.offer;
  own = refl;
  holds = record { legal = i.holds.legal; told = i.holds.told; plan = i.holds.plan; objects = i.holds.objects };
  taken = i.taken;
}

seats-again : (last session : SessionNo) (ms : List (Made Label)) (seats : List AtSeat) → AllZip (IsSeat last) ms seats → AllZip (IsSeat session) ms (seated session seats)
seats-again last session [] [] a = tt
seats-again last session [] (s ∷ seats) a = absurd a
seats-again last session (m ∷ ms) [] a = absurd a
seats-again last session (m ∷ ms) (s ∷ seats) a = (seat-again last session m s a.0, seats-again last session ms seats a.1)

pub are-seated : (last session : SessionNo) (S : Standing) (seats : List AtSeat) → AreSeats last S seats → AreSeats session S (seated session seats)
are-seated last session S seats A = record { numbered = A.numbered; all = seats-again last session S.categories seats A.all }

-- what a session bound is forgotten
pub forgotten : (S S' : Standing) → StandsOn S S' → record S' { bound = take (length S.bound) S'.bound } ≡ S
forgotten S S' s =
    ap (λ (T : Standing). record T { bound = take (length S.bound) T.bound }) s.is ∙ ap (λ b. record S { bound = b }) (take-append_seam S.bound s.more)

pub seats-back : (session : SessionNo) (S S' : Standing) (seats : List AtSeat) → StandsOn S S' → AreSeats session S' seats → AreSeats session S seats
seats-back session S S' seats s A =
    let B : AreSeats session (record S { bound = S.bound ++ s.more }) seats = subst (λ T. AreSeats session T seats) s.is A in
    record { numbered = B.numbered; all = B.all }

-- seats of which the front ones are a session's, one more at a time
set-middle : {X : Type 0} (xs : List X) (y : X) (ys : List X) (z : X) → slice_set (xs ++ y ∷ ys) (length xs) z ≡ xs ++ z ∷ ys
set-middle [] y ys z = refl
set-middle (x ∷ xs) y ys z = ap (λ l. x ∷ l) (set-middle xs y ys z)

get-middle : {X : Type 0} (xs : List X) (y : X) (ys : List X) (d : X) → get_or (xs ++ y ∷ ys) (length xs) d ≡ y
get-middle [] y ys d = refl
get-middle (x ∷ xs) y ys d = get-middle xs y ys d

drop-at : {X : Type 0} (xs : List X) (i : ℕ) (d : X) → i < length xs → drop i xs ≡ get_or xs i d ∷ drop (suc i) xs
drop-at [] i d h = absurd (omega arith)
drop-at (y ∷ ys) zero d h = refl
drop-at (y ∷ ys) (suc i) d h = drop-at ys i d (omega arith)

pub seated-more : (session : SessionNo) (all seats : List AtSeat) (i : ℕ) (x y : AtSeat) → i < length all → seats ≡ seated session (take i all) ++ drop i all → y ≡ record (get_or seats i x) { session = session }
    → slice_set seats i y ≡ seated session (take (i + 1) all) ++ drop (i + 1) all
seated-more session all seats i x y h before change =
    let f : AtSeat → AtSeat = λ (s : AtSeat). record s { session = session } in
    let z : AtSeat = get_or all i x in
    let front : List AtSeat = seated session (take i all) in
    let rest : List AtSeat = drop (i + 1) all in
    let long : length front ≡ i = length-map (take i all) f ∙ omega (arith, length-take i all, h) in
    let tail : drop i all ≡ z ∷ rest = drop-at all i x h ∙ ap (λ n. z ∷ drop n all) (sym (add-one i)) in
    let whole : seats ≡ front ++ z ∷ rest = before ∙ ap (λ l. front ++ l) tail in
    let same : get_or seats i x ≡ z = ap (λ l. get_or l i x) whole ∙ ap (λ n. get_or (front ++ z ∷ rest) n x) (sym long) ∙ get-middle front z rest x in
    let longer : seated session (take (i + 1) all) ≡ front ++ f z ∷ [] = ap (λ n. map f (take n all)) (add-one i) ∙ ap (map f) (take-suc all i x h) ∙ map-append f (take i all) (z ∷ []) in
    ap (λ l. slice_set l i y) whole ∙ ap (λ n. slice_set (front ++ z ∷ rest) n y) (sym long) ∙ set-middle front z rest y ∙ ap (λ s. front ++ s ∷ rest) (change ∙ ap f same)
    ∙ sym (append_assoc front (f z ∷ []) rest) ∙ ap (λ l. l ++ rest) (sym longer)
