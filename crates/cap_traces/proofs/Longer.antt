-- Seats that have seen as much as others before the same categories, or more.
use Rattle.std.proofs.Common.{◌≡◌, ℕ, List, [], ◌∷◌, ◌++◌, Option, Some, None, option_map, slice_get, refl, sym, ap, ◌∙◌, subst, append_assoc}
use Rattle.std.specs.List.{AllZip}
use Rattle.std.proofs.lemmas.List.{append-nil}
use Rattle.std.proofs.lemmas.Option.{slice_get-map}
use Rattle.cap_names.specs.declared.identifiers.SessionNo.{SessionNo}
use Rattle.cap_data.specs.declared.data.ObjData.{ObjData}
use Rattle.cap_data.specs.declared.data.MorData.{MorData}
use Rattle.cap_data.specs.Counts.{cells_in_object, cells_in_morphism}
use Rattle.cap_desk.specs.Books.{frame}
use Rattle.cap_legal.specs.Legal.{Legal}
use Rattle.cap_offer.specs.Labels.{Label, any_offer}
use Rattle.cap_report.specs.declared.report.History.{History}
use Rattle.cap_report.specs.declared.situation.Made.{Made}
use Rattle.cap_report.specs.Histories.{history_of}
use Rattle.cap_commands.specs.Agreement.{Standing}
use Rattle.cap_commands.specs.Seats.{AtSeat, OfData, IsSeat, AreSeats, seen_or_none, seen_at, AreWhole}
use Rattle.cap_traces.specs.Runs.{seated}
use Rattle.cap_traces.proofs.Pairs.{zip-left, zip-right}

pub record IsLonger (before behind : AtSeat) : Type 0 where
  pub offer : behind.offer ≡ before.offer
  pub more : List OfData
  pub seen : behind.seen ≡ before.seen ++ more

abbrev pub AreLonger : List AtSeat → List AtSeat → Type 0
AreLonger before behind = (n : ℕ) (s : AtSeat) → slice_get before n ≡ Some s → (t : AtSeat) × (slice_get behind n ≡ Some t) × IsLonger s t

pub longer-self : (seats : List AtSeat) → AreLonger seats seats
longer-self seats n s is = (s, is, record { offer = refl; more = []; seen = sym (append-nil s.seen) })

pub longer-on : (before between behind : List AtSeat) → AreLonger before between → AreLonger between behind → AreLonger before behind
longer-on before between behind p q n s is =
    let first = p n s is in
    let last = q n first.0 first.1 in (
      last.0,
      last.1,
      record {
        offer = last.2.offer ∙ first.2.offer;
        more = first.2.more ++ last.2.more;
        seen = last.2.seen ∙ ap (λ es. es ++ last.2.more) first.2.seen ∙ append_assoc s.seen first.2.more last.2.more;
      },
    )

-- seats before the same categories whose seen entries have grown
pub longer-seats : (session : SessionNo) (S : Standing) (before behind : List AtSeat) (own : ℕ → List OfData) → AreSeats session S before → AreSeats session S behind
    → ((n : ℕ) → seen_at behind n ≡ seen_at before n ++ own n) → AreLonger before behind
longer-seats session S before behind own A B more n s is =
    let made = zip-left (IsSeat session) S.categories before n s A.all is in
    let later = zip-right (IsSeat session) S.categories behind n made.0 B.all made.1 in (
      later.0,
      later.1,
      record {
        offer = later.2.offer ∙ sym made.2.offer;
        more = own n;
        seen = sym (ap seen_or_none later.1) ∙ more n ∙ ap (λ o. seen_or_none o ++ own n) is;
      },
    )

-- histories that are whole for the longer are whole for the shorter
pub whole-longer : (before behind : List AtSeat) → AreLonger before behind → (histories : List (History ObjData MorData)) → AreWhole histories behind → AreWhole histories before
whole-longer before behind longer histories W n s is =
    let later = longer n s is in
    let whole = W n later.0 later.1 in
    record {
      later = later.2.more ++ whole.later;
      whole = whole.whole ∙ ap (λ es. es ++ whole.later) later.2.seen ∙ append_assoc s.seen later.2.more whole.later;
      legal = subst (λ x. Legal (frame (any_offer x) cells_in_object cells_in_morphism) (history_of histories n)) later.2.offer whole.legal;
    }

-- histories of just what was seen are whole
pub whole-seen : (session : SessionNo) (S : Standing) (seats : List AtSeat) → AreSeats session S seats → (histories : List (History ObjData MorData))
    → ((n : ℕ) → history_of histories n ≡ seen_at seats n) → AreWhole histories seats
whole-seen session S seats A histories are n s is =
    let made = zip-left (IsSeat session) S.categories seats n s A.all is in
    let seen : history_of histories n ≡ s.seen = are n ∙ ap seen_or_none is in
    record { later = []; whole = seen ∙ sym (append-nil s.seen); legal = subst (λ es. Legal (frame (any_offer s.offer) cells_in_object cells_in_morphism) es) (sym seen) made.2.holds.legal }

-- another session at a seat
abbrev at_session : SessionNo → AtSeat → AtSeat
at_session session s = record s { session = session }

seen-at_session : (session : SessionNo) (o : Option AtSeat) → seen_or_none (option_map (at_session session) o) ≡ seen_or_none o
seen-at_session session None = refl
seen-at_session session (Some s) = refl

pub seen-seated : (session : SessionNo) (seats : List AtSeat) (n : ℕ) → seen_at (seated session seats) n ≡ seen_at seats n
seen-seated session seats n = ap seen_or_none (slice_get-map (at_session session) seats n) ∙ seen-at_session session (slice_get seats n)

pub longer-seated : (session : SessionNo) (seats : List AtSeat) → AreLonger seats (seated session seats)
longer-seated session seats n s is =
    (at_session session s, slice_get-map (at_session session) seats n ∙ ap (option_map (at_session session)) is, record { offer = refl; more = []; seen = sym (append-nil s.seen) })

zip-seated : (session other : SessionNo) (ms : List (Made Label)) (seats : List AtSeat) → AllZip (IsSeat session) ms seats → AllZip (IsSeat other) ms (seated other seats)
zip-seated session other [] [] all = tt
zip-seated session other [] (s ∷ seats) all = absurd all
zip-seated session other (m ∷ ms) [] all = absurd all
zip-seated session other (m ∷ ms) (s ∷ seats) all = (
  record {
    offer = all.0.offer;
    own = refl;
    holds = record { legal = all.0.holds.legal; told = all.0.holds.told; plan = all.0.holds.plan; objects = all.0.holds.objects };
    taken = all.0.taken;
  },
  zip-seated session other ms seats all.1,
)

pub seats-seated : (session other : SessionNo) (S : Standing) (seats : List AtSeat) → AreSeats session S seats → AreSeats other S (seated other seats)
seats-seated session other S seats A = record { numbered = A.numbered; all = zip-seated session other S.categories seats A.all }
