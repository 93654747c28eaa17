-- A run of sessions at once, from what its parts ensure.
use Rattle.std.proofs.Common.{◌≡◌, ℕ, zero, suc, ◌+◌, ◌-◌, ◌<◌, ◌≤◌, List, [], ◌∷◌, length, map, Some, None, refl, sym, ap, ◌∙◌, subst, arith}
use Rattle.std.specs.Prelude.{slice_get, option_map}
use Rattle.std.specs.List.{All, AllZip}
use Rattle.std.proofs.lemmas.List.{length-map}
use Rattle.std.proofs.lemmas.List.Elements.{All-nil, All-cons, All-head, All-tail, All-weaker}
use Rattle.std.proofs.lemmas.Option.{slice_get-map}
use Rattle.cap_names.specs.declared.identifiers.SessionNo.{SessionNo}
use Rattle.cap_data.specs.declared.data.ObjData.{ObjData}
use Rattle.cap_data.specs.declared.data.MorData.{MorData}
use Rattle.cap_data.specs.Counts.{cells_in_object, cells_in_morphism}
use Rattle.cap_desk.specs.Books.{frame}
use Rattle.cap_fitting.specs.Forms.{CheckedCommand, CheckedSession}
use Rattle.cap_legal.specs.Legal.{Legal}
use Rattle.cap_offer.specs.Labels.{Label, any_offer}
use Rattle.cap_ops.proofs.Places.{none≢some, some_inner}
use Rattle.cap_rules.specs.Table.{rule_table}
use Rattle.cap_report.specs.declared.report.History.{History}
use Rattle.cap_report.specs.declared.situation.Made.{Made}
use Rattle.cap_report.specs.Histories.{history_of}
use Rattle.cap_accounts.specs.Accounts.{IsHistory}
use Rattle.cap_commands.specs.Agreement.{Standing}
use Rattle.cap_commands.specs.Kinds.{kinds}
use Rattle.cap_commands.specs.Seats.{AtSeat, IsSeat, AreSeats, seen_or_none, hand_or_none, seen_at, hand_at}
use Rattle.cap_shares.specs.Shares.{BeginsWith, Shared, AtTurn}
use Rattle.cap_thread_laws.specs.AtOnce.{IsAnything, SessionRan, SessionsRan, added_at, AreAtEnd}
use Rattle.cap_traces.specs.Chains.{Chain}
use Rattle.cap_traces.specs.Runs.{prelude_session, seated, histories_from}
use Rattle.cap_traces.proofs.Longer.{seen-seated}
use Rattle.cap_session.specs.declared.jobs.Job.{Job}
use Rattle.cap_session.specs.declared.jobs.Ended.{Ended}
use Rattle.cap_session.specs.Jobs.{Ran, seats_of}
use Rattle.cap_session.specs.Places.{stood}
use Rattle.cap_session.specs.Shares.{IsSharedOf, fewer_by, IsJob, JobsFrom, rows_of, traces_of, seen_there, added_there, added_in, JoinsAt, JoinAll, IsWholeAgain, IsClosedAs}
use Rattle.cap_session.proofs.Ends.{zip-long, zip-get}
use Rattle.cap_session.proofs.Reseating.{Reseats, seats-again, seen-again, nothing-again}
use Rattle.cap_session.proofs.SharedOut.{begins-on}
use Rattle.cap_session.proofs.Staying.{are-seated}

-- the histories of seats are what was seen
seen-from : (n : ℕ) (seats : List AtSeat) (c : ℕ) → history_of (histories_from n seats) c ≡ seen_at seats c
seen-from n [] c = refl
seen-from n (s ∷ seats) zero = refl
seen-from n (s ∷ seats) (suc c) = seen-from (suc n) seats c

pub hand-seated : (session : SessionNo) (seats : List AtSeat) (n : ℕ) → hand_at (seated session seats) n ≡ hand_at seats n
hand-seated session [] n = refl
hand-seated session (s ∷ seats) zero = refl
hand-seated session (s ∷ seats) (suc n) = hand-seated session seats n

-- a session that has run its job
module _ (S : Standing) (between : List AtSeat) (are : AreSeats prelude_session S between) (rest ks : List Shared) (n : ℕ) (p : CheckedSession) (job : Job) (e : Ended) (is : IsJob n ks p job)
    (seats : AllZip (Reseats job.session) between (seats_of rest job)) (r : Ran S rest job e) where
  abbrev start : List AtSeat
  start = seated job.session (seats_of rest job)

  start-are : AreSeats job.session S start
  start-are = are-seated job.session job.session S (seats_of rest job) (record { numbered = are.numbered; all = seats-again job.session S.categories between (seats_of rest job) are.all seats })

  pub one-ran : SessionRan n S between p e.trace r.ended
  one-ran = record {
    number = ap (λ (s : SessionNo). s.0) r.number ∙ is.number;
    counted = r.counted;
    seats = start;
    are = subst (λ s. AreSeats s S start) (sym r.number) start-are;
    seen = λ c. seen-seated job.session (seats_of rest job) c ∙ seen-again job.session between (seats_of rest job) seats c;
    nothing = λ c. ap (λ h. h.added) (hand-seated job.session (seats_of rest job) c) ∙ nothing-again job.session between (seats_of rest job) seats c;
    behind = r.behind;
    runs = subst (λ s. Chain IsAnything s S start (map (λ (c : CheckedCommand). c.node) p.node.commands) e.trace.events (map (λ d. d.answer) e.trace.done) r.behind r.ended) (sym r.number)
        (subst (λ (cs : List CheckedCommand). Chain IsAnything job.session S start (map (λ (c : CheckedCommand). c.node) cs) e.trace.events (map (λ d. d.answer) e.trace.done) r.behind r.ended) is.commands r.chain);
  }

abbrev pub rows_at_end : List (List AtSeat) → List (List AtTurn)
rows_at_end ends = map (λ (seats : List AtSeat). map stood seats) ends

-- so have all, with as many seats each as there are categories
pub record AllRan (n : ℕ) (S : Standing) (between : List AtSeat) (ps : List CheckedSession) (es : List Ended) : Type 0 where
  pub ends : List (List AtSeat)
  pub ran : SessionsRan n S between ps (traces_of es) ends
  pub rows : rows_of es ≡ rows_at_end ends
  pub long : All (λ (seats : List AtSeat). length seats ≡ length S.categories) ends

module _ (S : Standing) (between : List AtSeat) (are : AreSeats prelude_session S between) (rest ks : List Shared) where
  pub all-ran : (seats : (n : ℕ) (p : CheckedSession) (job : Job) → IsJob n ks p job → AllZip (Reseats job.session) between (seats_of rest job)) → (n : ℕ) (ps : List CheckedSession) (jobs : List Job) (es : List Ended)
      → JobsFrom n ks ps jobs → AllZip (Ran S rest) jobs es → AllRan n S between ps es
  all-ran seats n [] [] [] made ran = record { ends = []; ran = tt; rows = refl; long = All-nil (λ (seats : List AtSeat). length seats ≡ length S.categories) }
  all-ran seats n [] [] (e ∷ es) made ran = absurd ran
  all-ran seats n [] (job ∷ jobs) es made ran = absurd made
  all-ran seats n (p ∷ ps) [] es made ran = absurd made
  all-ran seats n (p ∷ ps) (job ∷ jobs) [] made ran = absurd ran
  all-ran seats n (p ∷ ps) (job ∷ jobs) (e ∷ es) made ran =
      let more = all-ran seats (suc n) ps jobs es made.1 ran.1 in
      let one = ran.0 in
      record {
        ends = one.ended ∷ more.ends;
        ran = (one-ran S between are rest ks n p job e made.0 (seats n p job made.0) one, more.ran);
        rows = ap (λ row. row ∷ rows_of es) one.row ∙ ap (λ rows. map stood one.ended ∷ rows) more.rows;
        long = All-cons (λ (seats : List AtSeat). length seats ≡ length S.categories) one.ended more.ends (zip-long (IsSeat job.session) S.categories one.ended one.are.all) more.long;
      }

  pub as-many : (n : ℕ) (ps : List CheckedSession) (jobs : List Job) (es : List Ended) → JobsFrom n ks ps jobs → AllZip (Ran S rest) jobs es → length (rows_of es) ≡ length ps
  as-many n [] [] [] made ran = refl
  as-many n [] [] (e ∷ es) made ran = absurd ran
  as-many n [] (job ∷ jobs) es made ran = absurd made
  as-many n (p ∷ ps) [] es made ran = absurd made
  as-many n (p ∷ ps) (job ∷ jobs) [] made ran = absurd ran
  as-many n (p ∷ ps) (job ∷ jobs) (e ∷ es) made ran = ap suc (as-many (suc n) ps jobs es made.1 ran.1)

-- a place of a list, or none
pub at-or-none : {A : Type 0} (xs : List A) (c : ℕ) → (length xs ≤ c → slice_get xs c ≡ None)
at-or-none [] c h = refl
at-or-none (x ∷ xs) zero h = absurd (omega (arith, h))
at-or-none (x ∷ xs) (suc c) h = at-or-none xs c (omega (arith, h))

at-some : {A : Type 0} (xs : List A) (c : ℕ) → c < length xs → (x : A) × (slice_get xs c ≡ Some x)
at-some [] c h = absurd (omega (arith, h))
at-some (x ∷ xs) zero h = (x, refl)
at-some (x ∷ xs) (suc c) h = at-some xs c (omega (arith, h))

is-within : {A : Type 0} (xs : List A) (c : ℕ) (x : A) → slice_get xs c ≡ Some x → c < length xs
is-within [] c x e = absurd (none≢some e)
is-within (y ∷ xs) zero x e = omega arith
is-within (y ∷ xs) (suc c) x e = omega (arith, is-within xs c x e)

in-or-out : (c n : ℕ) (P : Type 0) → (c < n → P) → (n ≤ c → P) → P
in-or-out c zero P yes_in out = out (omega arith)
in-or-out zero (suc n) P yes_in out = yes_in (omega arith)
in-or-out (suc c) (suc n) P yes_in out = in-or-out c n P (λ h. yes_in (omega (arith, h))) (λ h. out (omega (arith, h)))

-- what stood up, by what sat there
seen-stood : (seats : List AtSeat) (c : ℕ) → seen_there (slice_get (map stood seats) c) ≡ seen_at seats c
seen-stood [] c = refl
seen-stood (a ∷ seats) zero = refl
seen-stood (a ∷ seats) (suc c) = seen-stood seats c

added-stood : (seats : List AtSeat) (c : ℕ) → added_there (slice_get (map stood seats) c) ≡ (hand_at seats c).added
added-stood [] c = refl
added-stood (a ∷ seats) zero = refl
added-stood (a ∷ seats) (suc c) = added-stood seats c

all-added : (ends : List (List AtSeat)) (c : ℕ) → added_in c (rows_at_end ends) ≡ added_at c ends
all-added [] c = refl
all-added (seats ∷ ends) c = ap (λ n. n + added_in c (rows_at_end ends)) (added-stood seats c) ∙ ap (λ n. (hand_at seats c).added + n) (all-added ends c)

-- past the categories there is nothing
none-added : (n c : ℕ) (ends : List (List AtSeat)) → All (λ (seats : List AtSeat). length seats ≡ n) ends → n ≤ c → added_at c ends ≡ 0
none-added n c [] long h = refl
none-added n c (seats ∷ ends) long h =
    let L : List AtSeat → Type 0 = λ seats. length seats ≡ n in
    let out : slice_get seats c ≡ None = at-or-none seats c (omega (arith, h, All-head L seats ends long)) in
    omega (arith, ap (λ o. (hand_or_none o).added) out, none-added n c ends (All-tail L seats ends long) h)

module _ (S : Standing) (between : List AtSeat) (are : AreSeats prelude_session S between) (all left : ℕ) (ks ks2 : List Shared) (shared : AllZip (IsSharedOf all) between ks) (ends : List (List AtSeat))
    (long : All (λ (seats : List AtSeat). length seats ≡ length S.categories) ends) (joins : JoinAll (map (fewer_by left) ks) (rows_at_end ends) ks2) (zs : List AtSeat) (closed : AllZip IsClosedAs ks2 zs) where
  -- a category at a place, from its seat behind the prelude to its end
  record At (c : ℕ) (a : AtSeat) : Type 0 where
    pub k : Shared
    pub is : k ≡ record { place = k.place; offer = a.offer; first = a.seen; all = all; shares = all; seen = a.seen; added = 0; memory = record { known = a.known; knows = a.knows } }
    pub k2 : Shared
    pub joined : JoinsAt c (rows_at_end ends) (fewer_by left k) k2
    pub z : AtSeat
    pub there : slice_get zs c ≡ Some z
    pub closes : IsClosedAs k2 z

  at-place : (c : ℕ) (a : AtSeat) → slice_get between c ≡ Some a → At c a
  at-place c a here =
      let first = zip-get (IsSharedOf all) between ks c a shared here in
      let k = first.0 in
      let given : slice_get (map (fewer_by left) ks) c ≡ Some (fewer_by left k) = slice_get-map (fewer_by left) ks c ∙ ap (option_map (fewer_by left)) first.1 in
      let second = joins.1 c (fewer_by left k) given in
      let last = zip-get IsClosedAs ks2 zs c second.0 closed second.1 in
      record { k = k; is = first.2; k2 = second.0; joined = second.2; z = last.0; there = last.1; closes = last.2 }

  many-between : length between ≡ length S.categories
  many-between = zip-long (IsSeat prelude_session) S.categories between are.all

  pub many-closed : length zs ≡ length S.categories
  many-closed = zip-long IsClosedAs ks2 zs closed ∙ joins.0 ∙ length-map ks (fewer_by left) ∙ zip-long (IsSharedOf all) between ks shared ∙ many-between

  -- the entries of a category at the end
  entries : (c : ℕ) → history_of (histories_from 0 zs) c ≡ seen_at zs c
  entries c = seen-from 0 zs c

  pub begins-prelude : (c : ℕ) → BeginsWith (history_of (histories_from 0 zs) c) (seen_at between c)
  begins-prelude c = subst (λ es. BeginsWith es (seen_at between c)) (sym (entries c)) (in-or-out c (length between) (BeginsWith (seen_at zs c) (seen_at between c))
      (λ h. let a = at-some between c h in let t = at-place c a.0 a.1 in
      subst (λ o. BeginsWith (seen_at zs c) (seen_or_none o)) (sym a.1) (subst (λ o. BeginsWith (seen_or_none o) a.0.seen) (sym t.there)
      (subst (BeginsWith t.z.seen) (ap (λ (x : Shared). x.seen) t.is) (begins-on t.k.seen t.k2.seen t.z.seen t.joined.own t.closes.grown))))
      (λ h. subst (λ o. BeginsWith (seen_at zs c) (seen_or_none o)) (sym (at-or-none between c h)) (seen_at zs c, refl)))

  one-begins : (c : ℕ) (seats : List AtSeat) → length seats ≡ length S.categories → ((k : AtSeat) → slice_get zs c ≡ Some k → BeginsWith k.seen (seen_there (slice_get (map stood seats) c))) → BeginsWith (seen_at zs c) (seen_at seats c)
  one-begins c seats same begins = in-or-out c (length zs) (BeginsWith (seen_at zs c) (seen_at seats c))
      (λ h. let z = at-some zs c h in subst (λ o. BeginsWith (seen_or_none o) (seen_at seats c)) (sym z.1) (subst (BeginsWith z.0.seen) (seen-stood seats c) (begins z.0 z.1)))
      (λ h. subst (λ o. BeginsWith (seen_at zs c) (seen_or_none o)) (sym (at-or-none seats c (omega (arith, h, same, many-closed)))) (seen_at zs c, refl))

  -- each category's end begins with what was seen at each row
  rows-begin : (c : ℕ) (z : AtSeat) → slice_get zs c ≡ Some z → All (λ (row : List AtTurn). BeginsWith z.seen (seen_there (slice_get row c))) (rows_at_end ends)
  rows-begin c z there =
      let a = at-some between c (omega (arith, is-within zs c z there, many-closed, many-between)) in
      let t = at-place c a.0 a.1 in
      let same : t.z ≡ z = some_inner (sym t.there ∙ there) in
      subst (λ (y : AtSeat). All (λ (row : List AtTurn). BeginsWith y.seen (seen_there (slice_get row c))) (rows_at_end ends)) same
      (All-weaker (λ (row : List AtTurn). BeginsWith t.k2.seen (seen_there (slice_get row c))) (λ (row : List AtTurn). BeginsWith t.z.seen (seen_there (slice_get row c)))
      (λ row b. begins-on (seen_there (slice_get row c)) t.k2.seen t.z.seen b t.closes.grown) (rows_at_end ends) t.joined.others)

  abbrev Begun : List AtSeat → Type 0
  Begun seats = (c : ℕ) → BeginsWith (history_of (histories_from 0 zs) c) (seen_at seats c)

  all-begin : (es : List (List AtSeat)) → All (λ (seats : List AtSeat). length seats ≡ length S.categories) es
      → ((c : ℕ) (z : AtSeat) → slice_get zs c ≡ Some z → All (λ (row : List AtTurn). BeginsWith z.seen (seen_there (slice_get row c))) (rows_at_end es)) → All Begun es
  all-begin [] same begin = All-nil Begun
  all-begin (seats ∷ es) same begin =
      let L : List AtSeat → Type 0 = λ seats. length seats ≡ length S.categories in
      All-cons Begun seats es
      (λ c. subst (λ es. BeginsWith es (seen_at seats c)) (sym (entries c)) (one-begins c seats (All-head L seats es same)
      (λ z there. All-head (λ (row : List AtTurn). BeginsWith z.seen (seen_there (slice_get row c))) (map stood seats) (rows_at_end es) (begin c z there))))
      (all-begin es (All-tail L seats es same) (λ c z there. All-tail (λ (row : List AtTurn). BeginsWith z.seen (seen_there (slice_get row c))) (map stood seats) (rows_at_end es) (begin c z there)))

  pub begins-sessions : All Begun ends
  begins-sessions = all-begin ends long rows-begin

  pub many : (c : ℕ) → length (history_of (histories_from 0 zs) c) ≡ length (seen_at between c) + added_at c ends
  many c = ap length (entries c) ∙ in-or-out c (length between) (length (seen_at zs c) ≡ length (seen_at between c) + added_at c ends)
      (λ h. let a = at-some between c h in let t = at-place c a.0 a.1 in
      let first : t.k2.first ≡ a.0.seen = ap (λ (x : Shared). x.first) t.joined.is ∙ ap (λ (x : Shared). x.first) t.is in
      let none : t.k.added ≡ 0 = ap (λ (x : Shared). x.added) t.is in
      let added : t.k2.added ≡ t.k.added + added_in c (rows_at_end ends) = ap (λ (x : Shared). x.added) t.joined.is in
      let here : length (seen_at zs c) ≡ length t.z.seen = ap (λ o. length (seen_or_none o)) t.there in
      let there : length (seen_at between c) ≡ length a.0.seen = ap (λ o. length (seen_or_none o)) a.1 in
      omega (arith, here, there, t.closes.many, ap length first, none, added, all-added ends c))
      (λ h. let out = at-or-none between c h in
      let here : length (seen_at between c) ≡ 0 = ap (λ o. length (seen_or_none o)) out in
      let there : length (seen_at zs c) ≡ 0 = ap (λ o. length (seen_or_none o)) (at-or-none zs c (omega (arith, h, many-between, many-closed))) in
      omega (arith, here, there, none-added (length S.categories) c ends long (omega (arith, h, many-between))))

  -- the offers are those of the categories, and the histories are legal
  closed-at : (c : ℕ) (m : Made Label) → slice_get S.categories c ≡ Some m → (z : AtSeat) × (slice_get zs c ≡ Some z) × Legal (frame (any_offer m.category) cells_in_object cells_in_morphism) z.seen
  closed-at c m there =
      let a = zip-get (IsSeat prelude_session) S.categories between c m are.all there in
      let t = at-place c a.0 a.1 in
      let offer : t.z.offer ≡ m.category = t.closes.offer ∙ ap (λ (x : Shared). x.offer) t.joined.is ∙ ap (λ (x : Shared). x.offer) t.is ∙ a.2.offer in
      (t.z, t.there, subst (λ x. Legal (frame (any_offer x) cells_in_object cells_in_morphism) t.z.seen) offer t.closes.legal)

  closed-histories : (hs : List (History ObjData MorData)) (n : ℕ) (ms : List (Made Label)) (ys : List AtSeat) → length ys ≡ length ms → ((i : ℕ) (m : Made Label) → slice_get ms i ≡ Some m → m.number.0 ≡ n + i)
      → ((c : ℕ) (m : Made Label) → slice_get ms c ≡ Some m → (z : AtSeat) × (slice_get ys c ≡ Some z) × Legal (frame (any_offer m.category) cells_in_object cells_in_morphism) z.seen)
      → AllZip (IsHistory kinds rule_table hs) ms (histories_from n ys)
  closed-histories hs n [] [] same numbered at = tt
  closed-histories hs n [] (y ∷ ys) same numbered at = absurd (omega (arith, same))
  closed-histories hs n (m ∷ ms) [] same numbered at = absurd (omega (arith, same))
  closed-histories hs n (m ∷ ms) (y ∷ ys) same numbered at =
      let first = at zero m refl in
      let is : first.0 ≡ y = some_inner (sym first.1) in
      let number : n ≡ m.number.0 = omega (arith, numbered 0 m refl) in (
        record { number = ap (λ (k : ℕ). record { 0 = k }) number; legal = subst (λ (z : AtSeat). Legal (frame (any_offer m.category) cells_in_object cells_in_morphism) z.seen) is first.2 },
        closed-histories hs (suc n) ms ys (omega (arith, same)) (λ i k e. omega (arith, numbered (suc i) k e)) (λ c. at (suc c)),
      )

  pub at-end : AreAtEnd S between ends (histories_from 0 zs)
  at-end = record {
    are = closed-histories (histories_from 0 zs) 0 S.categories zs many-closed (λ i m e. omega (arith, are.numbered i m e)) closed-at;
    prelude = begins-prelude;
    sessions = begins-sessions;
    many = many;
  }

module _ (between : List AtSeat) (all left : ℕ) (ks ks2 : List Shared) (shared : AllZip (IsSharedOf all) between ks) (ends : List (List AtSeat)) (joins : JoinAll (map (fewer_by left) ks) (rows_at_end ends) ks2) where
  -- all shares are back
  pub whole-again : all ≡ left + 1 → length ends ≡ left → (c : ℕ) (k : Shared) → slice_get ks2 c ≡ Some k → IsWholeAgain k
  whole-again total rows c k there =
      let a = at-some between c (omega (arith, is-within ks2 c k there, joins.0, length-map ks (fewer_by left), zip-long (IsSharedOf all) between ks shared)) in
      let here = zip-get (IsSharedOf all) between ks c a.0 shared a.1 in
      let given : slice_get (map (fewer_by left) ks) c ≡ Some (fewer_by left here.0) = slice_get-map (fewer_by left) ks c ∙ ap (option_map (fewer_by left)) here.1 in
      let second = joins.1 c (fewer_by left here.0) given in
      let same : second.0 ≡ k = some_inner (sym second.1 ∙ there) in
      let shares : second.0.shares ≡ here.0.shares - left + length (rows_at_end ends) = ap (λ (x : Shared). x.shares) second.2.is in
      let had : here.0.shares ≡ all = ap (λ (x : Shared). x.shares) here.2 in
      let whole : second.0.all ≡ here.0.all = ap (λ (x : Shared). x.all) second.2.is in
      let total_there : here.0.all ≡ all = ap (λ (x : Shared). x.all) here.2 in
      let rows_many : length (rows_at_end ends) ≡ length ends = length-map ends (λ (seats : List AtSeat). map stood seats) in
      subst IsWholeAgain same (omega (arith, shares, had, whole, total_there, rows_many, total, rows))
