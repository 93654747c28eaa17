-- Sessions sit down at the seats of the prelude, and remember what was told there.
use Rattle.std.proofs.Common.{◌≡◌, ℕ, zero, suc, ◌<◌, ◌≤◌, List, [], ◌∷◌, ◌++◌, length, map, get_or, Some, refl, sym, ap, ◌∙◌, subst, arith, append_assoc, length-append}
use Rattle.std.specs.Prelude.{IsSome}
use Rattle.std.specs.List.{All, AllZip}
use Rattle.std.proofs.lemmas.List.{length-map}
use Rattle.std.proofs.lemmas.List.Elements.{All-nil, All-cons}
use Rattle.std.proofs.lemmas.List.Sums.{get_or-le-sum_by}
use Rattle.cap_names.specs.declared.identifiers.SessionNo.{SessionNo}
use Rattle.cap_board.specs.Board.{ToldObjects}
use Rattle.cap_ops.specs.Told.{StaysTold, told_in}
use Rattle.cap_checked.specs.declared.tree.Checked.{Checked}
use Rattle.cap_data.specs.Counts.{cells_in_object, cells_in_morphism}
use Rattle.cap_desk.specs.Books.{frame}
use Rattle.cap_fitting.specs.Forms.{CheckedCommand, CheckedSession, behind_commands, FormFits}
use Rattle.cap_fitting.specs.Literals.{LiteralsFit}
use Rattle.cap_fitting.proofs.Places.{command_here, command_literal_here}
use Rattle.cap_history.specs.Reading.{objects, finality}
use Rattle.cap_legal.specs.Legal.{Legal}
use Rattle.cap_offer.specs.Labels.{Label, any_offer}
use Rattle.cap_report.specs.declared.situation.Made.{Made}
use Rattle.cap_seat.specs.Seats.{Holds, told_among}
use Rattle.cap_shares.specs.Shares.{Shared, AtTurn, given}
use Rattle.cap_commands.specs.Agreement.{Standing, Agrees}
use Rattle.cap_commands.specs.Seats.{AtSeat, IsSeat, AreSeats, telling, seen_at, hand_at}
use Rattle.cap_traces.specs.Runs.{prelude_session}
use Rattle.cap_session.specs.declared.jobs.Job.{Job}
use Rattle.cap_session.specs.Courses.{CommandsFit}
use Rattle.cap_session.specs.Jobs.{Ready, seats_of}
use Rattle.cap_session.specs.Places.{AllFit, sat_down}
use Rattle.cap_session.specs.Shares.{IsSharedOf, fewer_by, IsJob, JobsFrom}
use Rattle.cap_session.proofs.Ends.{zip-long}
use Rattle.cap_session.proofs.Staying.{agrees-stays}

-- a seat of the session b where there was one of the prelude: it knows as much, and nothing was added at it
pub record Reseats (session : SessionNo) (a b : AtSeat) : Type 0 where
  pub offer : b.offer ≡ a.offer
  pub session_is : b.session ≡ session
  pub seen : b.seen ≡ a.seen
  pub known : b.known ≡ a.known
  pub tries : b.tries ≡ []
  pub knows : b.knows ≡ a.knows
  pub added : b.hand.added ≡ 0

module _ (session : SessionNo) where
  reseat-holds : (a b : AtSeat) → Reseats session a b → Holds (any_offer a.offer) cells_in_object cells_in_morphism a → Holds (any_offer b.offer) cells_in_object cells_in_morphism b
  reseat-holds a b r h =
      let D = any_offer a.offer in
      let here : Holds D cells_in_object cells_in_morphism b = record {
        legal = subst (Legal (frame D cells_in_object cells_in_morphism)) (sym r.seen) h.legal;
        told = λ x o e. subst (λ es. told_in (objects es) x ≡ Some o) (sym r.seen) (h.told x o (subst (λ ks. told_among ks x ≡ Some o) r.known e));
        plan = λ e. subst (λ es. IsSome (finality es)) (sym r.seen) (h.plan (sym r.knows ∙ e));
        objects = subst (λ ks. ToldObjects D (told_among ks)) (sym r.known) h.objects;
      } in
      subst (λ x. Holds (any_offer x) cells_in_object cells_in_morphism b) (sym r.offer) here

  pub seats-again : (ms : List (Made Label)) (us bs : List AtSeat) → AllZip (IsSeat prelude_session) ms us → AllZip (Reseats session) us bs → AllZip (IsSeat session) ms bs
  seats-again [] [] [] z w = tt
  seats-again [] [] (b ∷ bs) z w = absurd w
  seats-again [] (a ∷ us) bs z w = absurd z
  seats-again (m ∷ ms) [] bs z w = absurd z
  seats-again (m ∷ ms) (a ∷ us) [] z w = absurd w
  seats-again (m ∷ ms) (a ∷ us) (b ∷ bs) z w = (
    record { offer = w.0.offer ∙ z.0.offer; own = w.0.session_is; holds = reseat-holds a b w.0 z.0.holds; taken = w.0.tries },
    seats-again ms us bs z.1 w.1,
  )

  pub telling-again : (us bs : List AtSeat) → AllZip (Reseats session) us bs → (n : ℕ) → StaysTold (telling us n) (telling bs n)
  telling-again [] [] w n = λ h o e. e
  telling-again [] (b ∷ bs) w n = absurd w
  telling-again (a ∷ us) [] w n = absurd w
  telling-again (a ∷ us) (b ∷ bs) w zero = λ h o e. subst (λ ks. told_among ks h ≡ Some o) (sym w.0.known) e
  telling-again (a ∷ us) (b ∷ bs) w (suc n) = telling-again us bs w.1 n

  pub seen-again : (us bs : List AtSeat) → AllZip (Reseats session) us bs → (n : ℕ) → seen_at bs n ≡ seen_at us n
  seen-again [] [] w n = refl
  seen-again [] (b ∷ bs) w n = absurd w
  seen-again (a ∷ us) [] w n = absurd w
  seen-again (a ∷ us) (b ∷ bs) w zero = w.0.seen
  seen-again (a ∷ us) (b ∷ bs) w (suc n) = seen-again us bs w.1 n

  pub nothing-again : (us bs : List AtSeat) → AllZip (Reseats session) us bs → (n : ℕ) → (hand_at bs n).added ≡ 0
  nothing-again [] [] w n = refl
  nothing-again [] (b ∷ bs) w n = absurd w
  nothing-again (a ∷ us) [] w n = absurd w
  nothing-again (a ∷ us) (b ∷ bs) w zero = w.0.added
  nothing-again (a ∷ us) (b ∷ bs) w (suc n) = nothing-again us bs w.1 n

-- the seats that were given are those of the categories
pub given-fit : (left : ℕ) (ks : List Shared) → AllFit (map (fewer_by left) ks) (map given ks)
given-fit left [] = tt
given-fit left (k ∷ ks) = (record { place = refl; label = refl }, given-fit left ks)

pub reseated : (all left : ℕ) (session : SessionNo) (us : List AtSeat) (ks : List Shared) → AllZip (IsSharedOf all) us ks → AllZip (Reseats session) us (sat_down session (map (fewer_by left) ks) (map given ks))
reseated all left session [] [] z = tt
reseated all left session [] (k ∷ ks) z = absurd z
reseated all left session (a ∷ us) [] z = absurd z
reseated all left session (a ∷ us) (k ∷ ks) z = (
  record {
    offer = ap (λ (x : Shared). x.offer) z.0;
    session_is = refl;
    seen = ap (λ (x : Shared). x.seen) z.0;
    known = ap (λ (x : Shared). x.memory.known) z.0;
    tries = refl;
    knows = ap (λ (x : Shared). x.memory.knows) z.0;
    added = refl;
  },
  reseated all left session us ks z.1,
)

-- an element by what stands before it
at-place : {A : Type 0} (xs before behind : List A) (x : A) → xs ≡ before ++ x ∷ behind → (length before < length xs) × (x ≡ get_or xs (length before) x)
at-place xs before behind x e = (omega (arith, ap length e, length-append before (x ∷ behind)), subst (λ ys. x ≡ get_or ys (length before) x) (sym e) (sym (go before))) where
  go : (ys : List _) → get_or (ys ++ x ∷ behind) (length ys) x ≡ x
  go [] = refl
  go (y ∷ ys) = go ys

module _ (form : Checked) (fits : FormFits form) (literals : LiteralsFit form) (S : Standing) (between : List AtSeat) (are : AreSeats prelude_session S between) (agrees : Agrees (behind_commands form.prelude []) S (telling between))
    (some : length between ≤ 256) (all left : ℕ) (ks : List Shared) (shared : AllZip (IsSharedOf all) between ks) where
  abbrev Rest : List Shared
  Rest = map (fewer_by left) ks

  -- where the session of a job sits down
  pub job-seats : (n : ℕ) (p : CheckedSession) (job : Job) → IsJob n ks p job → AllZip (Reseats job.session) between (seats_of Rest job)
  job-seats n p job is = subst (λ row. AllZip (Reseats job.session) between (sat_down job.session Rest row)) (sym is.row) (reseated all left job.session between ks shared)

  few-here : (before behind : List CheckedSession) (p : CheckedSession) → form.sessions ≡ before ++ p ∷ behind → length p.node.commands ≤ 4096
  few-here before behind p splits =
      let at = at-place form.sessions before behind p splits in
      let whole = get_or-le-sum_by (λ (q : CheckedSession). length q.node.commands) form.sessions (length before) p at.0 in
      let same : length p.node.commands ≡ length (get_or form.sessions (length before) p).node.commands = ap (λ (q : CheckedSession). length q.node.commands) at.1 in
      omega (arith, whole, same, fits.few_commands)

  commands-fit : (before behind : List CheckedSession) (p : CheckedSession) → form.sessions ≡ before ++ p ∷ behind → CommandsFit form.prelude p.node.commands
  commands-fit before behind p splits =
      let at = at-place form.sessions before behind p splits in
      record {
        fits = λ i c less is. command_here form.prelude before p.node (fits.sessions before behind p splits) i c less is;
        literals = λ i c less is. command_literal_here form literals (length before) p at.0 at.1 i c less is;
      }

  job-ready : (before behind : List CheckedSession) (p : CheckedSession) → form.sessions ≡ before ++ p ∷ behind → (n : ℕ) (job : Job) → IsJob n ks p job → Ready S Rest job
  job-ready before behind p splits n job is =
      let seats = job-seats n p job is in
      record {
        few = subst (λ (cs : List CheckedCommand). length cs ≤ 4096) (sym is.commands) (few-here before behind p splits);
        seats = subst (λ (row : List AtTurn). length row ≤ 256) (sym is.row) (omega (arith, some, length-map ks given, zip-long (IsSharedOf all) between ks shared));
        fits = subst (AllFit Rest) (sym is.row) (given-fit left ks);
        are = record { numbered = are.numbered; all = seats-again job.session S.categories between (seats_of Rest job) are.all seats };
        prelude = form.prelude;
        fit = subst (CommandsFit form.prelude) (sym is.commands) (commands-fit before behind p splits);
        agrees = agrees-stays S (telling between) (telling (seats_of Rest job)) (telling-again job.session between (seats_of Rest job) seats) (behind_commands form.prelude []) agrees;
      }

  pub all-ready : (before ps : List CheckedSession) → form.sessions ≡ before ++ ps → (n : ℕ) (jobs : List Job) → JobsFrom n ks ps jobs → All (Ready S Rest) jobs
  all-ready before [] splits n [] made = All-nil (Ready S Rest)
  all-ready before [] splits n (job ∷ jobs) made = absurd made
  all-ready before (p ∷ ps) splits n [] made = absurd made
  all-ready before (p ∷ ps) splits n (job ∷ jobs) made =
      All-cons (Ready S Rest) job jobs (job-ready before ps p splits n job made.0)
      (all-ready (before ++ p ∷ []) ps (splits ∙ sym (append_assoc before (p ∷ []) ps)) (suc n) jobs made.1)
