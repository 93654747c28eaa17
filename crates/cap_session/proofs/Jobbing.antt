-- A session's job: what it needs to come, and what it is when it has run.
use Rattle.std.proofs.Common.{◌≡◌, ℕ, suc, ◌-◌, ◌≤◌, List, [], ◌∷◌, ◌++◌, length, map, refl, sym, subst, ap, ◌∙◌, arith, length-append, append_assoc}
use Rattle.std.specs.Prelude.{Some, slice_get, Result, Ok, Err, IfOk, Vec}
use Rattle.std.specs.List.{All, AllZip}
use Rattle.std.proofs.lemmas.List.Elements.{All-nil, All-cons, All-head, All-tail, All-weaker}
use Rattle.cap_names.specs.declared.faults.NoMemory.{NoMemory}
use Rattle.cap_names.specs.declared.identifiers.SessionNo.{SessionNo}
use Rattle.cap_fitting.specs.Forms.{CheckedCommand, CheckedSession}
use Rattle.cap_offer.specs.Labels.{Label}
use Rattle.cap_report.specs.declared.situation.Made.{Made}
use Rattle.cap_commands.specs.Agreement.{Standing}
use Rattle.cap_commands.specs.Seats.{AtSeat, IsSeat, AreSeats}
use Rattle.cap_shares.specs.Shares.{Shared}
use Rattle.cap_thread_laws.specs.AtOnce.{IsAnything}
use Rattle.cap_traces.specs.Chains.{Chain}
use Rattle.cap_traces.specs.Runs.{seated}
use Rattle.cap_session.specs.declared.course.Course.{Course}
use Rattle.cap_session.specs.declared.jobs.Job.{Job}
use Rattle.cap_session.specs.declared.jobs.Ended.{Ended}
use Rattle.cap_session.specs.declared.jobs.Seated.{Seated}
use Rattle.cap_session.specs.Courses.{CommandsFit}
use Rattle.cap_session.specs.Jobs.{Ready, Ran, CanSit, SatDown, MayRun, HasRunAs, HaveBoth, commands_at, commands_or_none, seats_of}
use Rattle.cap_session.specs.Places.{HoldsThere, stood}
use Rattle.cap_session.specs.Sessions.{SessionComes, RunsSession}
use Rattle.cap_session.specs.Shares.{JobsFrom}
use Rattle.cap_session.proofs.Ends.{zip-more}

-- what was told at seats holds there
seats-hold : (session : SessionNo) (ms : List (Made Label)) (seats : List AtSeat) → AllZip (IsSeat session) ms seats → All HoldsThere seats
seats-hold session [] [] all = All-nil HoldsThere
seats-hold session [] (a ∷ seats) all = absurd all
seats-hold session (m ∷ ms) [] all = absurd all
seats-hold session (m ∷ ms) (a ∷ seats) all = All-cons HoldsThere a seats all.0.holds (seats-hold session ms seats all.1)

-- a job's commands are those that its number finds
abbrev pub IsNumbered : List CheckedSession → Job → Type 0
IsNumbered sessions job = commands_at sessions job.session.0 ≡ job.commands.now

module _ (S : Standing) (ks : List Shared) (job : Job) where
  pub ready-holds : Ready S ks job → All HoldsThere (seats_of ks job)
  ready-holds r = seats-hold job.session S.categories (seats_of ks job) r.are.all

  pub can-sit : Ready S ks job → CanSit ks job
  can-sit r = record { few = r.seats; fits = r.fits; holds = ready-holds r }

  module _ (sessions : List CheckedSession) (numbered : IsNumbered sessions job) (s : Seated AtSeat) (d : SatDown ks job s) where
    same-commands : commands_at sessions s.session.0 ≡ job.commands.now
    same-commands = ap (λ (n : SessionNo). commands_at sessions n.0) d.session ∙ numbered

    pub may-run : Ready S ks job → MayRun sessions S s
    may-run r = record {
      few = subst (λ (cs : List CheckedCommand). length cs ≤ 4096) (sym same-commands) r.few;
      are = rw (d.session, d.seats) r.are;
      prelude = r.prelude;
      fit = subst (CommandsFit r.prelude) (sym same-commands) r.fit;
      agrees = rw (d.seats) r.agrees;
    }

    pub ran-as : (e : Ended) → HasRunAs sessions S s e → Ran S ks job e
    ran-as e r = record {
      ended = r.ended;
      row = r.row;
      number = r.number ∙ d.session;
      counted = r.counted;
      behind = r.behind;
      chain = subst (λ (n : SessionNo). Chain IsAnything n S (seated n (seats_of ks job)) (map (λ (c : CheckedCommand). c.node) job.commands.now) e.trace.events (map (λ d. d.answer) e.trace.done) r.behind r.ended) d.session
          (subst (λ (ss : List AtSeat). Chain IsAnything s.session S (seated s.session ss) (map (λ (c : CheckedCommand). c.node) job.commands.now) e.trace.events (map (λ d. d.answer) e.trace.done) r.behind r.ended) d.seats
          (subst (λ (cs : List CheckedCommand). Chain IsAnything s.session S (seated s.session s.seats.items) (map (λ (c : CheckedCommand). c.node) cs) e.trace.events (map (λ d. d.answer) e.trace.done) r.behind r.ended) same-commands r.chain));
      are = subst (λ (n : SessionNo). AreSeats n S r.ended) d.session r.are;
    }

-- so for all sessions
module _ (sessions : List CheckedSession) (S : Standing) (ks : List Shared) where
  pub all-can-sit : (jobs : List Job) → All (Ready S ks) jobs → All (CanSit ks) jobs
  all-can-sit jobs ready = All-weaker (Ready S ks) (CanSit ks) (λ job r. can-sit S ks job r) jobs ready

  pub all-may-run : (jobs : List Job) (all : List (Seated AtSeat)) → All (IsNumbered sessions) jobs → All (Ready S ks) jobs → AllZip (SatDown ks) jobs all → All (MayRun sessions S) all
  all-may-run [] [] numbered ready sat = All-nil (MayRun sessions S)
  all-may-run [] (s ∷ all) numbered ready sat = absurd sat
  all-may-run (job ∷ jobs) [] numbered ready sat = absurd sat
  all-may-run (job ∷ jobs) (s ∷ all) numbered ready sat =
      All-cons (MayRun sessions S) s all (may-run S ks job sessions (All-head (IsNumbered sessions) job jobs numbered) s sat.0 (All-head (Ready S ks) job jobs ready))
      (all-may-run jobs all (All-tail (IsNumbered sessions) job jobs numbered) (All-tail (Ready S ks) job jobs ready) sat.1)

  pub all-ran-as : (jobs : List Job) (all : List (Seated AtSeat)) (es : List Ended) → All (IsNumbered sessions) jobs → AllZip (SatDown ks) jobs all → AllZip (HasRunAs sessions S) all es → AllZip (Ran S ks) jobs es
  all-ran-as [] [] [] numbered sat ran = tt
  all-ran-as [] [] (e ∷ es) numbered sat ran = absurd ran
  all-ran-as [] (s ∷ all) es numbered sat ran = absurd sat
  all-ran-as (job ∷ jobs) [] es numbered sat ran = absurd sat
  all-ran-as (job ∷ jobs) (s ∷ all) [] numbered sat ran = absurd ran
  all-ran-as (job ∷ jobs) (s ∷ all) (e ∷ es) numbered sat ran =
      (ran-as S ks job sessions (All-head (IsNumbered sessions) job jobs numbered) s sat.0 e ran.0, all-ran-as jobs all es (All-tail (IsNumbered sessions) job jobs numbered) sat.1 ran.1)

-- the jobs of sessions find their commands by their numbers
behind-them : (before : List CheckedSession) (p : CheckedSession) (rest : List CheckedSession) → slice_get (before ++ p ∷ rest) (length before) ≡ Some p
behind-them [] p rest = refl
behind-them (q ∷ before) p rest = behind-them before p rest

less-one : (m n : ℕ) → n ≡ suc m → n - 1 ≡ m
less-one m n e = omega (arith, e)

pub all-numbered : (ks : List Shared) (before ps : List CheckedSession) (jobs : List Job) → JobsFrom (suc (length before)) ks ps jobs → All (IsNumbered (before ++ ps)) jobs
all-numbered ks before [] [] made = All-nil (IsNumbered (before ++ []))
all-numbered ks before [] (job ∷ jobs) made = absurd made
all-numbered ks before (p ∷ ps) [] made = absurd made
all-numbered ks before (p ∷ ps) (job ∷ jobs) made =
    let one : IsNumbered (before ++ p ∷ ps) job = ap (λ i. commands_or_none (slice_get (before ++ p ∷ ps) i)) (less-one (length before) job.session.0 made.0.number) ∙ ap commands_or_none (behind-them before p ps) ∙ sym made.0.commands in
    let long : length (before ++ p ∷ []) ≡ suc (length before) = omega (arith, length-append before (p ∷ [])) in
    let later : JobsFrom (suc (length (before ++ p ∷ []))) ks ps jobs = subst (λ n. JobsFrom (suc n) ks ps jobs) (sym long) made.1 in
    All-cons (IsNumbered (before ++ p ∷ ps)) job jobs one (subst (λ qs. All (IsNumbered qs) jobs) (append_assoc before (p ∷ []) ps) (all-numbered ks (before ++ p ∷ []) ps jobs later))

-- a session that sat down comes, and has run
module _ (sessions : List CheckedSession) (S : Standing) (s : Seated AtSeat) (C : Course AtSeat) (standing : C.standing ≡ S) (seats : C.seats.items ≡ s.seats.items) (cs : List CheckedCommand) (found : cs ≡ commands_at sessions s.session.0) where
  pub seated-comes : MayRun sessions S s → C.events.items ≡ [] → C.done.items ≡ [] → SessionComes C cs
  seated-comes r silent idle = record {
    silent = silent;
    idle = idle;
    few = subst (λ (xs : List CheckedCommand). length xs ≤ 4096) (sym found) r.few;
    last = s.session;
    are = rw (standing, seats) r.are;
    prelude = r.prelude;
    fit = subst (CommandsFit r.prelude) (sym found) r.fit;
    agrees = rw (standing, seats) r.agrees;
  }

  pub seated-ran : (C' : Course AtSeat) (e : Ended) → RunsSession IsAnything s.session C cs e.trace C' → e.row.items ≡ map stood C'.seats.items → HasRunAs sessions S s e
  seated-ran C' e r row = record {
    ended = C'.seats.items;
    row = row;
    number = r.number;
    counted = r.counted;
    behind = r.behind;
    chain = subst (λ (xs : List CheckedCommand). Chain IsAnything s.session S (seated s.session s.seats.items) (map (λ (c : CheckedCommand). c.node) xs) e.trace.events (map (λ d. d.answer) e.trace.done) r.behind C'.seats.items) found
        (subst (λ (T : Standing). Chain IsAnything s.session T (seated s.session s.seats.items) (map (λ (c : CheckedCommand). c.node) cs) e.trace.events (map (λ d. d.answer) e.trace.done) r.behind C'.seats.items) standing
        (subst (λ (ss : List AtSeat). Chain IsAnything s.session C.standing (seated s.session ss) (map (λ (c : CheckedCommand). c.node) cs) e.trace.events (map (λ d. d.answer) e.trace.done) r.behind C'.seats.items) seats r.chain));
    are = subst (λ (T : Standing). AreSeats s.session T C'.seats.items) standing r.are;
  }

-- all have run, where those before and the last one have
pub all-ran-both : {A B : Type 0} (R : A → Ended → Type 0) (jobs rest : List A) (job : A) → jobs ≡ rest ++ job ∷ [] → (before : Result (Vec Ended B) NoMemory) (last : Result Ended NoMemory) (all : Result (Vec Ended B) NoMemory)
    → IfOk before (λ es. AllZip R rest es.items) → IfOk last (R job) → IfOk all (λ es. HaveBoth before last es.items) → IfOk all (λ es. AllZip R jobs es.items)
all-ran-both R jobs rest job is before last (Err e) b l h = tt
all-ran-both R jobs rest job is (Ok es) (Ok e) (Ok all) b l h = subst (AllZip R jobs) (sym h) (subst (λ js. AllZip R js (es.items ++ e ∷ [])) (sym is) (zip-more R rest es.items job e b l))
all-ran-both R jobs rest job is (Ok es) (Err e) (Ok all) b l h = absurd h
all-ran-both R jobs rest job is (Err e) last (Ok all) b l h = absurd h
