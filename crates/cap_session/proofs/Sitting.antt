-- Sessions one after another.
use Rattle.std.proofs.Common.{◌≡◌, ℕ, ◌+◌, ◌<◌, ◌≤◌, List, [], ◌∷◌, ◌++◌, length, map, take, get_or, Some, refl, sym, ap, ◌∙◌, subst, append_assoc, arith}
use Rattle.std.proofs.lemmas.List.{append-nil, take_all, length-append, length-take}
use Rattle.std.proofs.lemmas.List.Sums.{get_or-le-sum_by}
use Rattle.cap_names.specs.declared.identifiers.SessionNo.{SessionNo}
use Rattle.cap_ops.specs.Told.{StaysTold}
use Rattle.cap_fitting.specs.Forms.{CheckedCommand, CheckedSession, behind_commands}
use Rattle.cap_fitting.proofs.Places.{front_more, session_here, command_here, command_literal_here}
use Rattle.cap_data.specs.declared.data.ObjData.{ObjData}
use Rattle.cap_data.specs.declared.data.MorData.{MorData}
use Rattle.cap_desk.specs.Woven.{IsNothing}
use Rattle.cap_report.specs.declared.report.Trace.{Trace}
use Rattle.cap_commands.specs.Seats.{AtSeat, OfData, AreSeats, telling}
use Rattle.cap_traces.specs.Chains.{Chain}
use Rattle.cap_traces.specs.Runs.{seated, SessionRuns, SessionsRun}
use Rattle.cap_traces.specs.Laws.{SessionsGoOn}
use Rattle.cap_session.specs.declared.course.Course.{Course}
use Rattle.cap_session.specs.Courses.{Comes, RunsAll, Hands}
use Rattle.cap_session.specs.Sessions.{SessionComes, RunsSession, SessionsCome, RunsSessions}
use Rattle.cap_session.proofs.Counting.{stands-on}
use Rattle.cap_session.proofs.Staying.{agrees-stays, seated-stays, are-seated, forgotten, seats-back}

-- a session that comes sits down
pub sits : (C C1 : Course AtSeat) (session : SessionNo) (commands : List CheckedCommand) → SessionComes C commands → C1.standing ≡ C.standing → C1.seats.items ≡ seated session C.seats.items → C1.events ≡ C.events → C1.done ≡ C.done
    → Comes session C1 commands
sits C C1 session commands c standing seats events done = record {
  silent = ap (λ v. v.items) events ∙ c.silent;
  idle = ap (λ v. v.items) done ∙ c.idle;
  few = c.few;
  are = rw (standing, seats) (are-seated c.last session C.standing C.seats.items c.are);
  prelude = c.prelude;
  fit = c.fit;
  agrees = rw (standing, seats) (agrees-stays C.standing (telling C.seats.items) (telling (seated session C.seats.items)) (seated-stays session C.seats.items) (behind_commands c.prelude []) c.agrees);
}

-- its commands have run, what it bound is forgotten, and what it has done is handed over
pub sat : (others : List OfData → Type 0) (C C1 C2 C3 C4 : Course AtSeat) (session : SessionNo) (commands : List CheckedCommand) (t : Trace ObjData MorData) → C1.standing ≡ C.standing → C1.seats.items ≡ seated session C.seats.items
    → RunsAll others session C1 commands C2 → C3.standing ≡ record C2.standing { bound = take (length C.standing.bound) C2.standing.bound } → C3.seats ≡ C2.seats → C3.events ≡ C2.events → C3.done ≡ C2.done
    → Hands session C3 t C4 → RunsSession others session C commands t C4
sat others C C1 C2 C3 C4 session commands t standing seats r bound seats3 events3 done3 h =
    let chain : Chain others session C.standing (seated session C.seats.items) (map (λ (c : CheckedCommand). c.node) commands) C2.events.items (map (λ d. d.answer) C2.done.items) C2.standing C2.seats.items =
    subst (λ ss. Chain others session C.standing ss (map (λ (c : CheckedCommand). c.node) commands) C2.events.items (map (λ d. d.answer) C2.done.items) C2.standing C2.seats.items) seats
    (subst (λ S. Chain others session S C1.seats.items (map (λ (c : CheckedCommand). c.node) commands) C2.events.items (map (λ d. d.answer) C2.done.items) C2.standing C2.seats.items) standing r.chain) in
    let on = stands-on others session C.standing C2.standing (seated session C.seats.items) C2.seats.items (map (λ (c : CheckedCommand). c.node) commands) C2.events.items (map (λ d. d.answer) C2.done.items) chain in
    let seats4 : C4.seats.items ≡ C2.seats.items = ap (λ v. v.items) (h.seats ∙ seats3) in
    let events : t.events ≡ C2.events.items = ap (λ (x : Trace ObjData MorData). x.events) h.trace ∙ ap (λ v. v.items) events3 in
    let done : t.done ≡ C2.done.items = ap (λ (x : Trace ObjData MorData). x.done) h.trace ∙ ap (λ v. v.items) done3 in
    record {
      number = ap (λ (x : Trace ObjData MorData). x.session) h.trace;
      counted = rw (done) r.counted;
      behind = C2.standing;
      chain = rw (events, done, seats4) chain;
      are = rw (seats4) (seats-back session C.standing C2.standing C2.seats.items on r.are);
      stays = λ n handle o e. rw (seats4) (r.stays n handle o (subst (λ ss. telling ss n handle ≡ Some o) (sym seats) (seated-stays session C.seats.items n handle o e)));
      standing = h.standing ∙ bound ∙ forgotten C.standing C2.standing on;
      silent = h.silent;
      idle = h.idle;
    }

module _ (C0 : Course AtSeat) (sessions : List CheckedSession) (traces0 : List (Trace ObjData MorData)) where
  -- so many sessions have run
  pub record Sitting (i : ℕ) (C : Course AtSeat) (traces : List (Trace ObjData MorData)) : Type 0 where
    pub come : SessionsCome C0 sessions traces0
    pub own : List (Trace ObjData MorData)
    pub added : traces ≡ traces0 ++ own
    pub long : length own ≡ i
    pub runs : SessionsRun 1 C0.standing C0.seats.items (take i sessions) own C.seats.items
    pub standing : C.standing ≡ C0.standing
    pub silent : C.events.items ≡ []
    pub idle : C.done.items ≡ []
    pub last : SessionNo
    pub are : AreSeats last C0.standing C.seats.items
    pub stays : (n : ℕ) → StaysTold (telling C0.seats.items n) (telling C.seats.items n)

  pub sitting-first : SessionsCome C0 sessions traces0 → Sitting 0 C0 traces0
  sitting-first c = record {
    come = c;
    own = [];
    added = sym (append-nil traces0);
    long = refl;
    runs = (refl, refl);
    standing = refl;
    silent = c.silent;
    idle = c.idle;
    last = c.last;
    are = c.are;
    stays = λ n h o e. e;
  }

  module _ (i : ℕ) (C : Course AtSeat) (traces : List (Trace ObjData MorData)) (p : CheckedSession) (h : i < length sessions) (at : p ≡ get_or sessions i p) (s : Sitting i C traces) where
    in-form : i < length s.come.form.sessions
    in-form = subst (λ ps. i < length ps) (sym s.come.are_form) h

    at-form : p ≡ get_or s.come.form.sessions i p
    at-form = subst (λ ps. p ≡ get_or ps i p) (sym s.come.are_form) at

    few-here : length p.node.commands ≤ 4096
    few-here =
        let whole = get_or-le-sum_by (λ (q : CheckedSession). length q.node.commands) s.come.form.sessions i p in-form in
        let here : length p.node.commands ≡ length (get_or s.come.form.sessions i p).node.commands = ap (λ (q : CheckedSession). length q.node.commands) at-form in
        omega (arith, whole, here, s.come.fits.few_commands)

    pub session-comes : SessionComes C p.node.commands
    session-comes = record {
      silent = s.silent;
      idle = s.idle;
      few = few-here;
      last = s.last;
      are = rw (s.standing) s.are;
      prelude = s.come.form.prelude;
      fit = record {
        fits = λ k c less is. command_here s.come.form.prelude (take i s.come.form.sessions) p.node (session_here s.come.form s.come.fits i p in-form at-form) k c less is;
        literals = λ k c less is. command_literal_here s.come.form s.come.literals i p in-form at-form k c less is;
      };
      agrees = rw (s.standing) (agrees-stays C0.standing (telling C0.seats.items) (telling C.seats.items) s.stays (behind_commands s.come.form.prelude []) s.come.agrees);
    }

    -- the number of the next session
    pub few-traces : length traces < 256
    few-traces =
        let all : length sessions ≤ 16 = subst (λ ps. length ps ≤ 16) s.come.are_form s.come.fits.few_sessions in
        omega (arith, ap length s.added, length-append traces0 s.own, s.long, s.come.prelude_alone, all)

    pub next-number : length traces ≡ 1 + i
    next-number = omega (arith, ap length s.added, length-append traces0 s.own, s.long, s.come.prelude_alone)

    pub sitting-on : SessionsGoOn → (session : SessionNo) (t : Trace ObjData MorData) (C' : Course AtSeat) → RunsSession IsNothing session C p.node.commands t C' → session.0 ≡ length traces → Sitting (i + 1) C' (traces ++ t ∷ [])
    sitting-on go session t C' r number =
        let S = C0.standing in
        let chain : Chain IsNothing session S (seated session C.seats.items) (map (λ (c : CheckedCommand). c.node) p.node.commands) t.events (map (λ d. d.answer) t.done) r.behind C'.seats.items =
        subst (λ T. Chain IsNothing session T (seated session C.seats.items) (map (λ (c : CheckedCommand). c.node) p.node.commands) t.events (map (λ d. d.answer) t.done) r.behind C'.seats.items) s.standing r.chain in
        let place : length (take i sessions) ≡ i = omega (arith, length-take i sessions) in
        let ran : SessionRuns (1 + length (take i sessions)) S C.seats.items p t C'.seats.items = record {
          number = ap (λ (n : SessionNo). n.0) r.number ∙ number ∙ next-number ∙ ap (λ n. 1 + n) (sym place);
          counted = r.counted;
          behind = r.behind;
          runs = subst (λ (n : SessionNo). Chain IsNothing n S (seated n C.seats.items) (map (λ (c : CheckedCommand). c.node) p.node.commands) t.events (map (λ d. d.answer) t.done) r.behind C'.seats.items) (sym r.number) chain;
        } in
        record {
          come = s.come;
          own = s.own ++ t ∷ [];
          added = ap (λ ts. ts ++ t ∷ []) s.added ∙ append_assoc traces0 s.own (t ∷ []);
          long = length-append s.own (t ∷ []) ∙ ap (λ n. n + 1) s.long;
          runs = subst (λ ps. SessionsRun 1 S C0.seats.items ps (s.own ++ t ∷ []) C'.seats.items) (sym (front_more sessions i p h at)) (go 1 S C0.seats.items C.seats.items C'.seats.items (take i sessions) p s.own t s.runs ran);
          standing = r.standing ∙ s.standing;
          silent = r.silent;
          idle = r.idle;
          last = session;
          are = subst (λ T. AreSeats session T C'.seats.items) s.standing r.are;
          stays = λ n handle o e. r.stays n handle o (s.stays n handle o e);
        }

  pub sat-all : (i : ℕ) (C : Course AtSeat) (traces : List (Trace ObjData MorData)) → length sessions ≤ i → Sitting i C traces → RunsSessions C0 sessions traces0 C traces
  sat-all i C traces h s = record {
    own = s.own;
    added = s.added;
    runs = subst (λ ps. SessionsRun 1 C0.standing C0.seats.items ps s.own C.seats.items) (take_all i sessions h) s.runs;
    last = s.last;
    are = s.are;
  }
