-- A session's commands, one after another.
use Rattle.std.proofs.Common.{◌≡◌, ℕ, ◌+◌, ◌<◌, ◌≤◌, ◌^◌, List, [], ◌∷◌, ◌++◌, length, map, take, get_or, refl, sym, ap, ◌∙◌, subst, arith}
use Rattle.std.proofs.lemmas.List.{take_all, length-append, map-append}
use Rattle.cap_names.specs.declared.identifiers.SessionNo.{SessionNo}
use Rattle.cap_names.specs.declared.literals.MorLit.{MorLit}
use Rattle.cap_grammar.specs.declared.tree.Command.{Command}
use Rattle.cap_checked.specs.declared.tree.CheckedObj.{CheckedObj}
use Rattle.cap_fitting.specs.Commands.{Scope}
use Rattle.cap_fitting.specs.Forms.{CheckedCommand, behind_commands}
use Rattle.cap_fitting.specs.Values.{bound_by_command, values_of_parts}
use Rattle.cap_fitting.proofs.Places.{front_more, values_more}
use Rattle.cap_ops.specs.Told.{StaysTold}
use Rattle.cap_data.specs.declared.data.MorData.{MorData}
use Rattle.cap_report.specs.declared.report.Done.{Done}
use Rattle.cap_report.specs.Named.{bound_name}
use Rattle.cap_accounts.specs.Accounts.{CountFrom, with_bound}
use Rattle.cap_commands.specs.Agreement.{Standing, Telling, Stands, Agrees}
use Rattle.cap_commands.specs.Running.{IsPrepared, behind_command}
use Rattle.cap_commands.specs.Seats.{AtSeat, OfData, AreSeats, telling}
use Rattle.cap_traces.specs.Chains.{Chain}
use Rattle.cap_traces.proofs.Growing.{seats-behind}
use Rattle.cap_session.specs.declared.course.Course.{Course}
use Rattle.cap_session.specs.Courses.{RunsOne, Comes, RunsAll}
use Rattle.std.specs.List.{AllZip}
use Rattle.cap_session.proofs.Counting.{counts-on, chain-on}

-- names that agree do so in each scope of the same values and categories
pub agrees-in : (scope other : Scope) (S : Standing) (t : Telling) → other.values ≡ scope.values → ((cat : List ℕ) → other.over cat ≡ scope.over cat) → Agrees scope S t → Agrees other S t
agrees-in scope other S t values over A = record {
  bound = subst (λ vs. AllZip (Stands S t) vs S.bound) (sym values) A.bound;
  made = λ cat o is. A.made cat o (sym (over cat) ∙ is);
}

module _ (others : List OfData → Type 0) (session : SessionNo) (C0 : Course AtSeat) (commands : List CheckedCommand) where
  abbrev node_of : CheckedCommand → Command CheckedObj MorLit
  node_of c = c.node

  -- so many commands have run
  pub record Going (i : ℕ) (C : Course AtSeat) : Type 0 where
    pub comes : Comes session C0 commands
    pub chain : Chain others session C0.standing C0.seats.items (map node_of (take i commands)) C.events.items (map (λ d. d.answer) C.done.items) C.standing C.seats.items
    pub counted : CountFrom 0 C.done.items
    pub long : length C.done.items ≡ i
    pub are : AreSeats session C.standing C.seats.items
    pub agrees : Agrees (behind_commands comes.prelude (take i commands)) C.standing (telling C.seats.items)
    pub stays : (n : ℕ) → StaysTold (telling C0.seats.items n) (telling C.seats.items n)

  pub going-first : Comes session C0 commands → Going 0 C0
  going-first c = record {
    comes = c;
    chain = (c.silent, ap (map (λ d. d.answer)) c.idle, refl, refl);
    counted = subst (CountFrom 0) (sym c.idle) tt;
    long = ap length c.idle;
    are = c.are;
    agrees = c.agrees;
    stays = λ n h o e. e;
  }

  pub few-done : (i : ℕ) (C : Course AtSeat) → Going i C → i ≤ length commands → length C.done.items < 2 ^ 32
  few-done i C g h = omega (arith, g.long, g.comes.few)

  module _ (i : ℕ) (C : Course AtSeat) (c : CheckedCommand) (h : i < length commands) (at : c ≡ get_or commands i c) (g : Going i C) where
    pub prepared : IsPrepared C.standing C.seats.items c.node
    prepared = record {
      session = session;
      are = g.are;
      scope = behind_commands g.comes.prelude (take i commands);
      agrees = g.agrees;
      fits = g.comes.fit.fits i c h at;
      literal = g.comes.fit.literals i c h at;
    }

    pub going-on : (C' : Course AtSeat) → RunsOne others C c.node C' → Going (i + 1) C'
    going-on C' r =
        let prelude = g.comes.prelude in
        let here = behind_commands prelude (take i commands) in
        let next = behind_commands prelude (take (i + 1) commands) in
        let S = with_bound C.standing (bound_name c.node) r.answer in
        let seats = C'.seats.items in
        let front : map node_of (take (i + 1) commands) ≡ map node_of (take i commands) ++ c.node ∷ [] = ap (map node_of) (front_more commands i c h at) ∙ map-append node_of (take i commands) (c ∷ []) in
        let answers : map (λ (d : Done MorData). d.answer) C'.done.items ≡ map (λ (d : Done MorData). d.answer) C.done.items ++ r.answer ∷ [] =
        ap (map (λ (d : Done MorData). d.answer)) r.done ∙ map-append (λ (d : Done MorData). d.answer) C.done.items (record { command = length C.done.items; answer = r.answer } ∷ []) in
        let chain = chain-on others session C0.standing C.standing C0.seats.items C.seats.items seats (map node_of (take i commands)) c.node C.events.items r.runs.own (map (λ (d : Done MorData). d.answer) C.done.items) r.answer g.chain (r.runs.runs session g.are) (r.runs.are session g.are) in
        let agrees = r.runs.agrees session g.are here g.agrees (g.comes.fit.fits i c h at) (g.comes.fit.literals i c h at) in
        let values : next.values ≡ (behind_command here c.node).values = values_more bound_by_command (values_of_parts prelude) commands i c h at in
        record {
          comes = g.comes;
          chain = rw (front, r.runs.added, answers, r.standing) chain;
          counted = subst (CountFrom 0) (sym r.done) (counts-on 0 C.done.items (record { command = length C.done.items; answer = r.answer }) g.counted (omega arith));
          long = ap length r.done ∙ length-append C.done.items (record { command = length C.done.items; answer = r.answer } ∷ []) ∙ ap (λ n. n + 1) g.long;
          are = subst (λ T. AreSeats session T seats) (sym r.standing) (seats-behind session C.standing (bound_name c.node) r.answer seats (r.runs.are session g.are));
          agrees = subst (λ T. Agrees next T (telling seats)) (sym r.standing) (agrees-in (behind_command here c.node) next S (telling seats) values (λ cat. refl) agrees);
          stays = λ n h o e. r.runs.stays session g.are n h o (g.stays n h o e);
        }

  pub gone : (i : ℕ) (C : Course AtSeat) → length commands ≤ i → Going i C → RunsAll others session C0 commands C
  gone i C h g = record {
    chain = subst (λ cs. Chain others session C0.standing C0.seats.items (map node_of cs) C.events.items (map (λ d. d.answer) C.done.items) C.standing C.seats.items) (take_all i commands h) g.chain;
    counted = g.counted;
    are = g.are;
    stays = g.stays;
  }
