-- Plans can be written, and what is written for them is accepted.
use Rattle.std.proofs.Common.{◌≡◌, ℕ, ◌+◌, ◌<◌, ◌≤◌, List, [], ◌∷◌, length, Bool, true, false, cond, ◌&&◌, Option, Some, None, refl, sym, subst, arith}
use Rattle.std.specs.Prelude.{nat_eq, nat_lt, slice_index}
use Rattle.std.specs.List.{All, list_all, slice_index_or}
use Rattle.std.proofs.lemmas.Bool.{and_parts}
use Rattle.std.proofs.lemmas.Bool.Decides.{nat_tests}
use Rattle.std.proofs.lemmas.List.Elements.{All-nil, All-cons, All-head, All-tail, All-weaker}
use Rattle.std.proofs.lemmas.List.Sums.{AllPass-from_list_all}
use Rattle.cap_names.specs.declared.identifiers.RuleNo.{RuleNo}
use Rattle.cap_ops.specs.declared.plans.Kind.{Kind}
use Rattle.cap_ops.specs.declared.plans.RuleCost.{RuleCost}
use Rattle.cap_ops.specs.declared.plans.Choice.{Choice}
use Rattle.cap_ops.specs.declared.plans.Choice.TheVariants.{Prim, Rule, Missing}
use Rattle.cap_ops.specs.declared.plans.TheConstants.{OPERATIONS, NO_PLAN}
use Rattle.cap_ops.specs.Derivations.{Means, means, weight_by, leads_to, ways_by_rule, first_way, ways, lesser, lightest, first_at, choice_for, LineHolds}
use Rattle.cap_ops.proofs.DerivationsPlans.{plan_lines}
use Rattle.cap_cert.specs.declared.certs.Cert.{Cert}
use Rattle.cap_cert.specs.Lines.{AllHold, IsTrueCert}
use Rattle.cap_judge.specs.Judged.{the_costs, AreAccepted}
use Rattle.cap_judge.proofs.RuleCosts.{costs_are}
use Rattle.cap_cert_laws.specs.Written.{Subject, spelling, all_written, cert_at, certs_from, IsWritableWay, IsWritable, AreFew, IsPlanned}
use Rattle.cap_cert.specs.Texts.{lines_of}
use Rattle.cap_cert_laws.proofs.ReadAgain.{certificates_read}

-- a rule's number can stand in a certificate
abbrev IsNumbered : RuleNo → Type 0
IsNumbered number = (1 ≤ number.0) × (number.0 ≤ 59)

-- a choice that does the operation: the primitive, or a rule whose number can stand in a certificate
abbrev Does : Choice → Type 0
Does Prim = Unit {0}
Does (Rule number) = IsNumbered number
Does Missing = ⊥

-- The numbers of the 59 rules.
is_numbered : RuleCost → Bool
is_numbered rule = nat_lt 0 rule.no.0 && nat_lt rule.no.0 60

above : (a b : ℕ) → nat_lt a b ≡ true → a < b
above a b h = grind (arith, nat_tests, h)

numbered_is : (rule : RuleCost) → is_numbered rule ≡ true → IsNumbered rule.no
unfolding is_numbered
numbered_is rule h =
    let parts = and_parts (nat_lt 0 rule.no.0) (nat_lt rule.no.0 60) h in
    let first = above 0 rule.no.0 parts.0 in
    let last = above rule.no.0 60 parts.1 in
    (omega (arith, first), omega (arith, last))

costs_tested : list_all is_numbered the_costs ≡ true
unfolding is_numbered the_costs
costs_tested = refl

costs_numbered : All (λ rule. IsNumbered rule.no) the_costs
costs_numbered = All-weaker (λ rule. is_numbered rule ≡ true) (λ rule. IsNumbered rule.no) numbered_is the_costs (AllPass-from_list_all is_numbered the_costs costs_tested)

-- Each way does the operation.
abbrev DoesWay : (ℕ × Choice) → Type 0
DoesWay way = Does way.1

one_rule : (a : Bool) (way : ℕ × Choice) (more : List (ℕ × Choice)) → DoesWay way → All DoesWay more → All DoesWay (cond a (way ∷ more) more)
one_rule true way more is are = All-cons DoesWay way more is are
one_rule false way more is are = are

rules_do : (kind : Kind) (bounds : List ℕ) (op : ℕ) (rules : List RuleCost) → All (λ rule. IsNumbered rule.no) rules → All DoesWay (ways_by_rule kind bounds op rules)
rules_do kind bounds op [] are = All-nil DoesWay
rules_do kind bounds op (rule ∷ rules) are =
    one_rule (leads_to kind op rule) (weight_by bounds rule, Rule rule.no) (ways_by_rule kind bounds op rules) (All-head (λ r. IsNumbered r.no) rule rules are) (rules_do kind bounds op rules (All-tail (λ r. IsNumbered r.no) rule rules are))

first_does : (weight : Option ℕ) (more : List (ℕ × Choice)) → All DoesWay more → All DoesWay (first_way weight more)
first_does None more are = are
first_does (Some n) more are = All-cons DoesWay (n, Prim) more tt are

ways_do : (m : Means) (bounds : List ℕ) (op : ℕ) → All (λ rule. IsNumbered rule.no) m.rules → All DoesWay (ways m bounds op)
ways_do m bounds op are = first_does (slice_index_or m.weights op None) (ways_by_rule m.kind bounds op m.rules) (rules_do m.kind bounds op m.rules are)

-- The lightest way, where it weighs less than NO_PLAN, is found.
other_lesser : (a b n : ℕ) → nat_eq a n ≡ false → lesser a b ≡ n → b ≡ n
other_lesser a b n apart e = grind (arith, nat_tests, apart, e)

found_does : (n : ℕ) (way : ℕ × Choice) (more : List (ℕ × Choice)) (b : Bool) → nat_eq way.0 n ≡ b → lightest (way ∷ more) ≡ n → DoesWay way → (lightest more ≡ n → Does (first_at n more)) → Does (cond b way.1 (first_at n more))
found_does n way more true e light is rest = is
found_does n way more false e light is rest = rest (other_lesser way.0 (lightest more) n e light)

lightest_does : (n : ℕ) (ws : List (ℕ × Choice)) → n < NO_PLAN → All DoesWay ws → lightest ws ≡ n → Does (first_at n ws)
lightest_does n [] less are light = absurd (omega (arith, less, light))
lightest_does n (way ∷ more) less are light =
    found_does n way more (nat_eq way.0 n) refl light (All-head DoesWay way more are) (lightest_does n more less (All-tail DoesWay way more are))

-- An operation of a plan.
writable_done : (choice : Choice) (bound : ℕ) → bound ≤ NO_PLAN → Does choice → IsWritableWay choice bound
writable_done Prim bound capped is = record { capped = capped; rule = λ number e. absurd (cc (e)); missing = λ e. absurd (cc (e)) }
writable_done (Rule number) bound capped is = record { capped = capped; rule = λ other e. subst IsNumbered (same_number number other e) is; missing = λ e. absurd (cc (e)) }
  where
    same_number : (number other : RuleNo) → Rule number ≡ Rule other → number ≡ other
    same_number number other e = cc
writable_done Missing bound capped is = absurd is

writable_missing : (bound : ℕ) → bound ≤ NO_PLAN → NO_PLAN ≤ bound → IsWritableWay Missing bound
writable_missing bound capped no_less = record { capped = capped; rule = λ number e. absurd (cc (e)); missing = λ e. omega (arith, capped, no_less) }

not_less : (a b : ℕ) → nat_lt a b ≡ false → b ≤ a
not_less a b h = grind (arith, nat_tests, h)

chosen_writable : (m : Means) (bounds : List ℕ) (op : ℕ) (b : Bool) → nat_lt (slice_index bounds op) NO_PLAN ≡ b → All (λ rule. IsNumbered rule.no) m.rules → slice_index bounds op ≤ NO_PLAN → slice_index bounds op ≡ lightest (ways m bounds op)
    → IsWritableWay (cond b (first_at (slice_index bounds op) (ways m bounds op)) Missing) (slice_index bounds op)
chosen_writable m bounds op true e rules capped light =
    let n = slice_index bounds op in
    writable_done (first_at n (ways m bounds op)) n capped (lightest_does n (ways m bounds op) (above n NO_PLAN e) (ways_do m bounds op rules) (sym light))
chosen_writable m bounds op false e rules capped light = writable_missing (slice_index bounds op) capped (not_less (slice_index bounds op) NO_PLAN e)

abbrev means_for : Subject → Means
means_for s = means s.regs the_costs s.kind

way_writable : (s : Subject) → IsPlanned s → (op : ℕ) → op < OPERATIONS → IsWritableWay (slice_index_or s.plan.choices op Missing) (slice_index s.plan.bounds op)
way_writable s is op lt =
    let bounds = s.plan.bounds in
    let line : LineHolds (means_for s) s.plan op = plan_lines (means_for s) s.plan costs_are.each is.plan op lt in
    let chosen : IsWritableWay (choice_for (means_for s) bounds op) (slice_index bounds op) = chosen_writable (means_for s) bounds op (nat_lt (slice_index bounds op) NO_PLAN) refl costs_numbered (is.plan.bounds op lt).capped line.bound in
    subst (λ choice. IsWritableWay choice (slice_index bounds op)) (sym line.choice) chosen

pub plan_writable : (s : Subject) → IsPlanned s → IsWritable s
plan_writable s is = record { category = is.category; all_bounds = is.plan.all_bounds; all_choices = is.plan.all_choices; ways = way_writable s is }

-- The certificates of plans.
true_certs : (line : ℕ) (ss : List Subject) → All IsPlanned ss → All (IsTrueCert the_costs) (certs_from line ss)
true_certs line [] are = All-nil (IsTrueCert the_costs)
true_certs line (s ∷ ss) are =
    let next = line + length (lines_of (spelling s)) in
    All-cons (IsTrueCert the_costs) (cert_at line s) (certs_from next ss) (record { plan = (All-head IsPlanned s ss are).plan }) (true_certs next ss (All-tail IsPlanned s ss are))

all_hold : (cert : Cert) → IsTrueCert the_costs cert → AllHold the_costs cert
all_hold cert is = record { each = plan_lines (means cert.regs the_costs cert.kind) cert.plan costs_are.each is.plan }

pub plans_accepted : (ss : List Subject) → AreFew ss → All IsPlanned ss → AreAccepted (all_written ss)
plans_accepted ss few are =
    let certs = certs_from 1 ss in
    let trues : All (IsTrueCert the_costs) certs = true_certs 1 ss are in
    record {
      certs = certs;
      are = certificates_read ss few (All-weaker IsPlanned IsWritable plan_writable ss are);
      hold = All-weaker (IsTrueCert the_costs) (AllHold the_costs) all_hold certs trues;
      true_certs = trues;
    }
