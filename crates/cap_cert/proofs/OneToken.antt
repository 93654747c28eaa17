-- One token read: from where to where.
use Rattle.std.proofs.Common.{◌≡◌, ℕ, suc, ◌<◌, ◌≤◌, List, ◌∷◌, Bool, true, false, Some, refl, ap, ◌∙◌, arith}
use Rattle.std.specs.Prelude.{codes, ◌==◌}
use Rattle.std.proofs.lemmas.Bool.Decides.{nat_tests}
use Rattle.cap_names.specs.Words.{IsNumber}
use Rattle.cap_ops.specs.Offered.{word_of}
use Rattle.cap_ops.specs.declared.plans.Kind.{Kind}
use Rattle.cap_ops.specs.declared.plans.TheConstants.{OPERATIONS, NO_PLAN, MOST_WEIGHT}
use Rattle.cap_cert.specs.declared.machine.Next.{Next}
use Rattle.cap_cert.specs.declared.machine.Next.TheVariants as next
use Rattle.cap_cert.specs.declared.machine.State.{State}
use Rattle.cap_cert.specs.Texts.{operation_word}
use Rattle.cap_cert.specs.Reading.{value, line_end, IsNameText, IsWeightText, IsRuleText, IsBoundText}
use Rattle.cap_cert.specs.Machine.{is, is_number, may_begin, kind_goes, reg_goes, line_goes, op_goes, way_goes, go, state_of, step, run}
use Rattle.cap_cert.proofs.WordTests.{both, lt-yes, ge-yes, is_yes, number_yes, name_yes, within_yes, kind_yes, place_yes}

abbrev pub at : ℕ → Next → State
at read to = record { read = read; next = to }

-- behind the token t the state s is after
pub record Goes (strict : Bool) (s : State) (t : List ℕ) (after : State) : Type 0 where
  pub is : step strict s t ≡ Some after

pub read_one : {strict : Bool} {s after : State} {t : List ℕ} → Goes strict s t after → (ts : List (List ℕ)) → run strict (Some s) (t ∷ ts) ≡ run strict (Some after) ts
read_one {strict} g ts = ap (λ o. run strict o ts) g.is

one-yes : (n : ℕ) → n ≡ 1 → (n == 1) ≡ true
one-yes n h = grind (arith, nat_tests, h)

pub s_start : (strict : Bool) (n : ℕ) → may_begin strict n ≡ true → Goes strict (at n next.Start) (codes "certificate") (at n next.Version)
s_start strict n h = record { is = ap (λ b. state_of n (go b next.Version)) (both (is (codes "certificate") (codes "certificate")) (may_begin strict n) (is_yes (codes "certificate")) h) }

pub s_version : (strict : Bool) (n : ℕ) (v : List ℕ) → IsNumber v → value v ≡ 1 → Goes strict (at n next.Version) v (at n next.Name)
s_version strict n v is one = record { is = ap (λ b. state_of n (go b next.Name)) (both (is_number v) (value v == 1) (number_yes v is) (one-yes (value v) one)) }

pub s_name : (strict : Bool) (n : ℕ) (name : List ℕ) → IsNameText name → Goes strict (at n next.Name) name (at n next.Kind)
s_name strict n name is = record { is = ap (λ b. state_of n (go b next.Kind)) (name_yes name is) }

pub s_kind : (strict : Bool) (n : ℕ) (kind : Kind) → Goes strict (at n next.Kind) (word_of kind) (at n next.HeadEnd)
s_kind strict n kind = record { is = ap (λ o. state_of n (kind_goes o)) (kind_yes kind) }

pub s_head_end : (strict : Bool) (n : ℕ) → Goes strict (at n next.HeadEnd) line_end (at n (next.Line 0))
s_head_end strict n = record { is = ap (λ b. state_of n (go b (next.Line 0))) (is_yes line_end) }

pub s_reg : (strict : Bool) (n k : ℕ) → k < OPERATIONS → Goes strict (at n (next.Line k)) (codes "reg") (at n (next.RegName k))
s_reg strict n k h = record { is = ap (λ b. state_of n (line_goes k b (is (codes "op") (codes "reg")))) (is_yes (codes "reg")) ∙ ap (λ b. state_of n (go b (next.RegName k))) (lt-yes k OPERATIONS h) }

reg_no_op : is (codes "reg") (codes "op") ≡ false
unfolding is
reg_no_op = refl

pub s_first_op : (strict : Bool) (n k : ℕ) → Goes strict (at n (next.Line k)) (codes "op") (at n (next.OpName 0))
s_first_op strict n k = record { is = ap (λ b. state_of n (line_goes k b (is (codes "op") (codes "op")))) reg_no_op ∙ ap (λ b. state_of n (go b (next.OpName 0))) (is_yes (codes "op")) }

pub s_reg_name : (strict : Bool) (n k p : ℕ) → k ≤ p → p < OPERATIONS → Goes strict (at n (next.RegName k)) (operation_word p) (at n (next.Weight p))
s_reg_name strict n k p h inside = record { is = ap (λ o. state_of n (reg_goes k o)) (place_yes p inside) ∙ ap (λ b. state_of n (go b (next.Weight p))) (ge-yes p k h) }

pub s_weight : (strict : Bool) (n p : ℕ) (w : List ℕ) → IsWeightText strict w → Goes strict (at n (next.Weight p)) w (at n (next.RegEnd p))
s_weight strict n p w is = record { is = ap (λ b. state_of n (go b (next.RegEnd p))) (within_yes strict 1 MOST_WEIGHT w is) }

pub s_reg_end : (strict : Bool) (n p : ℕ) → Goes strict (at n (next.RegEnd p)) line_end (at n (next.Line (suc p)))
s_reg_end strict n p = record { is = ap (λ b. state_of n (go b (next.Line (suc p)))) (is_yes line_end) }

pub s_op : (strict : Bool) (n i : ℕ) → i < OPERATIONS → Goes strict (at n (next.OpLine i)) (codes "op") (at n (next.OpName i))
s_op strict n i h = record { is = ap (λ b. state_of n (op_goes i b (is (codes "op") (codes "op")) (is (codes "end") (codes "op")))) (lt-yes i OPERATIONS h) ∙ ap (λ b. state_of n (go b (next.OpName i))) (is_yes (codes "op")) }

pub s_last : (strict : Bool) (n : ℕ) → Goes strict (at n (next.OpLine OPERATIONS)) (codes "end") (at n next.LastEnd)
s_last strict n = record { is = ap (λ b. state_of n (go b next.LastEnd)) (is_yes (codes "end")) }

pub s_op_name : (strict : Bool) (n i : ℕ) → Goes strict (at n (next.OpName i)) (operation_word i) (at n (next.Way i))
s_op_name strict n i = record { is = ap (λ b. state_of n (go b (next.Way i))) (is_yes (operation_word i)) }

pub s_prim : (strict : Bool) (n i : ℕ) → Goes strict (at n (next.Way i)) (codes "prim") (at n (next.Bound i))
s_prim strict n i = record { is = ap (λ b. state_of n (way_goes i b (is (codes "rule") (codes "prim")) (is (codes "missing") (codes "prim")))) (is_yes (codes "prim")) }

pub prim_no_rule : is (codes "prim") (codes "rule") ≡ false
unfolding is
prim_no_rule = refl

pub prim_no_missing : is (codes "prim") (codes "missing") ≡ false
unfolding is
prim_no_missing = refl

rule_no_missing : is (codes "rule") (codes "missing") ≡ false
unfolding is
rule_no_missing = refl

pub s_rule : (strict : Bool) (n i : ℕ) → Goes strict (at n (next.Way i)) (codes "rule") (at n (next.Rule i))
s_rule strict n i = record {
  is = ap (λ b. state_of n (way_goes i b (is (codes "rule") (codes "rule")) (is (codes "missing") (codes "rule")))) prim_no_rule
      ∙ ap (λ b. state_of n (way_goes i false b (is (codes "missing") (codes "rule")))) (is_yes (codes "rule"));
}

pub s_missing : (strict : Bool) (n i : ℕ) → Goes strict (at n (next.Way i)) (codes "missing") (at n (next.OpEnd i))
s_missing strict n i = record {
  is = ap (λ b. state_of n (way_goes i b (is (codes "rule") (codes "missing")) (is (codes "missing") (codes "missing")))) prim_no_missing
      ∙ ap (λ b. state_of n (way_goes i false b (is (codes "missing") (codes "missing")))) rule_no_missing
      ∙ ap (λ b. state_of n (go b (next.OpEnd i))) (is_yes (codes "missing"));
}

pub s_rule_number : (strict : Bool) (n i : ℕ) (r : List ℕ) → IsRuleText strict r → Goes strict (at n (next.Rule i)) r (at n (next.Bound i))
s_rule_number strict n i r is = record { is = ap (λ b. state_of n (go b (next.Bound i))) (within_yes strict 1 59 r is) }

pub s_bound : (strict : Bool) (n i : ℕ) (b : List ℕ) → IsBoundText strict b → Goes strict (at n (next.Bound i)) b (at n (next.OpEnd i))
s_bound strict n i b is = record { is = ap (λ t. state_of n (go t (next.OpEnd i))) (within_yes strict 0 NO_PLAN b is) }

pub s_op_end : (strict : Bool) (n i : ℕ) → Goes strict (at n (next.OpEnd i)) line_end (at n (next.OpLine (suc i)))
s_op_end strict n i = record { is = ap (λ b. state_of n (go b (next.OpLine (suc i)))) (is_yes line_end) }

pub s_last_end : (strict : Bool) (n : ℕ) → Goes strict (at n next.LastEnd) line_end (at (suc n) next.Start)
s_last_end strict n = record { is = ap (λ b. state_of (suc n) (go b next.Start)) (is_yes line_end) }
