-- What holds of each rule of the table: it is typed, counted and numbered in order.
use Rattle.std.proofs.Common.{◌≡◌, ℕ, zero, suc, ◌+◌, ◌<◌, Bool, true, List, [], ◌∷◌, ◌++◌, length, take, get_or, refl, sym, ap, ◌∙◌, arith}
use Rattle.std.specs.Prelude.{Option, Some, None, is_none, slice_get, map}
use Rattle.std.specs.List.{list_all}
use Rattle.std.proofs.lemmas.List.Elements.{All-nil, All-cons}
use Rattle.cap_ops.specs.declared.plans.RuleCost.{RuleCost}
use Rattle.cap_ops.specs.Derivations.{AreCosts}
use Rattle.cap_ops.proofs.DerivationsCosts.{costs_pass}
use Rattle.cap_ops.proofs.Letters.{both-true}
use Rattle.cap_ops.proofs.Places.{none≢some, some_inner}
use Rattle.cap_terms.specs.declared.body.Body.{Body}
use Rattle.cap_terms.specs.declared.body.Rule.{Rule}
use Rattle.cap_terms.specs.Rules.{AreNumbered, all_occurrences}
use Rattle.cap_terms.specs.Typing.{Typed}
use Rattle.cap_terms.specs.Checker.{body_fault}
use Rattle.cap_terms.proofs.Bodies.{Tells, body_fault-tells}
use Rattle.cap_rules.specs.declared.codes.BodyCode.{BodyCode}
use Rattle.cap_rules.specs.Codes.{body_of, joined}
use Rattle.cap_rules.specs.Lines.{Line, rule_of, rules_from}
use Rattle.cap_rules.specs.Table.{lines, rule_table, AreTyped, AreCounted}

has_no_fault : Rule → Bool
has_no_fault r = is_none (body_fault r.cost.head.0 r.body)

no_faults : list_all has_no_fault rule_table ≡ true
unfolding has_no_fault
no_faults = refl

typed-rule : (r : Rule) → has_no_fault r ≡ true → Typed r.cost.head.0 r.body
unfolding has_no_fault
typed-rule r h = go (body_fault r.cost.head.0 r.body) h (body_fault-tells r.cost.head.0 r.body)
  where
    go : (o : Option ℕ) → is_none o ≡ true → Tells r.cost.head.0 r.body o → Typed r.cost.head.0 r.body
    go None e t = t
    go (Some n) e t = absurd (cc)

typed-all : (rs : List Rule) → list_all has_no_fault rs ≡ true → AreTyped rs
typed-all [] h = All-nil (λ r. Typed r.cost.head.0 r.body)
typed-all (r ∷ rs) h = let e = both-true (has_no_fault r) (list_all has_no_fault rs) h in All-cons (λ r. Typed r.cost.head.0 r.body) r rs (typed-rule r e.0) (typed-all rs e.1)

pub rules_are_typed : AreTyped rule_table
rules_are_typed = typed-all rule_table no_faults

counted-all : (n : ℕ) (ls : List Line) → AreCounted (rules_from n ls)
counted-all n [] = All-nil (λ r. r.cost.calls ≡ all_occurrences r.body.steps)
counted-all n (l ∷ ls) = All-cons (λ r. r.cost.calls ≡ all_occurrences r.body.steps) (rule_of n l) (rules_from (n + 1) ls) refl (counted-all (n + 1) ls)

pub rules_are_counted : AreCounted rule_table
rules_are_counted = counted-all 1 lines

numbered-from : (n : ℕ) (ls : List Line) (i : ℕ) (r : Rule) → slice_get (rules_from n ls) i ≡ Some r → r.cost.no.0 ≡ i + n
numbered-from n [] i r e = absurd (none≢some e)
numbered-from n (l ∷ ls) zero r e = ap (λ (s : Rule). s.cost.no.0) (sym (some_inner e)) ∙ omega arith
numbered-from n (l ∷ ls) (suc i) r e = numbered-from (n + 1) ls i r e ∙ omega arith

pub rules_are_numbered : AreNumbered rule_table
rules_are_numbered i r e = numbered-from 1 lines i r e

-- the costs of the rules are costs
pub costs_are : AreCosts (map (λ (r : Rule). r.cost) rule_table)
costs_are = costs_pass (map (λ (r : Rule). r.cost) rule_table) refl refl

-- the loop that joins costs and bodies
pub joined-more : (cs : List RuleCost) (bs : List BodyCode) (i : ℕ) (d : RuleCost) (e : BodyCode) → i < length cs → i < length bs
    → take (i + 1) (joined cs bs) ≡ take i (joined cs bs) ++ record { cost = get_or cs i d; body = body_of (get_or bs i e) } ∷ []
joined-more [] bs i d e p q = absurd (omega arith)
joined-more (c ∷ cs) [] i d e p q = absurd (omega arith)
joined-more (c ∷ cs) (b ∷ bs) zero d e p q = refl
joined-more (c ∷ cs) (b ∷ bs) (suc i) d e p q =
    let more : suc i + 1 ≡ suc (i + 1) = omega arith in
    ap (λ n. take n (joined (c ∷ cs) (b ∷ bs))) more ∙ ap (λ rs. record { cost = c; body = body_of b } ∷ rs) (joined-more cs bs i d e (omega arith) (omega arith))

pub joined-step : (cs : List RuleCost) (bs : List BodyCode) (i : ℕ) (d : RuleCost) (e : BodyCode) (rules next : List Rule) (body : Body) → i < 59 → length cs ≡ 59 → length bs ≡ 59 → rules ≡ take i (joined cs bs) → body ≡ body_of (get_or bs i e)
    → next ≡ rules ++ record { cost = get_or cs i d; body = body } ∷ [] → next ≡ take (i + 1) (joined cs bs)
joined-step cs bs i d e rules next body inside many long before is pushed =
    let to : Body → List Rule = λ b. take i (joined cs bs) ++ record { cost = get_or cs i d; body = b } ∷ [] in
    pushed ∙ ap (λ rs. rs ++ record { cost = get_or cs i d; body = body } ∷ []) before ∙ ap to is ∙ sym (joined-more cs bs i d e (omega arith) (omega arith))
