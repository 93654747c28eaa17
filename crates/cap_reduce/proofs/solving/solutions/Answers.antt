use Rattle.std.proofs.Common.{◌≡◌, ◌+◌, ◌*◌, ◌<◌, cond, ltb, length, sym, ap, ◌∙◌, subst, arith, rules, List, ℕ}
use Rattle.std.proofs.lemmas.List.{with_items_is}
use Rattle.cap_reduce.specs.Flat.{cell}
use Rattle.cap_reduce.specs.NullTable.{AreReadOff}
use Rattle.cap_reduce.proofs.Leads.{at}
use Rattle.cap_reduce.proofs.SolveAnswers.{read_off}
use Rattle.cap_reduce.proofs.solving.solutions.Goals as goal

pub returns : goal.returns
returns c = λ p lead R.
    let r = c.args.rank in
    let n = c.args.n in
    let k = c.args.count in
    let u = cell c.args.table.now (n + k) in
    let xs = c.read_solutions.new.xs in
    let place = at c.scan_leads.new.place in
    let long : length xs ≡ c.in_ok-xs.xs.len = omega arith in
    let e : length c.scan_leads.new.place ≡ n = search rules in
    subst (λ (ys : List ℕ). AreReadOff r n k u lead ys) (sym (with_items_is c.in_ok-xs.xs xs long))
    (read_off p r n k u lead place (at c.scan_leads.new.free) xs R (c.scan_leads.ensures p lead R) (omega (arith, long, c.in_ok-xs.ensures.len))
    (subst (λ z. (q i : ℕ) → q < k → i < z → cell xs z q i ≡ cond (ltb (place i) r) (u (place i) (z + q)) 0) e c.read_solutions.ensures))
