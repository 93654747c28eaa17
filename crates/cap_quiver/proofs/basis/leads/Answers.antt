use Rattle.std.proofs.Common.{◌≡◌, ◌+◌, ◌++◌, ◌∷◌, [], length, rules, sym, ap, ◌∙◌, subst, arith}
use Rattle.std.proofs.lemmas.List.{length_push}
use Rattle.cap_matrix.specs.Grid.{entry}
use Rattle.cap_quiver_laws.specs.ClassTable.{IsLeads}
use Rattle.cap_quiver.proofs.Listed.{leads-push}
use Rattle.cap_quiver.proofs.basis.leads.Goals as goal

pub loop-f-init : goal.loop-f-init
loop-f-init c = record {
  long = search rules;
  leads = record {
    inside = λ f lt. absurd (omega (arith, lt));
    before = λ f j lt lj. absurd (omega (arith, lt));
    some = λ f lt. absurd (omega (arith, lt));
  };
}

pub loop-f-preserved : goal.loop-f-preserved
loop-f-preserved c =
    let g = c.args.rows.now in
    let old = c.loop-f.basis.items in
    let is : c.push.new.self.items ≡ old ++ c.lead.result ∷ [] = search rules in
    record {
      long = ap length is ∙ length_push old c.lead.result ∙ ap (λ n. n + 1) c.loop-f.invariant.long;
      leads = subst (λ l. IsLeads (entry g.entries) g.column_count l) (sym is)
          (leads-push (entry g.entries) g.column_count old c.loop-f.f c.lead.result c.loop-f.invariant.long c.loop-f.invariant.leads c.lead.ensures.inside c.lead.ensures.before c.lead.ensures.some);
    }
