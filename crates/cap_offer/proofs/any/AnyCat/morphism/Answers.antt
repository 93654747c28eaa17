use Rattle.std.proofs.Common.{rules, ◌≡◌, true, sym, ◌∙◌, subst}
use Rattle.cap_field.specs.Residue.{is_tabled}
use Rattle.cap_offer.specs.Labels.{prime_of_label}
use Rattle.cap_offer.specs.Laws.{IsTabled}
use Rattle.cap_offer.specs.Literals.{Gives, morphism_literal}
use Rattle.cap_offer.proofs.Offers.{answer-arrow}
use Rattle.cap_offer.proofs.any.AnyCat.morphism.Goals as goal

pub returns-clause-arrow : goal.returns-clause-arrow
returns-clause-arrow c =
    let same : c.prime.result ≡ prime_of_label c.args.self.now = search rules in
    let tabled : IsTabled c.args.self.now = subst (λ p. is_tabled p ≡ true) (sym c.prime.ensures.value ∙ same) c.prime.ensures.tabled in
    let gives : Gives (morphism_literal c.args.self.now c.args.a.now c.args.b.now c.args.lit.now) c.read_matrix.result = search rules in
    answer-arrow c.args.self.now c.args.a.now c.args.b.now c.args.lit.now c.read_matrix.result tabled c.requires.source c.requires.target gives
