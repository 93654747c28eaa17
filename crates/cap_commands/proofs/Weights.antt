-- The default weights of each kind may be registered.
use Rattle.std.proofs.Common.{◌≡◌, ℕ, ◌≤◌, Bool, true, false, List, [], ◌∷◌, Option, Some, None, refl, sym, ap, ◌∙◌, subst, arith}
use Rattle.std.specs.Prelude.{◌==◌, ◌++◌, if◌then◌else◌}
use Rattle.cap_names.specs.declared.identifiers.OpId.{OpId}
use Rattle.cap_ops.specs.declared.plans.Kind.TheVariants.{Mat}
use Rattle.cap_ops.specs.declared.plans.TheConstants.{MOST_WEIGHT}
use Rattle.cap_ops.specs.Offered.{offered_by_all, offered_besides, weight_in}
use Rattle.cap_ops.proofs.Places.{none≢some, some_inner}
use Rattle.cap_vec_offer.specs.Members.{offer_weights}
use Rattle.cap_offer.specs.Labels.{Label, vec, any_offer}
use Rattle.cap_session_lines.specs.Doing.{HasWeights}

abbrev IsRanged : ℕ → Type 0
IsRanged n = (1 ≤ n) × (n ≤ MOST_WEIGHT)

abbrev AreRanged : List (OpId × ℕ) → Type 0
AreRanged [] = Unit {0}
AreRanged (x ∷ xs) = IsRanged x.1 × AreRanged xs

chosen-ranged : (b : Bool) (m n : ℕ) (rest : Option ℕ) → IsRanged m → (rest ≡ Some n → IsRanged n) → (if b then Some m else rest) ≡ Some n → IsRanged n
chosen-ranged true m n rest r k e = subst IsRanged (some_inner e) r
chosen-ranged false m n rest r k e = k e

weight-ranged : (offers : List (OpId × ℕ)) → AreRanged offers → (op n : ℕ) → weight_in offers op ≡ Some n → IsRanged n
weight-ranged [] all op n e = absurd (none≢some e)
weight-ranged (x ∷ xs) all op n e = chosen-ranged (x.0.0 == op) x.1 n (weight_in xs op) all.0 (weight-ranged xs all.1 op n) e

one : IsRanged 1
one = (omega arith, omega arith)

two : IsRanged 2
two = (omega arith, omega arith)

five : IsRanged 5
five = (omega arith, omega arith)

twenty : IsRanged 20
twenty = (omega arith, omega arith)

thirty : IsRanged 30
thirty = (omega arith, omega arith)

matrices-ranged : AreRanged (offered_by_all ++ offered_besides Mat)
matrices-ranged = (one, (one, (one, (one, (one, (two, (one, (five, (twenty, (twenty, (twenty, (twenty, (thirty, (thirty, tt))))))))))))))

matrix-ranged : (p op n : ℕ) → (any_offer (vec p)).weight op ≡ Some n → IsRanged n
matrix-ranged p op n e = weight-ranged (offered_by_all ++ offered_besides Mat) matrices-ranged op n (sym (ap (λ (w : ℕ → Option ℕ). w op) (offer_weights p)) ∙ e)

pub has_weights : (x : Label) → HasWeights (any_offer x)
has_weights (vec p) = record { from = λ op n e. (matrix-ranged p op n e).0; to = λ op n e. (matrix-ranged p op n e).1 }
