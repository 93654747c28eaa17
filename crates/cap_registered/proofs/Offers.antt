-- The default weights are in range.
use Rattle.std.proofs.Common.{◌≡◌, ℕ, ◌<◌, List, Option, Some, None, Bool, true, false, refl, arith}
use Rattle.std.specs.Prelude.{nat_lt, ◌&&◌}
use Rattle.std.specs.List.{All, list_all}
use Rattle.std.proofs.lemmas.List.Elements.{All-weaker}
use Rattle.std.proofs.lemmas.List.Sums.{AllPass-from_list_all}
use Rattle.std.proofs.lemmas.Bool.Decides.{nat_tests}
use Rattle.cap_ops.specs.declared.plans.Kind.{Kind}
use Rattle.cap_ops.specs.declared.plans.Kind.TheVariants.{Mat, Add, Freyd, Rep}
use Rattle.cap_ops.specs.Offered.{offered_weights}
use Rattle.cap_ops.specs.Derivations.{IsWeight}

-- the test of one weight
abbrev is_weight : Option ℕ → Bool
is_weight None = true
is_weight (Some n) = nat_lt 0 n && nat_lt n 1000001

both : (a b : Bool) → (a && b) ≡ true → (a ≡ true) × (b ≡ true)
both true b h = (refl, h)
both false b h = absurd (cc (h))

is_weight-is : (w : Option ℕ) → is_weight w ≡ true → IsWeight w
is_weight-is None h = record { from = λ n e. absurd (cc (e)); to = λ n e. absurd (cc (e)) }
is_weight-is (Some m) h =
    let parts = both (nat_lt 0 m) (nat_lt m 1000001) h in
    let from : 0 < m = grind (arith, nat_tests, parts.0) in
    let to : m < 1000001 = grind (arith, nat_tests, parts.1) in
    record {
      from = λ n e. let same : m ≡ n = cc (e) in omega (arith, same, from);
      to = λ n e. let same : m ≡ n = cc (e) in omega (arith, same, to);
    }

tested : (ws : List (Option ℕ)) → list_all is_weight ws ≡ true → All IsWeight ws
tested ws h = All-weaker (λ w. is_weight w ≡ true) IsWeight is_weight-is ws (AllPass-from_list_all is_weight ws h)

pub offers_ranged : (kind : Kind) → All IsWeight (offered_weights kind)
offers_ranged Mat = tested (offered_weights Mat) refl
offers_ranged Add = tested (offered_weights Add) refl
offers_ranged Freyd = tested (offered_weights Freyd) refl
offers_ranged Rep = tested (offered_weights Rep) refl
