-- Meanings in the category with one object whose morphisms are the residues modulo 5: right answers have them, wrong ones have not.
use Rattle.std.proofs.Common.{◌≡◌, ℕ, ◌+◌, ◌*◌, ◌%◌, ◌<◌, ◌∙◌, refl, sym, ap, subst, arith, true, false, [], ◌∷◌}
use Rattle.std.specs.Prelude.{slice_index}
use Rattle.cap_laws.specs.Linear.{IsLinear, Arrow}
use Rattle.cap_laws.specs.Universal.{IsInverse, IsIso}
use Rattle.cap_laws.specs.Table.{IsCombination, Combination}
use Rattle.cap_laws.specs.Scalars.{scalar_table, scalar_data, scalar as residue, value_of, scalar-of, scalar_linear}
use Rattle.cap_laws.proofs.Calculus.{same, back, ◌⟫◌ as join, unit-right, compose-zero, negate-arrow, subtract-arrow}
use Rattle.cap_laws.proofs.Isos.{iso-mono}
use Rattle.cap_rule_laws.proofs.SoundEnds.{from-source, to-target, own-arrow}
use Rattle.cap_ops.specs.Values.{object, morphism, truth, scalar, none}
use Rattle.cap_ops.specs.Meaning.{Meaning, Cospan}

linear : IsLinear (scalar_data 5)
linear = scalar_linear 5 refl

is-residue : (n : ℕ) → n < 5 → IsCombination (scalar_table 5) (residue n)
is-residue n h = record { from = omega arith; to = omega arith; row = record { long = refl; residues = λ k b. subst (λ i. slice_index (n ∷ []) i < 5) (let e : 0 ≡ k = omega (arith, b) in e) h } }

arrow : (n : ℕ) → n < 5 → Arrow (scalar_data 5) 0 0 (residue n)
arrow n h = record { is = is-residue n h; from = refl; to = refl }

-- unequal residues are not congruent
unequal : {m n : ℕ} → residue m ≡ residue n → m ≡ n
unequal e = ap value_of e

-- 0 is a multiple of nothing else
nothing-times-zero : (u : Combination) → IsCombination (scalar_table 5) u → (scalar_data 5).compose u (residue 0) ≡ residue 1 → ⊥
nothing-times-zero u h e =
    let v = value_of u in
    let z : 0 + (0 + v * 0 * 1) ≡ 0 = omega arith in
    let s : (scalar_data 5).compose u (residue 0) ≡ residue 0 = ap (λ f. (scalar_data 5).compose f (residue 0)) (scalar-of 5 u h) ∙ ap (λ n. residue (n % 5)) z in
    let one : 0 ≡ 1 = unequal (sym s ∙ e) in
    omega (arith, one)

-- 2·3 = 1, and not 2
compose-right : Meaning (scalar_data 5) 2 (morphism (residue 2) ∷ morphism (residue 3) ∷ []) (morphism (residue 1))
compose-right e = record { left = record { is = is-residue 1 (omega arith); from = e.first.from; to = e.second.to }; right = linear.compose_arrow e.first e.second; congruent = refl }

compose-wrong : Meaning (scalar_data 5) 2 (morphism (residue 2) ∷ morphism (residue 3) ∷ []) (morphism (residue 2)) → ⊥
compose-wrong h =
    let s = h (record { a = 0; b = 0; c = 0; first = arrow 2 (omega arith); second = arrow 3 (omega arith) }) in
    let e : 2 ≡ 1 = unequal s.congruent in
    omega (arith, e)

-- 0 is 0, and not 1
zero-right : Meaning (scalar_data 5) 3 (object 0 ∷ object 0 ∷ []) (morphism (residue 0))
zero-right e = record { left = arrow 0 (omega arith); right = linear.zero_arrow 0 0 e.first e.second; congruent = refl }

zero-wrong : Meaning (scalar_data 5) 3 (object 0 ∷ object 0 ∷ []) (morphism (residue 1)) → ⊥
zero-wrong h = let e : 1 ≡ 0 = unequal (h (record { first = omega arith; second = omega arith })).congruent in omega (arith, e)

-- 2 + 4 = 1, and not 2
add-right : Meaning (scalar_data 5) 4 (morphism (residue 2) ∷ morphism (residue 4) ∷ []) (morphism (residue 1))
add-right e = record { left = record { is = is-residue 1 (omega arith); from = e.first.from; to = e.first.to }; right = linear.add_arrow e.first e.second; congruent = refl }

add-wrong : Meaning (scalar_data 5) 4 (morphism (residue 2) ∷ morphism (residue 4) ∷ []) (morphism (residue 2)) → ⊥
add-wrong h = let e : 2 ≡ 1 = unequal (h (record { a = 0; b = 0; first = arrow 2 (omega arith); second = arrow 4 (omega arith) })).congruent in omega (arith, e)

-- −2 = 3, and not 2
negate-right : Meaning (scalar_data 5) 5 (morphism (residue 2) ∷ []) (morphism (residue 3))
negate-right e = record { left = record { is = is-residue 3 (omega arith); from = e.arrow.from; to = e.arrow.to }; right = negate-arrow linear e.arrow; congruent = refl }

negate-wrong : Meaning (scalar_data 5) 5 (morphism (residue 2) ∷ []) (morphism (residue 2)) → ⊥
negate-wrong h = let e : 2 ≡ 3 = unequal (h (record { a = 0; b = 0; arrow = arrow 2 (omega arith) })).congruent in omega (arith, e)

-- 1 − 3 = 3; the difference the other way round is 2
subtract-right : Meaning (scalar_data 5) 6 (morphism (residue 1) ∷ morphism (residue 3) ∷ []) (morphism (residue 3))
subtract-right e = record { left = record { is = is-residue 3 (omega arith); from = e.first.from; to = e.first.to }; right = subtract-arrow linear e.first e.second; congruent = refl }

subtract-wrong : Meaning (scalar_data 5) 6 (morphism (residue 1) ∷ morphism (residue 3) ∷ []) (morphism (residue 2)) → ⊥
subtract-wrong h = let e : 2 ≡ 3 = unequal (h (record { a = 0; b = 0; first = arrow 1 (omega arith); second = arrow 3 (omega arith) })).congruent in omega (arith, e)

-- 3·2 = 1, and not 2
scale-right : Meaning (scalar_data 5) 7 (scalar 3 ∷ morphism (residue 2) ∷ []) (morphism (residue 1))
scale-right e = record { left = record { is = is-residue 1 (omega arith); from = e.arrow.from; to = e.arrow.to }; right = linear.scale_arrow 3 e.arrow; congruent = refl }

scale-wrong : Meaning (scalar_data 5) 7 (scalar 3 ∷ morphism (residue 2) ∷ []) (morphism (residue 2)) → ⊥
scale-wrong h = let e : 2 ≡ 1 = unequal (h (record { a = 0; b = 0; arrow = arrow 2 (omega arith) })).congruent in omega (arith, e)

-- 2 and 3 are not congruent, and each is to itself
congruent-right : Meaning (scalar_data 5) 8 (morphism (residue 2) ∷ morphism (residue 2) ∷ []) (truth true)
congruent-right e = record { left = e.first; right = e.second; congruent = refl }

congruent-wrong : Meaning (scalar_data 5) 8 (morphism (residue 2) ∷ morphism (residue 2) ∷ []) (truth false) → ⊥
congruent-wrong h = h (record { a = 0; b = 0; first = arrow 2 (omega arith); second = arrow 2 (omega arith) }) (same linear (arrow 2 (omega arith)))

incongruent-right : Meaning (scalar_data 5) 8 (morphism (residue 2) ∷ morphism (residue 3) ∷ []) (truth false)
incongruent-right e s = let e : 2 ≡ 3 = unequal s.congruent in omega (arith, e)

incongruent-wrong : Meaning (scalar_data 5) 8 (morphism (residue 2) ∷ morphism (residue 3) ∷ []) (truth true) → ⊥
incongruent-wrong h = let e : 2 ≡ 3 = unequal (h (record { a = 0; b = 0; first = arrow 2 (omega arith); second = arrow 3 (omega arith) })).congruent in omega (arith, e)

-- 2 is not 0
is-zero-right : Meaning (scalar_data 5) 9 (morphism (residue 2) ∷ []) (truth false)
is-zero-right = own-arrow _ (λ F s. let e : 2 ≡ 0 = unequal s.congruent in omega (arith, e))

is-zero-wrong : Meaning (scalar_data 5) 9 (morphism (residue 2) ∷ []) (truth true) → ⊥
is-zero-wrong h = let e : 2 ≡ 0 = unequal (h (record { a = 0; b = 0; arrow = arrow 2 (omega arith) })).congruent in omega (arith, e)

-- a kernel of 0 is 1; 0 is none, since it does not tell 0 from 1
kernel-right : Meaning (scalar_data 5) 16 (morphism (residue 0) ∷ []) (morphism (residue 1))
kernel-right = own-arrow _ (λ F. (
  0,
  record {
    arrow = arrow 1 (omega arith);
    zero = compose-zero linear (arrow 1 (omega arith)) (omega arith);
    lift = λ {x} {t} T z. record {
      by = t;
      arrow = T;
      holds = unit-right linear T;
      only = λ V W s u. join linear (back linear (unit-right linear V)) (join linear s (join linear (back linear u) (unit-right linear W)));
    };
  },
))

kernel-wrong : Meaning (scalar_data 5) 16 (morphism (residue 0) ∷ []) (morphism (residue 0)) → ⊥
kernel-wrong h =
    let K = h (record { a = 0; b = 0; arrow = arrow 0 (omega arith) }) in
    let w = K.1.lift (arrow 1 (omega arith)) (compose-zero linear (arrow 1 (omega arith)) (omega arith)) in
    nothing-times-zero w.by w.arrow.is w.holds.congruent

-- a lift of 1 along 2 is 3, and not 2; along 0 there is none
lift-right : Meaning (scalar_data 5) 22 (morphism (residue 1) ∷ morphism (residue 2) ∷ []) (morphism (residue 3))
lift-right e = record {
  arrow = record { is = is-residue 3 (omega arith); from = e.first.from; to = e.second.from };
  is = record { left = record { is = is-residue 1 (omega arith); from = e.first.from; to = e.first.to }; right = e.first; congruent = refl };
}

lift-wrong : Meaning (scalar_data 5) 22 (morphism (residue 1) ∷ morphism (residue 2) ∷ []) (morphism (residue 2)) → ⊥
lift-wrong h =
    let e : 4 ≡ 1 = unequal (h (record { a = 0; b = 0; c = 0; first = arrow 1 (omega arith); second = arrow 2 (omega arith) })).is.congruent in
    omega (arith, e)

lift-not-none : Meaning (scalar_data 5) 22 (morphism (residue 1) ∷ morphism (residue 2) ∷ []) none → ⊥
lift-not-none h =
    let e : Cospan (scalar_data 5) (residue 1) (residue 2) = record { a = 0; b = 0; c = 0; first = arrow 1 (omega arith); second = arrow 2 (omega arith) } in
    h e (residue 3) (lift-right e)

no-lift-right : Meaning (scalar_data 5) 22 (morphism (residue 1) ∷ morphism (residue 0) ∷ []) none
no-lift-right e u U = nothing-times-zero u U.arrow.is U.is.congruent

-- 2 has the inverse 3, and is mono; 0 is not
inverse-of-two : {a b : ℕ} → Arrow (scalar_data 5) a b (residue 2) → IsInverse (scalar_data 5) a b (residue 2) (residue 3)
inverse-of-two {a} {b} F = from-source (λ a F. IsInverse (scalar_data 5) a b (residue 2) (residue 3)) (λ F. to-target (λ b F. IsInverse (scalar_data 5) 0 b (residue 2) (residue 3)) (λ F. record {
  arrow = arrow 3 (omega arith);
  left = record { left = arrow 1 (omega arith); right = arrow 1 (omega arith); congruent = refl };
  right = record { left = arrow 1 (omega arith); right = arrow 1 (omega arith); congruent = refl };
}) b F) a F

inverse-right : Meaning (scalar_data 5) 29 (morphism (residue 2) ∷ []) (morphism (residue 3))
inverse-right e = inverse-of-two e.arrow

inverse-wrong : Meaning (scalar_data 5) 29 (morphism (residue 2) ∷ []) (morphism (residue 2)) → ⊥
inverse-wrong h = let e : 4 ≡ 1 = unequal (h (record { a = 0; b = 0; arrow = arrow 2 (omega arith) })).left.congruent in omega (arith, e)

inverse-not-none : Meaning (scalar_data 5) 29 (morphism (residue 2) ∷ []) none → ⊥
inverse-not-none h = h (record { a = 0; b = 0; arrow = arrow 2 (omega arith) }) (residue 3) (inverse-of-two (arrow 2 (omega arith)))

iso-of-two : {a b : ℕ} → Arrow (scalar_data 5) a b (residue 2) → IsIso (scalar_data 5) a b (residue 2)
iso-of-two F = record { arrow = F; inverse = residue 3; is = inverse-of-two F }

iso-right : Meaning (scalar_data 5) 26 (morphism (residue 2) ∷ []) (truth true)
iso-right e = iso-of-two e.arrow

iso-wrong : Meaning (scalar_data 5) 26 (morphism (residue 2) ∷ []) (truth false) → ⊥
iso-wrong h = h (record { a = 0; b = 0; arrow = arrow 2 (omega arith) }) (iso-of-two (arrow 2 (omega arith)))

mono-right : Meaning (scalar_data 5) 24 (morphism (residue 2) ∷ []) (truth true)
mono-right e = iso-mono linear (iso-of-two e.arrow)

mono-wrong : Meaning (scalar_data 5) 24 (morphism (residue 2) ∷ []) (truth false) → ⊥
mono-wrong h = h (record { a = 0; b = 0; arrow = arrow 2 (omega arith) }) (iso-mono linear (iso-of-two (arrow 2 (omega arith))))

zero-not-mono : Meaning (scalar_data 5) 24 (morphism (residue 0) ∷ []) (truth false)
zero-not-mono = own-arrow _ (λ F m. let e : 1 ≡ 0 = unequal (m.cancel (arrow 1 (omega arith)) (compose-zero linear (arrow 1 (omega arith)) (omega arith))).congruent in omega (arith, e))
