-- Columns y with M·y = 0 by the reduced form of M, and that one of them tells a row outside the span.
use Rattle.std.proofs.Common.{◌≡◌, ◌≢◌, ℕ, ◌+◌, ◌-◌, ◌*◌, ◌%◌, ◌<◌, ◌≤◌, eqb, refl, sym, ap, ◌∙◌, arith, ⊎_elim}
use Rattle.std.proofs.lemmas.Bool.{cases_eq, eq-eqb, ne_eqb, cond-true, cond-false}
use Rattle.std.proofs.Math.Nat.{mod_self, mod-add-mod, add-mod, mul-one, one-mul, mul-zero, zero-mul}
use Rattle.cap_matrix.specs.Grid.{total}
use Rattle.cap_matrix.proofs.Sums.{total-one, total-mod}
use Rattle.cap_matrix.specs.Reduced.{InSpan, IsReducedBy}
use Rattle.cap_reduce.specs.NullTable.{IsScanned, null_value}
use Rattle.cap_reduce.proofs.Null.{relation_in_span}
use Rattle.cap_reduce.proofs.NullRows.{without, without-here, without-other, total-split, cancel-mod}
use Rattle.cap_reduce.proofs.Leads.{null_value-free, null_value-lead}

module _ (p r w : ℕ) (u : ℕ → ℕ → ℕ) (lead place free : ℕ → ℕ) (big : 2 ≤ p) (h : IsReducedBy p r w u lead) (s : IsScanned r lead place free r w) where
  module _ (f : ℕ) (fw : f < w) (out : r ≤ place f) where
    abbrev pub value : ℕ → ℕ
    value q = null_value p r u place f q

    value-here : value f ≡ 1
    value-here = null_value-free p r u place f f out ∙ cond-true (eqb f f) 1 0 (eq-eqb f f refl)

    value-lead : (a : ℕ) → a < r → value (lead a) ≡ (p - u a f) % p
    value-lead a la = null_value-lead p r u place f (lead a) a (s.placed a la) la

    value-other : (q : ℕ) → q < w → q ≢ f → ((a : ℕ) → a < r → lead a ≢ q) → value q ≡ 0
    value-other q lt ne none = ⊎_elim
        (λ l. absurd (none l.0 l.1 l.2))
        (λ g. null_value-free p r u place f q (omega (arith, ap place g.2, s.nowhere g.0 g.1)) ∙ cond-false (eqb q f) 1 0 (ne_eqb q f ne))
        (s.every q lt)

    lead_apart : (a : ℕ) → a < r → f ≢ lead a
    lead_apart a la e = omega (arith, ap place e, s.placed a la)

    -- a sum with this column is the entry in column f, and the rest
    value-sum : (v : ℕ → ℕ) → total w (λ c. v c * value c) ≡ v f + total w (without f (λ c. v c * value c))
    value-sum v =
        total-split w f (λ c. v c * value c) fw
        ∙ ap (λ y. y + total w (without f (λ c. v c * value c))) (ap (λ y. v f * y) value-here ∙ mul-one (v f))

    -- each row of the reduced form is 0 at it
    pub row_is_null : (a : ℕ) → a < r → total w (λ c. u a c * value c) % p ≡ 0
    row_is_null a la =
        let g = λ (c : ℕ). u a c * value c in
        let rest : total w (without f g) ≡ (p - u a f) % p =
        total-one w (lead a) (without f g) (h.inside a la)
        (λ q lt ne. ⊎_elim
        (λ e. ap (without f g) e ∙ without-here f g)
        (λ nf. without-other f g q nf ∙ ⊎_elim
        (λ l. ap (λ y. y * value q) (ap (u a) (sym l.2) ∙ h.clear a l.0 la l.1 (λ e. ne (sym l.2 ∙ ap lead (sym e)))) ∙ zero-mul (value q))
        (λ t. ap (λ y. u a q * y) (value-other q lt nf (λ b lb e. let x = s.nowhere t.0 t.1 in let y = s.placed b lb in let z = ap place (e ∙ sym t.2) in omega arith)) ∙ mul-zero (u a q))
        (s.every q lt))
        (cases_eq q f))
        ∙ without-other f g (lead a) (λ e. lead_apart a la (sym e))
        ∙ ap (λ y. y * value (lead a)) (h.one a la) ∙ one-mul (value (lead a)) ∙ value-lead a la in
        ap (λ y. y % p) (value-sum (u a) ∙ ap (λ y. u a f + y) rest ∙ (let e : u a f + (p - u a f) % p ≡ (p - u a f) % p + u a f = omega arith in e))
        ∙ mod-add-mod (p - u a f) p (u a f)
        ∙ ap (λ y. y % p) (let e : p - u a f + u a f ≡ p = omega (arith, h.residues a f la fw) in e)
        ∙ mod_self p

    -- rows that agree at the leads agree in the rest of the sum
    rests_agree : (v t : ℕ → ℕ) → ((a : ℕ) → a < r → v (lead a) ≡ t (lead a))
        → total w (without f (λ c. v c * value c)) % p ≡ total w (without f (λ c. t c * value c)) % p
    rests_agree v t e =
        total-mod p w (without f (λ c. v c * value c)) (without f (λ c. t c * value c))
        (λ q lt. ap (λ y. y % p) (⊎_elim
        (λ same. ap (without f (λ c. v c * value c)) same ∙ without-here f (λ c. v c * value c)
        ∙ sym (ap (without f (λ c. t c * value c)) same ∙ without-here f (λ c. t c * value c)))
        (λ nf. without-other f (λ c. v c * value c) q nf ∙ ⊎_elim
        (λ l. ap (λ y. y * value q) (ap v (sym l.2) ∙ e l.0 l.1 ∙ ap t l.2))
        (λ g. let zero = value-other q lt nf (λ b lb x. let y = s.nowhere g.0 g.1 in let z = s.placed b lb in let k = ap place (x ∙ sym g.2) in omega arith) in
        ap (λ y. v q * y) zero ∙ mul-zero (v q) ∙ sym (ap (λ y. t q * y) zero ∙ mul-zero (t q)))
        (s.every q lt)
        ∙ sym (without-other f (λ c. t c * value c) q nf))
        (cases_eq q f)))

  -- what is 0 at each such column is in the span
  pub span_from_nulls : (v : ℕ → ℕ) → ((f : ℕ) → f < w → r ≤ place f → total w (λ c. v c * null_value p r u place f c) % p ≡ 0) → InSpan p r w u v
  span_from_nulls v nulls =
      let t = λ (c : ℕ). total r (λ k. v (lead k) * u k c) in
      let at_lead : (a : ℕ) → a < r → t (lead a) ≡ v (lead a) =
      λ a la. total-one r a (λ k. v (lead k) * u k (lead a)) la
      (λ k below ne. ap (λ y. v (lead k) * y) (h.clear k a below la ne) ∙ mul-zero (v (lead k)))
      ∙ ap (λ y. v (lead a) * y) (h.one a la) ∙ mul-one (v (lead a)) in (
        λ k. v (lead k),
        λ c lt. ⊎_elim
            (λ l. ap (λ y. t y % p) (sym l.2) ∙ ap (λ y. y % p) (at_lead l.0 l.1) ∙ ap (λ y. v y % p) l.2)
            (λ g.
            let out : r ≤ place c = omega (arith, ap place g.2, s.nowhere g.0 g.1) in
            let rest = total w (without c (λ q. v q * value c lt out q)) in
            let other = total w (without c (λ q. t q * value c lt out q)) in
            let of_t : (t c + rest) % p ≡ 0 =
            add-mod (t c) rest p ∙ ap (λ y. (t c % p + y) % p) (rests_agree c lt out v t (λ a la. sym (at_lead a la))) ∙ sym (add-mod (t c) other p)
            ∙ ap (λ y. y % p) (sym (value-sum c lt out t))
            ∙ relation_in_span p r w u t (value c lt out) (λ k. v (lead k), λ q below. refl) (λ a la. row_is_null c lt out a la) in
            let of_v : (v c + rest) % p ≡ 0 = ap (λ y. y % p) (sym (value-sum c lt out v)) ∙ nulls c lt out in
            cancel-mod p (t c) (v c) rest (omega arith) (of_t ∙ sym of_v))
            (s.every c lt),
      )
