-- Parts of several sessions within one list that has no more entries than all of them together: each is all that the list has of its session, and the list has no other's.
use Rattle.std.proofs.Common.{◌≡◌, ℕ, suc, ◌+◌, ◌<◌, ◌≤◌, cond, ltb, List, [], ◌∷◌, ◌++◌, length, inl, inr, refl, sym, ap, ◌∙◌, subst, arith, eq-eqb, ne_eqb, lt-ltb, le-ltb}
use Rattle.std.specs.List.{All}
use Rattle.std.proofs.lemmas.List.{length-append}
use Rattle.std.proofs.lemmas.List.Elements.{All-nil, All-cons, All-head, All-tail}
use mathlib.Core.Logic.{dite}
use native.Mathlib.Decide.{ℕ_discrete, dec_le}
use Rattle.cap_history.specs.declared.entries.Entry.{Entry}
use Rattle.cap_report.specs.declared.report.Trace.{Trace}
use Rattle.cap_accounts.specs.Accounts.{of_category, of_session}
use Rattle.cap_traces.proofs.Sharing.{together, AreApart, HasNumber, IsBelow, block}
use Rattle.cap_traces.proofs.Within.{IsWithin, within-length, within-whole}

-- how many entries are of sessions from a number on
abbrev from : {O M : Type 0} → ℕ → List (Entry O M) → ℕ
from k [] = 0
from k (e ∷ es) = cond (ltb e.session.0 k) (from k es) (from k es + 1)

-- what a trace did in a category stands within a list, and is all that the list has of its session
abbrev pub StandsIn : {O M : Type 0} → ℕ → List (Entry O M) → Trace O M → Type 0
StandsIn c entries t = IsWithin (of_category c t.events) entries

abbrev pub IsShare : {O M : Type 0} → ℕ → List (Entry O M) → Trace O M → Type 0
IsShare c entries t = of_category c t.events ≡ of_session t.session.0 entries

module _ {O M : Type 0} where
  session-here : (s : ℕ) (e : Entry O M) (es : List (Entry O M)) → e.session.0 ≡ s → of_session s (e ∷ es) ≡ e ∷ of_session s es
  session-here s e es is = ap (λ b. cond b (e ∷ of_session s es) (of_session s es)) (eq-eqb e.session.0 s is)

  session-else : (s : ℕ) (e : Entry O M) (es : List (Entry O M)) → (e.session.0 ≡ s → ⊥) → of_session s (e ∷ es) ≡ of_session s es
  session-else s e es other = ap (λ b. cond b (e ∷ of_session s es) (of_session s es)) (ne_eqb e.session.0 s other)

  from-here : (k : ℕ) (e : Entry O M) (es : List (Entry O M)) → k ≤ e.session.0 → from k (e ∷ es) ≡ from k es + 1
  from-here k e es le = ap (λ b. cond b (from k es) (from k es + 1)) (le-ltb e.session.0 k le)

  from-else : (k : ℕ) (e : Entry O M) (es : List (Entry O M)) → e.session.0 < k → from k (e ∷ es) ≡ from k es
  from-else k e es lt = ap (λ b. cond b (from k es) (from k es + 1)) (lt-ltb e.session.0 k lt)

  from-all : (es : List (Entry O M)) → from 0 es ≡ length es
  from-all [] = refl
  from-all (e ∷ es) = omega (arith, from-here 0 e es (omega arith), from-all es)

  -- those from a number on are those of this number and those from the next
  from-one : (k : ℕ) (es : List (Entry O M)) → length (of_session k es) + from (suc k) es ≡ from k es
  from-one k [] = refl
  from-one k (e ∷ es) = dite (ℕ_discrete e.session.0 k)
      (λ is. omega (arith, ap length (session-here k e es is), from-here k e es (omega (arith, is)), from-else (suc k) e es (omega (arith, is)), from-one k es))
      (λ other. dite (dec_le k e.session.0)
      (λ le. let above : suc k ≤ e.session.0 = omega arith in omega (arith, ap length (session-else k e es other), from-here k e es le, from-here (suc k) e es above, from-one k es))
      (λ not. let below : e.session.0 < k = omega arith in
      let next : e.session.0 < suc k = omega arith in
      omega (arith, ap length (session-else k e es other), from-else k e es below, from-else (suc k) e es next, from-one k es)))

  all-below : (k : ℕ) (es : List (Entry O M)) → from k es ≡ 0 → All (IsBelow k) es
  all-below k [] z = All-nil (IsBelow k)
  all-below k (e ∷ es) z = dite (dec_le k e.session.0)
      (λ le. absurd (omega (arith, z, from-here k e es le)))
      (λ not. let below : e.session.0 < k = omega arith in All-cons (IsBelow k) e es below (all-below k es (sym (from-else k e es below) ∙ z)))

  -- entries of one session within a list are within those of the session
  own-within : (s : ℕ) (own es : List (Entry O M)) → All (HasNumber s) own → IsWithin own es → IsWithin own (of_session s es)
  own-within s own [] h w = w
  own-within s own (e ∷ es) h (inl w) = dite (ℕ_discrete e.session.0 s)
      (λ is. subst (IsWithin own) (sym (session-here s e es is)) (inl (own-within s own es h w)))
      (λ other. subst (IsWithin own) (sym (session-else s e es other)) (own-within s own es h w))
  own-within s own (e ∷ es) h (inr (rest, is, w)) =
      let all = subst (All (HasNumber s)) is h in
      subst (IsWithin own) (sym (session-here s e es (All-head (HasNumber s) e rest all))) (inr (rest, is, own-within s rest es (All-tail (HasNumber s) e rest all) w))

  together-length : (c : ℕ) (t : Trace O M) (ts : List (Trace O M)) → length (together c (t ∷ ts)) ≡ length (of_category c t.events) + length (together c ts)
  together-length c t ts = length-append (of_category c t.events) (together c ts)

  module _ (c : ℕ) (entries : List (Entry O M)) where
    part-within : (n : ℕ) (t : Trace O M) (ts : List (Trace O M)) → AreApart n (t ∷ ts) → All (StandsIn c entries) (t ∷ ts) → IsWithin (of_category c t.events) (of_session n entries)
    part-within n t ts (number, own, rest) w = own-within n (of_category c t.events) entries (block n c t number own) (All-head (StandsIn c entries) t ts w)

    at-most : (n : ℕ) (ts : List (Trace O M)) → AreApart n ts → All (StandsIn c entries) ts → length (together c ts) ≤ from n entries
    at-most n [] a w = omega arith
    at-most n (t ∷ ts) a w =
        omega (
          arith,
          together-length c t ts,
          within-length (of_category c t.events) (of_session n entries) (part-within n t ts a w),
          from-one n entries,
          at-most (suc n) ts a.2 (All-tail (StandsIn c entries) t ts w),
        )

    -- where there are no more, each has all of its session
    module _ (n : ℕ) (t : Trace O M) (ts : List (Trace O M)) (a : AreApart n (t ∷ ts)) (w : All (StandsIn c entries) (t ∷ ts)) (e : length (together c (t ∷ ts)) ≡ from n entries) where
      later-many : length (together c ts) ≡ from (suc n) entries
      later-many =
          omega (
            arith,
            e,
            together-length c t ts,
            within-length (of_category c t.events) (of_session n entries) (part-within n t ts a w),
            from-one n entries,
            at-most (suc n) ts a.2 (All-tail (StandsIn c entries) t ts w),
          )

      first-share : IsShare c entries t
      first-share =
          within-whole (of_category c t.events) (of_session n entries) (part-within n t ts a w) (omega (arith, e, together-length c t ts, later-many, from-one n entries))
          ∙ ap (λ s. of_session s entries) (sym a.0)

    each-share : (n : ℕ) (ts : List (Trace O M)) → AreApart n ts → All (StandsIn c entries) ts → length (together c ts) ≡ from n entries → All (IsShare c entries) ts
    each-share n [] a w e = All-nil (IsShare c entries)
    each-share n (t ∷ ts) a w e = All-cons (IsShare c entries) t ts (first-share n t ts a w e) (each-share (suc n) ts a.2 (All-tail (StandsIn c entries) t ts w) (later-many n t ts a w e))

    none-above : (n : ℕ) (ts : List (Trace O M)) → AreApart n ts → All (StandsIn c entries) ts → length (together c ts) ≡ from n entries → All (IsBelow (n + length ts)) entries
    none-above n [] a w e = let last : n ≡ n + 0 = omega arith in subst (λ k. All (IsBelow k) entries) last (all-below n entries (sym e))
    none-above n (t ∷ ts) a w e =
        let next : suc n + length ts ≡ n + suc (length ts) = omega arith in
        subst (λ k. All (IsBelow k) entries) next (none-above (suc n) ts a.2 (All-tail (StandsIn c entries) t ts w) (later-many n t ts a w e))

    -- sessions that count from 0
    module _ (ts : List (Trace O M)) (a : AreApart 0 ts) (w : All (StandsIn c entries) ts) (e : length entries ≡ length (together c ts)) where
      pub shares : All (IsShare c entries) ts
      shares = each-share 0 ts a w (sym e ∙ sym (from-all entries))

      pub no-others : All (IsBelow (length ts)) entries
      no-others =
          let count : 0 + length ts ≡ length ts = omega arith in
          subst (λ k. All (IsBelow k) entries) count (none-above 0 ts a w (sym e ∙ sym (from-all entries)))
