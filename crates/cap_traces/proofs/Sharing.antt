-- Traces whose events stand in histories block by block: each session's are found there again.
use Rattle.std.proofs.Common.{◌≡◌, ℕ, suc, ◌+◌, ◌<◌, ◌≤◌, ◌==◌, cond, List, [], ◌∷◌, ◌++◌, length, refl, sym, ap, ◌∙◌, arith, eq-eqb, ne_eqb}
use Rattle.std.specs.List.{All}
use Rattle.std.proofs.lemmas.List.{append-nil}
use Rattle.std.proofs.lemmas.List.Elements.{All-nil, All-cons, All-head, All-tail, All-append, All-weaker, filter-append}
use Rattle.cap_names.specs.declared.identifiers.SessionNo.{SessionNo}
use Rattle.cap_history.specs.declared.entries.Entry.{Entry}
use Rattle.cap_report.specs.declared.report.Trace.{Trace}
use Rattle.cap_accounts.specs.Accounts.{of_category, of_session}
use Rattle.cap_traces.proofs.Owners.{IsOf, IsEventOf, category-own}

-- what traces did in a category, one after another
abbrev pub together : {O M : Type 0} → ℕ → List (Trace O M) → List (Entry O M)
together c [] = []
together c (t ∷ ts) = of_category c t.events ++ together c ts

-- the sessions count from a number, and the events of each are its own
abbrev pub AreApart : {O M : Type 0} → ℕ → List (Trace O M) → Type 0
AreApart n [] = Unit {0}
AreApart n (t ∷ ts) = (t.session.0 ≡ n) × All (IsEventOf t.session) t.events × AreApart (suc n) ts

-- an entry of the session with this number
abbrev pub HasNumber : {O M : Type 0} → ℕ → Entry O M → Type 0
HasNumber n e = e.session.0 ≡ n

abbrev pub IsFrom : {O M : Type 0} → ℕ → Entry O M → Type 0
IsFrom n e = n ≤ e.session.0

abbrev pub IsBelow : {O M : Type 0} → ℕ → Entry O M → Type 0
IsBelow n e = e.session.0 < n

abbrev IsOther : {O M : Type 0} → ℕ → Entry O M → Type 0
IsOther n e = e.session.0 ≡ n → ⊥

-- a session's events stand in a history
abbrev pub IsShared : {O M : Type 0} → (ℕ → List (Entry O M)) → Trace O M → Type 0
IsShared histories t = (c : ℕ) → of_category c t.events ≡ of_session t.session.0 (histories c)

abbrev IsSharedFrom : {O M : Type 0} → ℕ → (ℕ → List (Entry O M)) → Trace O M → Type 0
IsSharedFrom n histories t = (n ≤ t.session.0) × IsShared histories t

module _ {O M : Type 0} where
  number-own : (session : SessionNo) (n : ℕ) (e : Entry O M) → session.0 ≡ n → IsOf session e → HasNumber n e
  number-own session n e number is = ap (λ (s : SessionNo). s.0) is ∙ number

  number-from : (n : ℕ) (e : Entry O M) → HasNumber n e → IsFrom n e
  number-from n e is = omega (arith, is)

  from-lower : (n : ℕ) (e : Entry O M) → IsFrom (suc n) e → IsFrom n e
  from-lower n e le = omega (arith, le)

  number-below : (n k : ℕ) (e : Entry O M) → HasNumber n e → IsBelow (n + suc k) e
  number-below n k e is = omega (arith, is)

  below-next : (n k : ℕ) (e : Entry O M) → IsBelow (suc n + k) e → IsBelow (n + suc k) e
  below-next n k e lt = omega (arith, lt)

  from-other : (n s : ℕ) (e : Entry O M) → s ≡ n → IsFrom (suc n) e → IsOther s e
  from-other n s e number le is = omega (arith, number, le, is)

  number-other : (n s : ℕ) (e : Entry O M) → suc n ≤ s → HasNumber n e → IsOther s e
  number-other n s e le number is = omega (arith, number, le, is)

  pub block : (n c : ℕ) (t : Trace O M) → t.session.0 ≡ n → All (IsEventOf t.session) t.events → All (HasNumber n) (of_category c t.events)
  block n c t number own = All-weaker (IsOf t.session) (HasNumber n) (λ e is. number-own t.session n e number is) (of_category c t.events) (category-own t.session c t.events own)

  pub above : (n c : ℕ) (ts : List (Trace O M)) → AreApart n ts → All (IsFrom n) (together c ts)
  above n c [] a = All-nil (IsFrom n)
  above n c (t ∷ ts) (number, own, rest) =
      All-append (IsFrom n) (of_category c t.events) (together c ts)
      (All-weaker (HasNumber n) (IsFrom n) (number-from n) (of_category c t.events) (block n c t number own))
      (All-weaker (IsFrom (suc n)) (IsFrom n) (from-lower n) (together c ts) (above (suc n) c ts rest))

  pub below : (n c : ℕ) (ts : List (Trace O M)) → AreApart n ts → All (IsBelow (n + length ts)) (together c ts)
  below n c [] a = All-nil (IsBelow (n + 0))
  below n c (t ∷ ts) (number, own, rest) =
      All-append (IsBelow (n + suc (length ts))) (of_category c t.events) (together c ts)
      (All-weaker (HasNumber n) (IsBelow (n + suc (length ts))) (number-below n (length ts)) (of_category c t.events) (block n c t number own))
      (All-weaker (IsBelow (suc n + length ts)) (IsBelow (n + suc (length ts))) (below-next n (length ts)) (together c ts) (below (suc n) c ts rest))

  filter-whole : (s : ℕ) (es : List (Entry O M)) → All (HasNumber s) es → of_session s es ≡ es
  filter-whole s [] h = refl
  filter-whole s (e ∷ es) h =
      ap (λ b. cond b (e ∷ of_session s es) (of_session s es)) (eq-eqb e.session.0 s (All-head (HasNumber s) e es h))
      ∙ ap (λ l. e ∷ l) (filter-whole s es (All-tail (HasNumber s) e es h))

  filter-none : (s : ℕ) (es : List (Entry O M)) → All (IsOther s) es → of_session s es ≡ []
  filter-none s [] h = refl
  filter-none s (e ∷ es) h =
      ap (λ b. cond b (e ∷ of_session s es) (of_session s es)) (ne_eqb e.session.0 s (All-head (IsOther s) e es h))
      ∙ filter-none s es (All-tail (IsOther s) e es h)

  session-append : (s : ℕ) (xs ys : List (Entry O M)) → of_session s (xs ++ ys) ≡ of_session s xs ++ of_session s ys
  session-append s xs ys = filter-append (λ (e : Entry O M). e.session.0 == s) xs ys

  -- a session's own events are those of its number, where all others have others
  first-shared : (n c : ℕ) (t : Trace O M) (ts : List (Trace O M)) → t.session.0 ≡ n → All (IsEventOf t.session) t.events → AreApart (suc n) ts
      → of_category c t.events ≡ of_session t.session.0 (of_category c t.events ++ together c ts)
  first-shared n c t ts number own rest =
      let s = t.session.0 in
      let mine = filter-whole s (of_category c t.events) (block s c t refl own) in
      let others = filter-none s (together c ts) (All-weaker (IsFrom (suc n)) (IsOther s) (λ e le. from-other n s e number le) (together c ts) (above (suc n) c ts rest)) in
      sym (session-append s (of_category c t.events) (together c ts)
      ∙ ap (λ l. l ++ of_session s (together c ts)) mine
      ∙ ap (λ l. of_category c t.events ++ l) others
      ∙ append-nil (of_category c t.events))

  later-shared : (n c : ℕ) (t u : Trace O M) (ts : List (Trace O M)) → t.session.0 ≡ n → All (IsEventOf t.session) t.events → suc n ≤ u.session.0
      → of_session u.session.0 (of_category c t.events ++ together c ts) ≡ of_session u.session.0 (together c ts)
  later-shared n c t u ts number own le =
      let s = u.session.0 in
      let first = filter-none s (of_category c t.events) (All-weaker (HasNumber n) (IsOther s) (λ e is. number-other n s e le is) (of_category c t.events) (block n c t number own)) in
      session-append s (of_category c t.events) (together c ts) ∙ ap (λ l. l ++ of_session s (together c ts)) first

  shared-from : (n : ℕ) (ts : List (Trace O M)) → AreApart n ts → All (IsSharedFrom n (λ c. together c ts)) ts
  shared-from n [] a = All-nil (IsSharedFrom n (λ c. []))
  shared-from n (t ∷ ts) (number, own, rest) =
      All-cons (IsSharedFrom n (λ c. of_category c t.events ++ together c ts)) t ts
      (omega (arith, number), λ c. first-shared n c t ts number own rest)
      (All-weaker (IsSharedFrom (suc n) (λ c. together c ts)) (IsSharedFrom n (λ c. of_category c t.events ++ together c ts))
      (λ u is. (omega (arith, is.0), λ c. is.1 c ∙ sym (later-shared n c t u ts number own is.0))) ts (shared-from (suc n) ts rest))

  pub shared : (n : ℕ) (ts : List (Trace O M)) → AreApart n ts → All (IsShared (λ c. together c ts)) ts
  shared n ts a = All-weaker (IsSharedFrom n (λ c. together c ts)) (IsShared (λ c. together c ts)) (λ t is. is.1) ts (shared-from n ts a)

  -- those of the first session come first
  pub first-part : (n c : ℕ) (t : Trace O M) (ts : List (Trace O M)) → AreApart n (t ∷ ts) → (rest : List (Entry O M)) × (together c (t ∷ ts) ≡ of_session n (together c (t ∷ ts)) ++ rest)
  first-part n c t ts (number, own, rest) = (
    together c ts,
    ap (λ l. l ++ together c ts) (first-shared n c t ts number own rest ∙ ap (λ s. of_session s (together c (t ∷ ts))) number),
  )
