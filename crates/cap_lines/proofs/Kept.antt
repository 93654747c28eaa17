-- A text without its empty lines.
use Rattle.std.proofs.Common.{◌≡◌, ℕ, zero, suc, ◌≤◌, List, [], ◌∷◌, ◌++◌, length, Bool, true, false, refl, sym, ap, ◌∙◌, subst, inl, inr, ⊎_elim, arith}
use Rattle.std.specs.Prelude.{◌⊎◌, ◌&&◌}
use Rattle.cap_reading.proofs.Law.{cond_yes, cond_no}
use Rattle.cap_grammar.specs.declared.symbol.Fixed.TheVariants as word
use Rattle.cap_grammar.specs.declared.symbol.Symbol.{Symbol}
use Rattle.cap_grammar.specs.declared.symbol.Symbol.TheVariants as symbol
use Rattle.cap_grammar.specs.declared.tree.Place.{Place}
use Rattle.cap_grammar.specs.Scripts.{Mark, symbols, is_newline, without_empty_lines}
use Rattle.cap_lines.specs.Marks.{position}

abbrev pub lf : Mark → Bool
lf m = is_newline m.symbol

abbrev pub kept : Bool → List Mark → List Mark
kept b ms = without_empty_lines b ms

abbrev pub newline : Place → Mark
newline p = record { symbol = symbol.Fixed word.Newline; place = p }

-- whether a line begins behind the text
abbrev pub after : Bool → List Mark → Bool
after b [] = b
after b (m ∷ ms) = after (lf m) ms

pub bool_cases : (b : Bool) → (b ≡ true) ⊎ (b ≡ false)
bool_cases true = inl refl
bool_cases false = inr refl

-- what an LF where a line begins leaves is what it leaves as an LF
both_true : (b c : Bool) → (b && c) ≡ true → c ≡ true
both_true true c h = h
both_true false c h = cc

-- the first mark is dropped or kept
pub kept_dropped : (b : Bool) (m : Mark) (ms : List Mark) → (b && lf m) ≡ true → kept b (m ∷ ms) ≡ kept (lf m) ms
kept_dropped b m ms h = cond_yes (b && lf m) (kept true ms) (m ∷ kept (lf m) ms) h ∙ ap (λ c. kept c ms) (sym (both_true b (lf m) h))

pub kept_stays : (b : Bool) (m : Mark) (ms : List Mark) → (b && lf m) ≡ false → kept b (m ∷ ms) ≡ m ∷ kept (lf m) ms
kept_stays b m ms h = cond_no (b && lf m) (kept true ms) (m ∷ kept (lf m) ms) h

pub kept_append : (b : Bool) (p q : List Mark) → kept b (p ++ q) ≡ kept b p ++ kept (after b p) q
kept_append b [] q = refl
kept_append b (m ∷ p) q =
    ⊎_elim
    (λ h. kept_dropped b m (p ++ q) h ∙ kept_append (lf m) p q ∙ ap (λ l. l ++ kept (after (lf m) p) q) (sym (kept_dropped b m p h)))
    (λ h. kept_stays b m (p ++ q) h ∙ ap (λ l. m ∷ l) (kept_append (lf m) p q) ∙ ap (λ l. l ++ kept (after (lf m) p) q) (sym (kept_stays b m p h)))
    (bool_cases (b && lf m))

pub after_append : (b : Bool) (p q : List Mark) → after b (p ++ q) ≡ after (after b p) q
after_append b [] q = refl
after_append b (m ∷ p) q = after_append (lf m) p q

after_yes : (b : Bool) (m : Mark) (ms : List Mark) → (b && lf m) ≡ true → after (lf m) ms ≡ after b ms
after_yes true m ms h = ap (λ c. after c ms) h
after_yes false m ms h = cc

pub after_kept : (b : Bool) (p : List Mark) → after b (kept b p) ≡ after b p
after_kept b [] = refl
after_kept b (m ∷ p) =
    ⊎_elim
    (λ h. ap (after b) (kept_dropped b m p h) ∙ sym (after_yes b m (kept (lf m) p) h) ∙ after_kept (lf m) p)
    (λ h. ap (after b) (kept_stays b m p h) ∙ after_kept (lf m) p)
    (bool_cases (b && lf m))

-- Symbols from where b says whether a line begins to where c says so, without an empty line.
abbrev pub Runs : Bool → List Symbol → Bool → Type 0
Runs b [] c = b ≡ c
Runs b (t ∷ ts) c = ((b && is_newline t) ≡ false) × Runs (is_newline t) ts c

pub runs_append : (b c d : Bool) (p q : List Symbol) → Runs b p c → Runs c q d → Runs b (p ++ q) d
runs_append b c d [] q h k = subst (λ b. Runs b q d) (sym h) k
runs_append b c d (t ∷ p) q h k = (h.0, runs_append (is_newline t) c d p q h.1 k)

pub runs_kept : (b c : Bool) (ms : List Mark) → Runs b (symbols ms) c → kept b ms ≡ ms
runs_kept b c [] h = refl
runs_kept b c (m ∷ ms) h = kept_stays b m ms h.0 ∙ ap (λ l. m ∷ l) (runs_kept (lf m) c ms h.1)

pub runs_after : (b c : Bool) (ms : List Mark) → Runs b (symbols ms) c → after b ms ≡ c
runs_after b c [] h = h
runs_after b c (m ∷ ms) h = runs_after (lf m) c ms h.1

-- what is behind a front of it
pub runs_rest : (b c : Bool) (p q : List Mark) → Runs b (symbols (p ++ q)) c → Runs (after b p) (symbols q) c
runs_rest b c [] q h = h
runs_rest b c (m ∷ p) q h = runs_rest (lf m) c p q h.1

pub runs_front : (b c : Bool) (p q : List Mark) → Runs b (symbols (p ++ q)) c → kept b p ≡ p
runs_front b c [] q h = refl
runs_front b c (m ∷ p) q h = kept_stays b m p h.0 ∙ ap (λ l. m ∷ l) (runs_front (lf m) c p q h.1)

-- Where the kept marks are done and then t, the text is p and then t.
pub record Found (b : Bool) (ms done : List Mark) (t : Mark) : Type 0 where
  pub front : List Mark
  pub rest : List Mark
  pub split : ms ≡ front ++ t ∷ rest
  pub same : kept b front ≡ done
  pub stays : (after b front && lf t) ≡ false

found_step : (b : Bool) (m : Mark) (ms done : List Mark) (t : Mark) (q : List Mark) → (b && lf m) ≡ false → m ∷ kept (lf m) ms ≡ done ++ t ∷ q
    → ((done' : List Mark) → kept (lf m) ms ≡ done' ++ t ∷ q → Found (lf m) ms done' t) → Found b (m ∷ ms) done t
found_step b m ms [] t q stays h again =
    let e : m ≡ t = cc in
    record { front = []; rest = ms; split = ap (λ x. x ∷ ms) e; same = refl; stays = ap (λ x. b && lf x) (sym e) ∙ stays }
found_step b m ms (u ∷ done) t q stays h again =
    let e : m ≡ u = cc in
    let c = again done cc in
    record { front = m ∷ c.front; rest = c.rest; split = ap (λ l. m ∷ l) c.split; same = kept_stays b m c.front stays ∙ (λ i. e i ∷ c.same i); stays = c.stays }

pub find_kept : (b : Bool) (ms done : List Mark) (t : Mark) (q : List Mark) → kept b ms ≡ done ++ t ∷ q → Found b ms done t
find_kept b [] [] t q h = cc
find_kept b [] (s ∷ done) t q h = cc
find_kept b (m ∷ ms) done t q h =
    ⊎_elim
    (λ empty.
    let c = find_kept (lf m) ms done t q (sym (kept_dropped b m ms empty) ∙ h) in
    record { front = m ∷ c.front; rest = c.rest; split = ap (λ l. m ∷ l) c.split; same = kept_dropped b m c.front empty ∙ c.same; stays = c.stays })
    (λ stays. found_step b m ms done t q stays (sym (kept_stays b m ms stays) ∙ h) (λ done' h'. find_kept (lf m) ms done' t q h'))
    (bool_cases (b && lf m))

-- Where a symbol stands.
pub position_dropped : (b : Bool) (t : Symbol) (ts : List Symbol) (n : ℕ) → (b && is_newline t) ≡ true → position b (t ∷ ts) n ≡ suc (position (is_newline t) ts n)
position_dropped b t ts zero h = cond_yes (b && is_newline t) (suc (position (is_newline t) ts zero)) 0 h
position_dropped b t ts (suc n) h = ap (λ k. suc (position (is_newline t) ts k)) (cond_yes (b && is_newline t) (suc n) n h)

pub position_here : (b : Bool) (t : Symbol) (ts : List Symbol) → (b && is_newline t) ≡ false → position b (t ∷ ts) 0 ≡ 0
position_here b t ts h = cond_no (b && is_newline t) (suc (position (is_newline t) ts zero)) 0 h

pub position_later : (b : Bool) (t : Symbol) (ts : List Symbol) (n : ℕ) → (b && is_newline t) ≡ false → position b (t ∷ ts) (suc n) ≡ suc (position (is_newline t) ts n)
position_later b t ts n h = ap (λ k. suc (position (is_newline t) ts k)) (cond_no (b && is_newline t) (suc n) n h)

-- the one behind a front
pub position_front : (b : Bool) (front rest : List Mark) (t : Mark) → (after b front && lf t) ≡ false → position b (symbols (front ++ t ∷ rest)) (length (kept b front)) ≡ length front
position_front b [] rest t stays = position_here b t.symbol (symbols rest) stays
position_front b (m ∷ front) rest t stays =
    ⊎_elim
    (λ h.
    ap (λ l. position b (symbols ((m ∷ front) ++ t ∷ rest)) (length l)) (kept_dropped b m front h)
    ∙ position_dropped b m.symbol (symbols (front ++ t ∷ rest)) (length (kept (lf m) front)) h
    ∙ ap suc (position_front (lf m) front rest t stays))
    (λ h.
    ap (λ l. position b (symbols ((m ∷ front) ++ t ∷ rest)) (length l)) (kept_stays b m front h)
    ∙ position_later b m.symbol (symbols (front ++ t ∷ rest)) (length (kept (lf m) front)) h
    ∙ ap suc (position_front (lf m) front rest t stays))
    (bool_cases (b && lf m))

-- none that is left: the end
end_later : (b : Bool) (m : Mark) (ms : List Mark) (n : ℕ) → (b && lf m) ≡ false → suc (length (kept (lf m) ms)) ≤ n
    → ((k : ℕ) → length (kept (lf m) ms) ≤ k → position (lf m) (symbols ms) k ≡ length ms) → position b (m.symbol ∷ symbols ms) n ≡ suc (length ms)
end_later b m ms zero h le again = absurd (omega arith)
end_later b m ms (suc n) h le again = position_later b m.symbol (symbols ms) n h ∙ ap suc (again n (omega arith))

pub position_end : (b : Bool) (ms : List Mark) (n : ℕ) → length (kept b ms) ≤ n → position b (symbols ms) n ≡ length ms
position_end b [] n le = refl
position_end b (m ∷ ms) n le =
    ⊎_elim
    (λ h. position_dropped b m.symbol (symbols ms) n h ∙ ap suc (position_end (lf m) ms n (subst (λ l. length l ≤ n) (kept_dropped b m ms h) le)))
    (λ h. end_later b m ms n h (subst (λ l. length l ≤ n) (kept_stays b m ms h) le) (λ k. position_end (lf m) ms k))
    (bool_cases (b && lf m))
