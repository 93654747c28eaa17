-- What is read of the whole lines of a text holds of the text.
use Rattle.std.proofs.Common.{◌≡◌, ℕ, zero, suc, ◌+◌, ◌-◌, ◌≤◌, List, [], ◌∷◌, ◌++◌, length, take, Bool, true, false, Err, refl, sym, ap, ◌∙◌, subst, ⊎_elim, arith, append_assoc, length-append}
use Rattle.std.specs.Prelude.{◌&&◌}
use Rattle.std.proofs.lemmas.List.{append-nil, take-append-le}
use Rattle.std.proofs.Math.Seq.{take-length, take-append_seam, take-append-add}
use Rattle.cap_reading.specs.Steps.{Read, whole}
use Rattle.cap_reading.proofs.Law.{Law}
use Rattle.cap_reading.proofs.Whole.{whole_viable, no_value, no_more}
use Rattle.cap_grammar.specs.declared.symbol.Fixed.TheVariants as word
use Rattle.cap_grammar.specs.declared.symbol.Symbol.{Symbol}
use Rattle.cap_grammar.specs.declared.symbol.Symbol.TheVariants as symbol
use Rattle.cap_grammar.specs.declared.tree.Place.{Place}
use Rattle.cap_grammar.specs.declared.tree.Script.{Script}
use Rattle.cap_grammar.specs.Scripts.{Mark, symbols, is_newline, whole_lines, IsScript, IsTextOf, IsFault}
use Rattle.cap_lines.specs.Marks.{position}
use Rattle.cap_lines.proofs.Cuts.{symbols_append, length_symbols, somewhere, symbols_somewhere}
use Rattle.cap_lines.proofs.Kept.{lf, kept, newline, after, bool_cases, kept_append, after_append, after_kept, kept_stays, kept_dropped, Runs, runs_kept, runs_after, runs_rest, find_kept, position_dropped, position_here, position_later, position_front, position_end}
use Rattle.cap_lines.proofs.Exchange.{lined_script, free_script}

-- Texts of the same symbols have whole lines of the same symbols.
kept_same : (b : Bool) (ms ms' : List Mark) → symbols ms ≡ symbols ms' → symbols (kept b ms) ≡ symbols (kept b ms')
kept_same b [] [] e = refl
kept_same b [] (m ∷ ms') e = cc
kept_same b (m ∷ ms) [] e = cc
kept_same b (m ∷ ms) (m' ∷ ms') e =
    let at : m.symbol ≡ m'.symbol = cc in
    let same : lf m ≡ lf m' = ap is_newline at in
    let rest = kept_same (lf m) ms ms' cc in
    ⊎_elim
    (λ h. ap symbols (kept_dropped b m ms h) ∙ rest ∙ ap (λ c. symbols (kept c ms')) same ∙ ap symbols (sym (kept_dropped b m' ms' (ap (λ c. b && c) (sym same) ∙ h))))
    (λ h. ap symbols (kept_stays b m ms h) ∙ (λ i. at i ∷ rest i) ∙ ap (λ c. m'.symbol ∷ symbols (kept c ms')) same ∙ ap symbols (sym (kept_stays b m' ms' (ap (λ c. b && c) (sym same) ∙ h))))
    (bool_cases (b && lf m))

same_lines : (ms ms' : List Mark) (end : Place) (end' : Place) → symbols ms ≡ symbols ms' → symbols (whole_lines ms end) ≡ symbols (whole_lines ms' end')
same_lines ms ms' end end' e =
    kept_same true (ms ++ newline end ∷ []) (ms' ++ newline end' ∷ []) (symbols_append ms (newline end ∷ []) ∙ ap (λ l. l ++ symbol.Fixed word.Newline ∷ []) e ∙ sym (symbols_append ms' (newline end' ∷ [])))

-- Where the front without its empty lines, and more, are a script, the front and more are a text of it.
continues : (front more : List Mark) (end : Place) (s : Script) → IsScript s (kept true front ++ more) → IsTextOf s (front ++ more) end
continues front more end s text =
    let lined = lined_script s (kept true front ++ more) text in
    let rest = subst (λ b. Runs b (symbols more) true) (after_kept true front) (runs_rest true true (kept true front) more lined) in
    let all : kept true (front ++ more) ≡ kept true front ++ more = kept_append true front more ∙ ap (λ l. kept true front ++ l) (runs_kept (after true front) true more rest) in
    let last : after true (front ++ more) ≡ true = after_append true front more ∙ runs_after (after true front) true more rest in
    subst (IsScript s)
    (sym (kept_append true (front ++ more) (newline end ∷ [])
    ∙ ap (λ b. kept true (front ++ more) ++ kept b (newline end ∷ [])) last
    ∙ append-nil (kept true (front ++ more))
    ∙ all))
    text

-- The place among more symbols.
position_fewer : (b : Bool) (ts us : List Symbol) (n : ℕ) → position b (ts ++ us) n ≤ length ts → position b ts n ≡ position b (ts ++ us) n
position_fewer b [] us n le = omega (arith, le)
position_fewer b (t ∷ ts) us zero le =
    ⊎_elim
    (λ h.
    let e = position_dropped b t (ts ++ us) zero h in
    position_dropped b t ts zero h ∙ ap suc (position_fewer (is_newline t) ts us zero (omega (arith, e, le))) ∙ sym e)
    (λ h. position_here b t ts h ∙ sym (position_here b t (ts ++ us) h))
    (bool_cases (b && is_newline t))
position_fewer b (t ∷ ts) us (suc n) le =
    ⊎_elim
    (λ h.
    let e = position_dropped b t (ts ++ us) (suc n) h in
    position_dropped b t ts (suc n) h ∙ ap suc (position_fewer (is_newline t) ts us (suc n) (omega (arith, e, le))) ∙ sym e)
    (λ h.
    let e = position_later b t (ts ++ us) n h in
    position_later b t ts n h ∙ ap suc (position_fewer (is_newline t) ts us n (omega (arith, e, le))) ∙ sym e)
    (bool_cases (b && is_newline t))

one_more : (n : ℕ) → suc n ≡ n + 1
one_more n = omega arith

module _ {r : List Mark → Read Mark Script} {goes : Mark → Bool} (law : Law r IsScript goes) where
  -- Where the lines aren't read no text of the same symbols has a script.
  no_text : (ms : List Mark) (end : Place) (rest : List Mark) → whole r (whole_lines ms end) ≡ Err rest → (ms' : List Mark) → symbols ms' ≡ symbols ms → (end' : Place) (s : Script) → IsTextOf s ms' end' → ⊥
  no_text ms end rest h ms' e end' s text =
      let f = free_script s (whole_lines ms' end') (whole_lines ms end) text (same_lines ms' ms end' end e) in
      no_value law (whole_lines ms end) rest h f.0 f.1

  at_end : (ms : List Mark) (end : Place) → whole r (whole_lines ms end) ≡ Err [] → IsFault (symbols ms) (length (symbols ms))
  at_end ms end h =
      let v = whole_viable law (whole_lines ms end) [] h in
      let all : v.done ≡ whole_lines ms end = sym (v.split ∙ append-nil v.done) in
      let text : IsTextOf v.value (ms ++ newline end ∷ [] ++ v.more) end = continues (ms ++ newline end ∷ []) v.more end v.value (subst (λ l. IsScript v.value (l ++ v.more)) all v.text) in
      record {
        within = omega arith;
        before = (
          ms ++ newline end ∷ [] ++ v.more,
          symbol.Fixed word.Newline ∷ symbols v.more,
          symbols_append (ms ++ newline end ∷ []) v.more ∙ ap (λ l. l ++ symbols v.more) (symbols_append ms (newline end ∷ [])) ∙ append_assoc (symbols ms) (symbol.Fixed word.Newline ∷ []) (symbols v.more) ∙ ap (λ l. l ++ symbol.Fixed word.Newline ∷ symbols v.more) (sym (take-length (symbols ms))),
          end,
          v.value,
          text,
        );
        after = λ lt. absurd (omega arith);
        none = λ ms' e end' s text. no_text ms end [] h ms' e end' s text;
      }

  at_mark : (ms : List Mark) (end : Place) (t : Mark) (q done front rest : List Mark) → whole r (whole_lines ms end) ≡ Err (t ∷ q) → whole_lines ms end ≡ done ++ t ∷ q
      → ms ++ newline end ∷ [] ≡ front ++ t ∷ rest → kept true front ≡ done → (after true front && lf t) ≡ false
      → (more : List Mark) (s : Script) → IsScript s (done ++ more) → IsFault (symbols ms) (length front)
  at_mark ms end t q done front rest h split cut same stays more s text =
      let texts : symbols ms ++ symbol.Fixed word.Newline ∷ [] ≡ symbols front ++ t.symbol ∷ symbols rest = sym (symbols_append ms (newline end ∷ [])) ∙ ap symbols cut ∙ symbols_append front (t ∷ rest) in
      let n : length (ms ++ newline end ∷ []) ≡ length (front ++ t ∷ rest) = ap length cut in
      let k : length ms + 1 ≡ length front + suc (length rest) = omega (arith, n, length-append ms (newline end ∷ []), length-append front (t ∷ rest)) in
      let l : length (symbols front) ≡ length front = length_symbols front in
      let m : length (symbols ms) ≡ length ms = length_symbols ms in
      let upto : take (length front) (symbols ms) ≡ symbols front =
      sym (take-append-le (length front) (symbols ms) (symbol.Fixed word.Newline ∷ []) (omega (arith, k, l, m))) ∙ ap (take (length front)) texts ∙ ap (λ j. take j (symbols front ++ t.symbol ∷ symbols rest)) (sym l) ∙ take-append_seam (symbols front) (t.symbol ∷ symbols rest) in
      record {
        within = omega (arith, k, m);
        before = (front ++ more, symbols more, symbols_append front more ∙ ap (λ l. l ++ symbols more) (sym upto), end, s, continues front more end s (subst (λ l. IsScript s (l ++ more)) (sym same) text));
        after = λ lt on.
            let with_t : take (suc (length front)) (symbols ms) ≡ symbols front ++ t.symbol ∷ [] =
            sym (take-append-le (suc (length front)) (symbols ms) (symbol.Fixed word.Newline ∷ []) (omega (arith, lt))) ∙ ap (take (suc (length front))) texts ∙ ap (λ j. take j (symbols front ++ t.symbol ∷ symbols rest)) (one_more (length front) ∙ ap (λ j. j + 1) (sym l)) ∙ take-append-add (symbols front) (t.symbol ∷ symbols rest) 1 in
            goes_on on.0 on.1 (on.2 ∙ ap (λ l. l ++ on.1) with_t ∙ append_assoc (symbols front) (t.symbol ∷ []) on.1) on.3 on.4 on.5;
        none = λ ms' e end' s text. no_text ms end (t ∷ q) h ms' e end' s text;
      }
    where
      goes_on : (ms' : List Mark) (others : List Symbol) → symbols ms' ≡ symbols front ++ t.symbol ∷ others → (end' : Place) (s' : Script) → IsTextOf s' ms' end' → ⊥
      goes_on ms' others e end' s' text' =
          let own : List Mark = front ++ t ∷ somewhere others in
          let owns : symbols ms' ≡ symbols own = e ∙ ap (λ l. symbols front ++ t.symbol ∷ l) (sym (symbols_somewhere others)) ∙ sym (symbols_append front (t ∷ somewhere others)) in
          let f = free_script s' (whole_lines ms' end') (whole_lines own end') text' (same_lines ms' own end' end' owns) in
          let behind = kept (lf t) (somewhere others ++ newline end' ∷ []) in
          let lines : whole_lines own end' ≡ done ++ t ∷ [] ++ behind =
          ap (kept true) (append_assoc front (t ∷ somewhere others) (newline end' ∷ []))
          ∙ kept_append true front (t ∷ somewhere others ++ newline end' ∷ [])
          ∙ (λ i. same i ++ kept_stays (after true front) t (somewhere others ++ newline end' ∷ []) stays i)
          ∙ sym (append_assoc done (t ∷ []) behind) in
          no_more law done q t (ap (whole r) (sym split) ∙ h) (behind, f.0, subst (IsScript f.0) lines f.1)

  -- The place of the first fault of the lines is that of the text.
  pub text_fault : (ms : List Mark) (end : Place) (rest : List Mark) → whole r (whole_lines ms end) ≡ Err rest → IsFault (symbols ms) (position true (symbols ms) (length (whole_lines ms end) - length rest))
  text_fault ms end [] h =
      let a : length (kept true (ms ++ newline end ∷ [])) ≡ length (kept true ms ++ kept (after true ms) (newline end ∷ [])) = ap length (kept_append true ms (newline end ∷ [])) in
      let p : position true (symbols ms) (length (whole_lines ms end) - 0) ≡ length ms = position_end true ms (length (whole_lines ms end) - 0) (omega (arith, a, length-append (kept true ms) (kept (after true ms) (newline end ∷ [])))) in
      subst (IsFault (symbols ms)) (length_symbols ms ∙ sym p) (at_end ms end h)
  text_fault ms end (t ∷ q) h =
      let v = whole_viable law (whole_lines ms end) (t ∷ q) h in
      let c = find_kept true (ms ++ newline end ∷ []) v.done t q v.split in
      let n : length (whole_lines ms end) ≡ length (v.done ++ t ∷ q) = ap length v.split in
      let k : length (whole_lines ms end) - length (t ∷ q) ≡ length v.done = omega (arith, n, length-append v.done (t ∷ q)) in
      let x : position true (symbols (ms ++ newline end ∷ [])) (length v.done) ≡ length c.front =
      (λ i. position true (symbols (c.split i)) (length (sym c.same i))) ∙ position_front true c.front c.rest t c.stays in
      let y : position true (symbols ms ++ symbol.Fixed word.Newline ∷ []) (length v.done) ≡ length c.front = ap (λ l. position true l (length v.done)) (sym (symbols_append ms (newline end ∷ []))) ∙ x in
      let w : length (ms ++ newline end ∷ []) ≡ length (c.front ++ t ∷ c.rest) = ap length c.split in
      let z : position true (symbols ms) (length v.done) ≡ length c.front =
      position_fewer true (symbols ms) (symbol.Fixed word.Newline ∷ []) (length v.done) (omega (arith, y, w, length-append ms (newline end ∷ []), length-append c.front (t ∷ c.rest), length_symbols ms)) ∙ y in
      subst (IsFault (symbols ms)) (sym (ap (position true (symbols ms)) k ∙ z))
      (at_mark ms end t q v.done c.front c.rest h v.split c.split c.same c.stays v.more v.value v.text)
