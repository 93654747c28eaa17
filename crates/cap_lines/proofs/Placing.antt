-- The step of symbols for marks keeps the law of the step.
use Rattle.std.proofs.Common.{◌≡◌, ℕ, ◌-◌, ◌≤◌, length, arith, length-append, List, [], ◌∷◌, ◌++◌, take, drop, Bool, Ok, Err, refl, sym, ap, ◌∙◌, subst}
use Rattle.cap_reading.specs.Steps.{Read}
use Rattle.cap_reading.proofs.Law.{Law, Sound, Viable, Stops, Leads, SameHead, ok_inj, err_inj}
use Rattle.cap_grammar.specs.declared.symbol.Symbol.{Symbol}
use Rattle.cap_grammar.specs.declared.tree.Place.{Place}
use Rattle.cap_grammar.specs.declared.tree.Placed.{Placed}
use Rattle.cap_grammar.specs.Scripts.{Mark, symbols, places, placed}
use Rattle.cap_lines.specs.Marks.{marks, back, placed_at}
use Rattle.cap_lines.proofs.Cuts.{cut_symbols, symbols_append, length_symbols, somewhere, symbols_somewhere, same_head_symbols, stops_symbols, take_front, drop_front, symbols_marks, places_marks, length_marks, drop_marks, places_take}

back_ok : {A : Type 0} (ms : List Mark) (read : Read Symbol A) (x : Placed A × List Mark) → back ms read ≡ Ok x → (y : A × List Symbol) × (read ≡ Ok y)
back_ok ms (Ok y) x h = (y, refl)
back_ok ms (Err l) x h = cc

back_err : {A : Type 0} (ms : List Mark) (read : Read Symbol A) (rest : List Mark) → back ms read ≡ Err rest → (l : List Symbol) × (read ≡ Err l) × (drop (length ms - length l) ms ≡ rest)
back_err ms (Ok y) rest h = cc
back_err {A} ms (Err l) rest h = (l, refl, err_inj {A = Placed A × List Mark} (drop (length ms - length l) ms) rest h)

count : (p q : List Mark) (n : ℕ) → n ≡ length q → length (p ++ q) - n ≡ length p
count p q n h = omega (arith, length-append p q)

-- what is read of marks, by their cut
pub reads : {A : Type 0} (r : List Symbol → Read Symbol A) (a : A) (front rest : List Mark) → r (symbols (front ++ rest)) ≡ Ok (a, symbols rest) → placed_at r (front ++ rest) ≡ Ok (record { node = a; places = places front }, rest)
reads r a front rest h =
    ap (back (front ++ rest)) h
    ∙ (λ i. Ok (
      record { node = a; places = places (take_front front rest (length (front ++ rest) - length (symbols rest)) (count front rest (length (symbols rest)) (length_symbols rest)) i) },
      drop_front front rest (length (front ++ rest) - length (symbols rest)) (count front rest (length (symbols rest)) (length_symbols rest)) i,
    ))

pub fails : {A : Type 0} (r : List Symbol → Read Symbol A) (front rest : List Mark) → r (symbols (front ++ rest)) ≡ Err (symbols rest) → placed_at r (front ++ rest) ≡ Err rest
fails r front rest h =
    ap (back (front ++ rest)) h
    ∙ ap Err (drop_front front rest (length (front ++ rest) - length (symbols rest)) (count front rest (length (symbols rest)) (length_symbols rest)))

module _ {A : Type 0} {r : List Symbol → Read Symbol A} {p : A → List Symbol → Type 0} {goes : Symbol → Bool} (law : Law r p goes) where
  -- where the step of symbols reads, its front is that of some of the marks
  record Read_so (ms : List Mark) (a : A) (l : List Symbol) : Type 0 where
    front : List Mark
    rest : List Mark
    split : ms ≡ front ++ rest
    rests : symbols rest ≡ l
    text : p a (symbols front)
    again : (rest' : List Mark) → SameHead rest rest' → placed_at r (front ++ rest') ≡ Ok (record { node = a; places = places front }, rest')

  read_so : (ms : List Mark) (a : A) (l : List Symbol) → r (symbols ms) ≡ Ok (a, l) → Read_so ms a l
  read_so ms a l h =
      let u = law.sound (symbols ms) (a, l) h in
      let c = cut_symbols u.front l ms u.split in
      record {
        front = c.front;
        rest = c.rest;
        split = c.split;
        rests = c.second;
        text = subst (p a) (sym c.first) u.text;
        again = λ rest' head.
            reads r a c.front rest'
            (ap r (symbols_append c.front rest' ∙ ap (λ f. f ++ symbols rest') c.first)
            ∙ u.again (symbols rest') (subst (λ l. SameHead l (symbols rest')) c.second (same_head_symbols c.rest rest' head)));
      }

  same_self : (ms : List Mark) → SameHead ms ms
  same_self [] = tt
  same_self (m ∷ ms) = refl

  placed_sound : (ms : List Mark) (x : Placed A × List Mark) → placed_at r ms ≡ Ok x → Sound (placed_at r) (placed p) ms x
  placed_sound ms x h =
      let y = back_ok ms (r (symbols ms)) x h in
      let u = read_so ms y.0.0 y.0.1 y.1 in
      let whole = sym (ap (placed_at r) u.split ∙ u.again u.rest (same_self u.rest)) ∙ h in
      subst (Sound (placed_at r) (placed p) ms) (ok_inj (record { node = y.0.0; places = places u.front }, u.rest) x whole)
      (record { front = u.front; text = (u.text, refl); split = u.split; again = u.again })

  placed_complete : (a : Placed A) (front rest : List Mark) → placed p a front → Stops (λ m. goes m.symbol) rest → placed_at r (front ++ rest) ≡ Ok (a, rest)
  placed_complete a front rest text st =
      reads r a.node front rest (ap r (symbols_append front rest) ∙ law.complete a.node (symbols front) (symbols rest) text.0 (stops_symbols goes rest st))
      ∙ (λ i. Ok (record { node = a.node; places = sym text.1 i }, rest))

  -- where the step of symbols fails
  record Fails_so (ms : List Mark) (l : List Symbol) : Type 0 where
    front : List Mark
    rest : List Mark
    split : ms ≡ front ++ rest
    rests : symbols rest ≡ l
    more : List Symbol
    value : A
    text : p value (symbols front ++ more)

  fails_so : (ms : List Mark) (l : List Symbol) → r (symbols ms) ≡ Err l → Fails_so ms l
  fails_so ms l h =
      let v = law.viable (symbols ms) l h in
      let c = cut_symbols v.done l ms v.split in
      record { front = c.front; rest = c.rest; split = c.split; rests = c.second; more = v.more; value = v.value; text = subst (λ f. p v.value (f ++ v.more)) (sym c.first) v.text }

  -- the rest is that of the cut
  rest_is : (ms : List Mark) (l : List Symbol) (f : Fails_so ms l) → drop (length ms - length l) ms ≡ f.rest
  rest_is ms l f =
      let n : length l ≡ length f.rest = ap length (sym f.rests) ∙ length_symbols f.rest in
      let m : length ms ≡ length (f.front ++ f.rest) = ap length f.split in
      ap (drop (length ms - length l)) f.split ∙ drop_front f.front f.rest (length ms - length l) (omega (arith, n, m, length-append f.front f.rest))

  placed_viable : (ms rest : List Mark) → placed_at r ms ≡ Err rest → Viable (placed p) ms rest
  placed_viable ms rest h =
      let e = back_err ms (r (symbols ms)) rest h in
      let f = fails_so ms e.0 e.1 in
      let at : f.rest ≡ rest = sym (rest_is ms e.0 f) ∙ e.2 in
      record {
        done = f.front;
        more = somewhere f.more;
        value = record { node = f.value; places = places (f.front ++ somewhere f.more) };
        text = (subst (p f.value) (sym (symbols_append f.front (somewhere f.more) ∙ ap (λ l. symbols f.front ++ l) (symbols_somewhere f.more))) f.text, refl);
        split = f.split ∙ ap (λ l. f.front ++ l) at;
      }

  placed_local : (before after after' : List Mark) (t : Mark) → placed_at r (before ++ t ∷ after) ≡ Err (t ∷ after) → placed_at r (before ++ t ∷ after') ≡ Err (t ∷ after')
  placed_local before after after' t h =
      let ms = before ++ t ∷ after in
      let e = back_err ms (r (symbols ms)) (t ∷ after) h in
      let f = fails_so ms e.0 e.1 in
      let at : f.rest ≡ t ∷ after = sym (rest_is ms e.0 f) ∙ e.2 in
      let l : symbols (t ∷ after) ≡ e.0 = ap symbols (sym at) ∙ f.rests in
      fails r before (t ∷ after')
      (ap r (symbols_append before (t ∷ after'))
      ∙ law.local (symbols before) (symbols after) (symbols after') t.symbol (ap r (sym (symbols_append before (t ∷ after))) ∙ e.1 ∙ ap Err (sym l))
      )

  -- The step for marks.
  pub law_placed : Law (placed_at r) (placed p) (λ m. goes m.symbol)
  law_placed = record {
    sound = placed_sound;
    complete = placed_complete;
    viable = placed_viable;
    local = placed_local;
    example = record { node = law.example; places = places (somewhere law.example_list) };
    example_list = somewhere law.example_list;
    example_text = (subst (p law.example) (sym (symbols_somewhere law.example_list)) law.example_text, refl);
  }

  -- What is left is no longer.
  pub rest_shorter : (ts : List Symbol) (a : A) (l : List Symbol) → r ts ≡ Ok (a, l) → length l ≤ length ts
  rest_shorter ts a l h =
      let u = law.sound ts (a, l) h in
      let n : length ts ≡ length (u.front ++ l) = ap length u.split in
      omega (arith, n, length-append u.front l)

  -- What is read of symbols and places.
  pub placed_marks : (ss : List Symbol) (ps : List Place) (a : A) (l : List Symbol) → length ss ≡ length ps → r ss ≡ Ok (a, l)
      → placed_at r (marks ss ps) ≡ Ok (record { node = a; places = take (length ss - length l) ps }, marks l (drop (length ss - length l) ps))
  placed_marks ss ps a l same h =
      let u = law.sound ss (a, l) h in
      let n = length ss - length l in
      let m : length ss ≡ length (u.front ++ l) = ap length u.split in
      let k : n ≡ length u.front = omega (arith, m, length-append u.front l) in
      let d : drop n ss ≡ l = ap (drop n) u.split ∙ drop_front u.front l n k in
      ap (λ x. back (marks ss ps) (r x)) (symbols_marks ss ps same)
      ∙ ap (back (marks ss ps)) h
      ∙ ap (λ k. Ok (record { node = a; places = places (take (k - length l) (marks ss ps)) }, drop (k - length l) (marks ss ps))) (length_marks ss ps same)
      ∙ (λ i. Ok (record { node = a; places = (places_take n (marks ss ps) ∙ ap (take n) (places_marks ss ps same)) i }, (drop_marks n ss ps ∙ ap (λ x. marks x (drop n ps)) d) i))

  pub fails_marks : (ss : List Symbol) (ps : List Place) (l : List Symbol) → length ss ≡ length ps → r ss ≡ Err l → (m : List Mark) × (placed_at r (marks ss ps) ≡ Err m) × (symbols m ≡ l)
  fails_marks ss ps l same h =
      let e : r (symbols (marks ss ps)) ≡ Err l = ap r (symbols_marks ss ps same) ∙ h in
      let f = fails_so (marks ss ps) l e in
      (f.rest, ap (back (marks ss ps)) e ∙ ap Err (rest_is (marks ss ps) l f), f.rests)

-- What begins a node's symbols begins its marks.
pub leads_placed : {A : Type 0} (is : Symbol → Bool) (p : A → List Symbol → Type 0) → Leads is p → Leads (λ m. is m.symbol) (placed p)
leads_placed is p begin a [] h = begin a.node [] h.0
leads_placed is p begin a (m ∷ ms) h = begin a.node (m.symbol ∷ symbols ms) h.0
