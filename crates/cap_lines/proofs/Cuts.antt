-- Marks and their symbols.
use Rattle.std.proofs.Common.{◌≡◌, ℕ, zero, suc, length, arith, List, [], ◌∷◌, ◌++◌, take, drop, Bool, refl, sym, ap, ◌∙◌}
use Rattle.cap_reading.proofs.Law.{Stops, SameHead}
use Rattle.cap_grammar.specs.declared.symbol.Symbol.{Symbol}
use Rattle.cap_grammar.specs.declared.tree.Place.{Place}
use Rattle.cap_grammar.specs.Scripts.{Mark, symbols, places}
use Rattle.cap_lines.specs.Marks.{marks}

-- marks whose symbols are p and then q
pub record Cut (p q : List Symbol) (ms : List Mark) : Type 0 where
  pub front : List Mark
  pub rest : List Mark
  pub split : ms ≡ front ++ rest
  pub first : symbols front ≡ p
  pub second : symbols rest ≡ q

pub cut_symbols : (p q : List Symbol) (ms : List Mark) → symbols ms ≡ p ++ q → Cut p q ms
cut_symbols [] q ms h = record { front = []; rest = ms; split = refl; first = refl; second = h }
cut_symbols (s ∷ p) q [] h = cc
cut_symbols (s ∷ p) q (m ∷ ms) h =
    let e : m.symbol ≡ s = cc in
    let c = cut_symbols p q ms cc in
    record { front = m ∷ c.front; rest = c.rest; split = ap (λ l. m ∷ l) c.split; first = λ i. e i ∷ c.first i; second = c.second }

pub symbols_append : (p q : List Mark) → symbols (p ++ q) ≡ symbols p ++ symbols q
symbols_append [] q = refl
symbols_append (m ∷ p) q = ap (λ l. m.symbol ∷ l) (symbols_append p q)

pub places_append : (p q : List Mark) → places (p ++ q) ≡ places p ++ places q
places_append [] q = refl
places_append (m ∷ p) q = ap (λ l. m.place ∷ l) (places_append p q)

pub length_symbols : (ms : List Mark) → length (symbols ms) ≡ length ms
length_symbols [] = refl
length_symbols (m ∷ ms) = ap suc (length_symbols ms)

-- marks of the symbols, all at the first place
abbrev pub somewhere : List Symbol → List Mark
somewhere [] = []
somewhere (s ∷ ss) = record { symbol = s; place = record { line = 1; column = 1 } } ∷ somewhere ss

pub symbols_somewhere : (ss : List Symbol) → symbols (somewhere ss) ≡ ss
symbols_somewhere [] = refl
symbols_somewhere (s ∷ ss) = ap (λ l. s ∷ l) (symbols_somewhere ss)

pub same_head_symbols : (p q : List Mark) → SameHead p q → SameHead (symbols p) (symbols q)
same_head_symbols [] [] h = tt
same_head_symbols [] (n ∷ q) h = absurd h
same_head_symbols (m ∷ p) [] h = absurd h
same_head_symbols (m ∷ p) (n ∷ q) h = ap (λ m. m.symbol) h

pub stops_symbols : (goes : Symbol → Bool) (ms : List Mark) → Stops (λ m. goes m.symbol) ms → Stops goes (symbols ms)
stops_symbols goes [] h = tt
stops_symbols goes (m ∷ ms) h = h

-- the cut by a length
pub take_front : {A : Type 0} (p q : List A) (n : ℕ) → n ≡ length p → take n (p ++ q) ≡ p
take_front [] q zero h = refl
take_front [] q (suc n) h = absurd (omega arith)
take_front (x ∷ p) q zero h = absurd (omega arith)
take_front (x ∷ p) q (suc n) h = ap (λ l. x ∷ l) (take_front p q n (omega arith))

pub drop_front : {A : Type 0} (p q : List A) (n : ℕ) → n ≡ length p → drop n (p ++ q) ≡ q
drop_front [] q zero h = refl
drop_front [] q (suc n) h = absurd (omega arith)
drop_front (x ∷ p) q zero h = absurd (omega arith)
drop_front (x ∷ p) q (suc n) h = drop_front p q n (omega arith)

-- marks of slices
pub symbols_marks : (ss : List Symbol) (ps : List Place) → length ss ≡ length ps → symbols (marks ss ps) ≡ ss
symbols_marks [] ps h = refl
symbols_marks (s ∷ ss) [] h = absurd (omega arith)
symbols_marks (s ∷ ss) (p ∷ ps) h = ap (λ l. s ∷ l) (symbols_marks ss ps (omega arith))

pub places_marks : (ss : List Symbol) (ps : List Place) → length ss ≡ length ps → places (marks ss ps) ≡ ps
places_marks [] [] h = refl
places_marks [] (p ∷ ps) h = absurd (omega arith)
places_marks (s ∷ ss) [] h = absurd (omega arith)
places_marks (s ∷ ss) (p ∷ ps) h = ap (λ l. p ∷ l) (places_marks ss ps (omega arith))

pub length_marks : (ss : List Symbol) (ps : List Place) → length ss ≡ length ps → length (marks ss ps) ≡ length ss
length_marks ss ps h = sym (length_symbols (marks ss ps)) ∙ ap length (symbols_marks ss ps h)

pub drop_marks : (n : ℕ) (ss : List Symbol) (ps : List Place) → drop n (marks ss ps) ≡ marks (drop n ss) (drop n ps)
drop_marks zero ss ps = refl
drop_marks (suc n) [] ps = refl
drop_marks (suc n) (s ∷ ss) [] = none (drop n ss) where
  none : (ss : List Symbol) → [] ≡ marks ss []
  none [] = refl
  none (s ∷ ss) = refl
drop_marks (suc n) (s ∷ ss) (p ∷ ps) = drop_marks n ss ps

pub places_take : (n : ℕ) (ms : List Mark) → places (take n ms) ≡ take n (places ms)
places_take zero ms = refl
places_take (suc n) [] = refl
places_take (suc n) (m ∷ ms) = ap (λ l. m.place ∷ l) (places_take n ms)

pub marks_append : (ss ss' : List Symbol) (ps ps' : List Place) → length ss ≡ length ps → marks (ss ++ ss') (ps ++ ps') ≡ marks ss ps ++ marks ss' ps'
marks_append [] ss' [] ps' h = refl
marks_append [] ss' (p ∷ ps) ps' h = absurd (omega arith)
marks_append (s ∷ ss) ss' [] ps' h = absurd (omega arith)
marks_append (s ∷ ss) ss' (p ∷ ps) ps' h = ap (λ l. record { symbol = s; place = p } ∷ l) (marks_append ss ss' ps ps' (omega arith))
