-- Combinations and sums are read as the grammar says.
use Rattle.std.proofs.Common.{◌≡◌, ℕ, List, [], ◌∷◌, ◌++◌, Bool, true, false, Option, Some, None, refl, sym, ap, ◌∙◌, subst, inl, inr, ⊎_elim, cond, append_assoc}
use Rattle.std.specs.Prelude.{◌⊎◌}
use Rattle.std.proofs.lemmas.List.{append-nil}
use Rattle.cap_reading.specs.Languages.{nothing, one, ◌·◌, ◌or◌, made, just, each, some_of}
use Rattle.cap_reading.specs.Steps.{Read, ◌>>=◌, take_one, mapped, skip, both, either, many, some, with_front}
use Rattle.cap_reading.proofs.Law.{Law, Leads, Apart, Starts, Stops, never, one_of, law_as, law_same, law_goes, apart_sym, apart_never, stops_first, starts_or}
use Rattle.cap_reading.proofs.Items.{law_one, law_mapped, law_gives}
use Rattle.cap_reading.proofs.Sequences.{joined, law_then, law_skip, leads_one, leads_first}
use Rattle.cap_reading.proofs.Choices.{law_either, law_either_by, from_or, from_made, leads_made, leads_or, apart_or, either_yes, either_no}
use Rattle.cap_reading.proofs.Repetitions.{law_some, leads_some, after_separator}
use Rattle.cap_grammar.specs.declared.symbol.Fixed.TheVariants as word
use Rattle.cap_grammar.specs.declared.symbol.Symbol.{Symbol}
use Rattle.cap_grammar.specs.declared.symbol.Symbol.TheVariants as symbol
use Rattle.cap_grammar.specs.declared.tree.IntTok.{IntTok}
use Rattle.cap_grammar.specs.declared.tree.TermTok.{TermTok}
use Rattle.cap_grammar.specs.Grammar.{fixed, name, number, int, lone, multiple, combo, term, sum}
use Rattle.cap_literals.specs.Reading.{is, is_name, is_nought, minus_int, plus_int, number_at, int_at, name_at, new_multiple, multiple_at, next_multiple_at, nought_multiple, nought_multiple_at, behind_nought_at, combo_at, new_term, term_at, next_term_at, sum_at}
use Rattle.cap_literals.proofs.Symbols.{apart, law_behind, leads_fixed, law_only, law_never, law_name, law_number, name_begins}
use Rattle.cap_literals.proofs.Parts.{law_int, law_path, plus_to, plus_from}

-- int NAME
multiple_from : (c : IntTok) (ns : List (List ℕ)) (l : List Symbol) → (int c · lone ns) l → made new_multiple (λ x. int x.0 · name x.1) (record { coeff = c; path = ns }) l
multiple_from c [] l h = absurd h.second
multiple_from c (n ∷ []) l h = ((c, n), refl, h)
multiple_from c (n ∷ m ∷ others) l h = absurd h.second

pub law_multiple : Law multiple_at multiple never
unfolding multiple_at
law_multiple = law_as multiple (from_made multiple (λ x l h. h)) (λ t l h. multiple_from t.coeff t.path l h) (law_mapped new_multiple (law_then law_int law_name))

pub law_next_multiple : Law next_multiple_at (λ t. fixed word.Plus · multiple t) never
unfolding next_multiple_at
law_next_multiple = law_behind word.Plus law_multiple

pub next_multiple_begins : Leads (is word.Plus) (λ t. fixed word.Plus · multiple t)
next_multiple_begins = leads_fixed word.Plus multiple

abbrev next : TermTok → List Symbol → Type 0
next t = fixed word.Plus · multiple t

-- a term behind the token `0`
law_nought_multiple : Law nought_multiple_at (made nought_multiple name) never
unfolding nought_multiple_at
law_nought_multiple = law_mapped nought_multiple law_name

-- A name would lengthen the token `0`, and a plus a combination.
abbrev pub longer : Symbol → Bool
longer = one_of is_name (is word.Plus)

plus_only : (n p : Bool) → cond n true p ≡ false → p ≡ false
plus_only true p h = cc
plus_only false p h = h

abbrev nought_terms : List TermTok → List Symbol → Type 0
nought_terms ts = some_of (made nought_multiple name) next ts

law_nought_terms : Law (some nought_multiple_at (is word.Plus) next_multiple_at) nought_terms longer
law_nought_terms =
    law_goes longer (λ t h. plus_only (is_name t) (is word.Plus t) h)
    (law_only (is word.Plus) (law_some (is word.Plus) law_nought_multiple law_next_multiple next_multiple_begins (apart_never (is word.Plus)) (apart_never (is word.Plus)) (λ t h. refl)))

none_stops : (a : List TermTok) (l rest : List Symbol) → just [] nothing a l → Stops (one_of longer never) rest → Stops is_name rest
none_stops a l rest h st = stops_first is_name (is word.Plus) rest (stops_first longer never rest st)

abbrev behind_nought : List TermTok → List Symbol → Type 0
behind_nought ts = nought_terms ts or just [] nothing ts

law_behind_nought : Law behind_nought_at behind_nought longer
unfolding behind_nought_at
law_behind_nought =
    law_only longer
    (law_either_by is_name law_nought_terms (law_gives [])
    (leads_some is_name (made nought_multiple name) next (leads_made is_name nought_multiple name name_begins))
    (λ a l rest h st. subst (λ l. Stops is_name (l ++ rest)) (sym h.1) (none_stops a l rest h st)))

-- a number other than the token `0`
abbrev other_of : Symbol → Option ℕ
other_of (symbol.Fixed w) = None
other_of (symbol.Operation op) = None
other_of (symbol.Name n) = None
other_of (symbol.Number n) = Some n
other_of symbol.Nought = None

abbrev is_other : Symbol → Bool
is_other (symbol.Fixed w) = false
is_other (symbol.Operation op) = false
is_other (symbol.Name n) = false
is_other (symbol.Number n) = true
is_other symbol.Nought = false

others_apart : Apart is_other is_nought
others_apart (symbol.Fixed w) h = refl
others_apart (symbol.Operation op) h = refl
others_apart (symbol.Name n) h = refl
others_apart (symbol.Number n) h = refl
others_apart symbol.Nought h = cc

abbrev other : ℕ → List Symbol → Type 0
other n l = l ≡ symbol.Number n ∷ []

other_to : (n : ℕ) (l : List Symbol) (s : Symbol) → l ≡ s ∷ [] → other_of s ≡ Some n → other n l
other_to n l (symbol.Fixed w) e f = cc
other_to n l (symbol.Operation op) e f = cc
other_to n l (symbol.Name m) e f = cc
other_to n l (symbol.Number m) e f = cc
other_to n l symbol.Nought e f = cc

law_other : Law (take_one other_of) other never
law_other = law_as other (λ n l h. other_to n l h.0 h.1 h.2) (λ n l h. (symbol.Number n, h, refl)) (law_one other_of (symbol.Number 1) 1 refl)

other_begins : Leads is_other other
other_begins n l h = subst (Starts is_other) (sym h) refl

abbrev other_int : IntTok → List Symbol → Type 0
other_int i l = made minus_int (λ n. fixed word.Minus · number n) i l ⊎ made plus_int other i l

abbrev other_int_at : List Symbol → Read Symbol IntTok
other_int_at ts = either (is word.Minus) (mapped minus_int (skip (is word.Minus) number_at)) (mapped plus_int (take_one other_of)) ts

law_other_int : Law other_int_at other_int never
law_other_int =
    law_never
    (law_either (is word.Minus)
    (law_mapped minus_int (law_behind word.Minus law_number))
    (law_mapped plus_int law_other)
    is_other
    (leads_made (is word.Minus) minus_int _ (leads_fixed word.Minus number))
    (leads_made is_other plus_int other other_begins)
    (apart_sym (apart word.Minus is_other refl)))

abbrev other_starts : Symbol → Bool
other_starts = one_of (is word.Minus) is_other

other_int_begins : Leads other_starts other_int
other_int_begins = leads_or (is word.Minus) is_other (made minus_int (λ n. fixed word.Minus · number n)) (made plus_int other) (leads_made (is word.Minus) minus_int _ (leads_fixed word.Minus number)) (leads_made is_other plus_int other other_begins)

other_int_is : (i : IntTok) (l : List Symbol) → other_int i l → int i l
other_int_is = from_or int (from_made int (λ n l h. h)) (from_made int (λ n l h. plus_to n l (inl h)))

-- a term that does not begin with the token `0`
abbrev other_multiple_at : List Symbol → Read Symbol TermTok
other_multiple_at ts = mapped new_multiple (both other_int_at name_at) ts

abbrev other_multiple : TermTok → List Symbol → Type 0
other_multiple t = made new_multiple (λ x. other_int x.0 · name x.1) t

law_other_multiple : Law other_multiple_at other_multiple never
law_other_multiple = law_mapped new_multiple (law_then law_other_int law_name)

other_multiple_begins : Leads other_starts other_multiple
other_multiple_begins = leads_made other_starts new_multiple _ (leads_first other_starts other_int name other_int_begins)

other_multiple_is : (t : TermTok) (l : List Symbol) → other_multiple t l → multiple t l
other_multiple_is = from_made multiple (λ x l h. record { front = h.front; rest = h.rest; split = h.split; first = other_int_is x.0 h.front h.first; second = h.second })

abbrev other_terms : List TermTok → List Symbol → Type 0
other_terms ts = some_of other_multiple next ts

abbrev other_terms_at : List Symbol → Read Symbol (List TermTok)
other_terms_at ts = some other_multiple_at (is word.Plus) next_multiple_at ts

law_other_terms : Law other_terms_at other_terms (is word.Plus)
law_other_terms = law_only (is word.Plus) (law_some (is word.Plus) law_other_multiple law_next_multiple next_multiple_begins (apart_never (is word.Plus)) (apart_never (is word.Plus)) (λ t h. refl))

-- where no token `0` is next, a term is read as such a one
same_multiple : (t : Symbol) (ts : List Symbol) → is_nought t ≡ false → multiple_at (t ∷ ts) ≡ other_multiple_at (t ∷ ts)
unfolding multiple_at int_at number_at
same_multiple (symbol.Fixed w) ts h = refl
same_multiple (symbol.Operation op) ts h = refl
same_multiple (symbol.Name n) ts h = refl
same_multiple (symbol.Number n) ts h = refl
same_multiple symbol.Nought ts h = cc

none_multiple : multiple_at [] ≡ other_multiple_at []
unfolding multiple_at int_at number_at
none_multiple = refl

same_terms : (ts : List Symbol) → Stops is_nought ts → some multiple_at (is word.Plus) next_multiple_at ts ≡ other_terms_at ts
same_terms [] h = ap (λ o. o >>= λ x. with_front (x.0 ∷ []) (many (is word.Plus) next_multiple_at x.1)) none_multiple
same_terms (t ∷ ts) h = ap (λ o. o >>= λ x. with_front (x.0 ∷ []) (many (is word.Plus) next_multiple_at x.1)) (same_multiple t ts h)

-- a combination whose first token is read in this way
abbrev combo_by : List Symbol → Read Symbol (List TermTok)
combo_by ts = either is_nought (skip is_nought behind_nought_at) other_terms_at ts

same_combo : (ts : List Symbol) → combo_at ts ≡ combo_by ts
unfolding combo_at
same_combo ts = ⊎_elim
    (λ y. either_yes is_nought (skip is_nought behind_nought_at) (some multiple_at (is word.Plus) next_multiple_at) ts y ∙ sym (either_yes is_nought (skip is_nought behind_nought_at) other_terms_at ts y))
    (λ n. either_no is_nought (skip is_nought behind_nought_at) (some multiple_at (is word.Plus) next_multiple_at) ts n ∙ same_terms ts n ∙ sym (either_no is_nought (skip is_nought behind_nought_at) other_terms_at ts n))
    (starts_or is_nought ts)

-- the token `0` alone
only_nought : (t : Symbol) → is_nought t ≡ true → t ≡ symbol.Nought
only_nought (symbol.Fixed w) h = cc
only_nought (symbol.Operation op) h = cc
only_nought (symbol.Name n) h = cc
only_nought (symbol.Number n) h = cc
only_nought symbol.Nought h = refl

abbrev nought_combo : List TermTok → List Symbol → Type 0
nought_combo ts = one is_nought · behind_nought ts

nought_first : (l : List Symbol) → one is_nought l → l ≡ symbol.Nought ∷ []
nought_first l h = h.1 ∙ ap (λ s. s ∷ []) (only_nought h.0 h.2)

alone : (l zero rest : List Symbol) → l ≡ zero ++ rest → zero ≡ symbol.Nought ∷ [] → rest ≡ [] → l ≡ symbol.Nought ∷ []
alone l zero rest e f g = e ∙ ap (λ z. z ++ rest) f ∙ ap (λ r. symbol.Nought ∷ r) g

-- the token `0` and a name are a term
zero_multiple : (t : TermTok) (zero l : List Symbol) → zero ≡ symbol.Nought ∷ [] → made nought_multiple name t l → multiple t (zero ++ l)
zero_multiple t zero l e h = subst (λ t. multiple t (zero ++ l)) h.1 (joined {p = int (plus_int 0)} {q = name h.0} zero l (plus_to 0 zero (inr (refl, e))) h.2)

nought_terms_to : (ts : List TermTok) (l zero rest : List Symbol) → l ≡ zero ++ rest → zero ≡ symbol.Nought ∷ [] → nought_terms ts rest → combo ts l
nought_terms_to [] l zero rest e f h = absurd h
nought_terms_to (t ∷ ts) l zero rest e f h = record {
  front = zero ++ h.front;
  rest = h.rest;
  split = e ∙ ap (λ r. zero ++ r) h.split ∙ sym (append_assoc zero h.front h.rest);
  first = zero_multiple t zero h.front f h.first;
  second = h.second;
}

nought_to : (ts : List TermTok) (l : List Symbol) → nought_combo ts l → combo ts l
nought_to ts l h = ⊎_elim
    (λ k. nought_terms_to ts l h.front h.rest h.split (nought_first h.front h.first) k)
    (λ k. subst (λ ts. combo ts l) (sym k.0) (alone l h.front h.rest h.split (nought_first h.front h.first) k.1))
    h.second

other_to_combo : (ts : List TermTok) (l : List Symbol) → other_terms ts l → combo ts l
other_to_combo [] l h = absurd h
other_to_combo (t ∷ ts) l h = record { front = h.front; rest = h.rest; split = h.split; first = other_multiple_is t h.front h.first; second = h.second }

-- a combination begins with the token `0`, or with another integer
one_nought : (l : List Symbol) → l ≡ symbol.Nought ∷ [] → one is_nought l
one_nought l h = (symbol.Nought, h, refl)

zero_terms : (n : ℕ) (p : List (List ℕ)) (ts : List TermTok) (l zero word_part rest : List Symbol) → l ≡ (zero ++ word_part) ++ rest → n ≡ 0 → zero ≡ symbol.Nought ∷ [] → lone p word_part → each next ts rest
    → nought_combo (record { coeff = plus_int n; path = p } ∷ ts) l
zero_terms n [] ts l zero word_part rest e f g h k = absurd h
zero_terms n (a ∷ b ∷ others) ts l zero word_part rest e f g h k = absurd h
zero_terms n (a ∷ []) ts l zero word_part rest e f g h k = record {
  front = zero;
  rest = word_part ++ rest;
  split = e ∙ append_assoc zero word_part rest;
  first = one_nought zero g;
  second = inl (record { front = word_part; rest = rest; split = refl; first = (a, (λ i. record { coeff = plus_int (sym f i); path = a ∷ [] }), h); second = k });
}

other_terms_from : (i : IntTok) (p : List (List ℕ)) (ts : List TermTok) (l int_part word_part rest : List Symbol) → l ≡ (int_part ++ word_part) ++ rest → other_int i int_part → lone p word_part → each next ts rest
    → other_terms (record { coeff = i; path = p } ∷ ts) l
other_terms_from i [] ts l int_part word_part rest e g h k = absurd h
other_terms_from i (a ∷ b ∷ others) ts l int_part word_part rest e g h k = absurd h
other_terms_from i (a ∷ []) ts l int_part word_part rest e g h k = record {
  front = int_part ++ word_part;
  rest = rest;
  split = e;
  first = ((i, a), refl, joined int_part word_part g h);
  second = k;
}

terms_from : (b : Bool) (n : ℕ) (p : List (List ℕ)) (ts : List TermTok) (l int_part word_part rest : List Symbol) → l ≡ (int_part ++ word_part) ++ rest → int (record { minus = b; digits = n }) int_part → lone p word_part → each next ts rest
    → nought_combo (record { coeff = record { minus = b; digits = n }; path = p } ∷ ts) l ⊎ other_terms (record { coeff = record { minus = b; digits = n }; path = p } ∷ ts) l
terms_from true n p ts l int_part word_part rest e g h k = inr (other_terms_from (minus_int n) p ts l int_part word_part rest e (inl (n, refl, g)) h k)
terms_from false n p ts l int_part word_part rest e g h k = ⊎_elim
    (λ o. inr (other_terms_from (plus_int n) p ts l int_part word_part rest e (inr (n, refl, o)) h k))
    (λ z. inl (zero_terms n p ts l int_part word_part rest e z.0 z.1 h k))
    (plus_from n int_part g)

combo_from : (ts : List TermTok) (l : List Symbol) → combo ts l → nought_combo ts l ⊎ other_terms ts l
combo_from [] l h = inl (record { front = l; rest = []; split = sym (append-nil l); first = one_nought l h; second = inr (refl, refl) })
combo_from (t ∷ ts) l h =
    terms_from t.coeff.minus t.coeff.digits t.path ts l h.first.front h.first.rest h.rest (h.split ∙ ap (λ f. f ++ h.rest) h.first.split) h.first.first h.first.second h.second

twice : (n p : Bool) → cond n true p ≡ false → cond (cond n true p) true p ≡ false
twice true p h = cc
twice false p h = ap (λ p. cond p true p) h

nought_begins : Leads is_nought nought_combo
nought_begins ts l h = leads_one is_nought behind_nought ts l h

-- combo = "0" | int NAME { "+" int NAME }
pub law_combo : Law combo_at combo longer
law_combo =
    law_same combo_at same_combo
    (law_goes longer (λ t h. twice (is_name t) (is word.Plus t) h)
    (law_as combo (from_or combo nought_to other_to_combo) combo_from
    (law_either is_nought
    (law_skip is_nought symbol.Nought refl law_behind_nought)
    law_other_terms
    other_starts
    nought_begins
    (leads_some other_starts other_multiple next other_multiple_begins)
    (apart_or (is word.Minus) is_other is_nought (apart word.Minus is_nought refl) others_apart))))

-- sum = int path { "+" int path }
pub law_term : Law term_at term (is word.Star)
unfolding term_at
law_term = law_as term (from_made term (λ x l h. h)) (λ t l h. ((t.coeff, t.path), refl, h)) (law_mapped new_term (law_then law_int law_path))

pub law_next_term : Law next_term_at (λ t. fixed word.Plus · term t) (is word.Star)
unfolding next_term_at
law_next_term = law_behind word.Plus law_term

pub next_term_begins : Leads (is word.Plus) (λ t. fixed word.Plus · term t)
next_term_begins = leads_fixed word.Plus term

-- What would lengthen a sum: a term more, a factor more.
abbrev pub sum_longer : Symbol → Bool
sum_longer = one_of (is word.Plus) (is word.Star)

pub law_sum : Law sum_at sum sum_longer
unfolding sum_at
law_sum = law_some (is word.Plus) law_term law_next_term next_term_begins (apart word.Plus (is word.Star) refl) (apart word.Plus (is word.Star) refl) (after_separator (is word.Plus) (is word.Star))
