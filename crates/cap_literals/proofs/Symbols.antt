-- Single symbols: words and marks, names, operations and numbers.
use Rattle.std.proofs.Common.{◌≡◌, ℕ, List, [], ◌∷◌, ◌++◌, Bool, true, false, Some, refl, sym, ap, ◌∙◌, subst, inl, inr, cond, eqb}
use Rattle.std.specs.Prelude.{◌⊎◌}
use Rattle.std.proofs.lemmas.Bool.{eqb-true}
use Rattle.cap_names.specs.declared.identifiers.OpId.{OpId}
use Rattle.cap_reading.specs.Languages.{one, valued, Joined, ◌·◌}
use Rattle.cap_reading.specs.Steps.{Read, skip, before}
use Rattle.cap_reading.proofs.Law.{Law, Leads, Apart, Starts, never, one_of, law_as, law_goes, apart_only, cond_no}
use Rattle.cap_reading.proofs.Items.{law_one}
use Rattle.cap_reading.proofs.Sequences.{law_skip, law_before}
use Rattle.cap_grammar.specs.declared.symbol.Fixed.{Fixed}
use Rattle.cap_grammar.specs.declared.symbol.Fixed.TheVariants as word
use Rattle.cap_grammar.specs.declared.symbol.Symbol.{Symbol}
use Rattle.cap_grammar.specs.declared.symbol.Symbol.TheVariants as symbol
use Rattle.cap_grammar.specs.Grammar.{fixed, name, operation, number}
use Rattle.cap_literals.specs.Reading.{code, is, name_of, operation_of, number_of, is_name, is_number, name_at, operation_at, number_at}

-- the word or mark of a number
abbrev word_or : ℕ → ℕ → Fixed → Fixed → Fixed
word_or n k w other = cond (eqb n k) w other

abbrev decode : ℕ → Fixed
decode n =
    word_or n 0 word.Table (word_or n 1 word.Quiver (word_or n 2 word.Prime (word_or n 3 word.Bound (word_or n 4 word.Objects
    (word_or n 5 word.Basis (word_or n 6 word.Unit (word_or n 7 word.Product (word_or n 8 word.Arrow (word_or n 9 word.Relation
    (word_or n 10 word.End (word_or n 11 word.Category (word_or n 12 word.Vec (word_or n 13 word.Add (word_or n 14 word.Freyd
    (word_or n 15 word.Rep (word_or n 16 word.Session (word_or n 17 word.Register (word_or n 18 word.Finalise (word_or n 19 word.Plan
    (word_or n 20 word.Object (word_or n 21 word.Let (word_or n 22 word.Src (word_or n 23 word.Tgt (word_or n 24 word.Dims
    (word_or n 25 word.Maps (word_or n 26 word.To (word_or n 27 word.Open (word_or n 28 word.Close (word_or n 29 word.OpenRound
    (word_or n 30 word.CloseRound (word_or n 31 word.OpenBrace (word_or n 32 word.CloseBrace (word_or n 33 word.Semicolon (word_or n 34 word.Equals
    (word_or n 35 word.Dot (word_or n 36 word.Star (word_or n 37 word.Plus (word_or n 38 word.Minus word.Newline))))))))))))))))))))))))))))))))))))))

decode_code : (w : Fixed) → decode (code w) ≡ w
decode_code word.Table = refl
decode_code word.Quiver = refl
decode_code word.Prime = refl
decode_code word.Bound = refl
decode_code word.Objects = refl
decode_code word.Basis = refl
decode_code word.Unit = refl
decode_code word.Product = refl
decode_code word.Arrow = refl
decode_code word.Relation = refl
decode_code word.End = refl
decode_code word.Category = refl
decode_code word.Vec = refl
decode_code word.Add = refl
decode_code word.Freyd = refl
decode_code word.Rep = refl
decode_code word.Session = refl
decode_code word.Register = refl
decode_code word.Finalise = refl
decode_code word.Plan = refl
decode_code word.Object = refl
decode_code word.Let = refl
decode_code word.Src = refl
decode_code word.Tgt = refl
decode_code word.Dims = refl
decode_code word.Maps = refl
decode_code word.To = refl
decode_code word.Open = refl
decode_code word.Close = refl
decode_code word.OpenRound = refl
decode_code word.CloseRound = refl
decode_code word.OpenBrace = refl
decode_code word.CloseBrace = refl
decode_code word.Semicolon = refl
decode_code word.Equals = refl
decode_code word.Dot = refl
decode_code word.Star = refl
decode_code word.Plus = refl
decode_code word.Minus = refl
decode_code word.Newline = refl

-- One symbol passes the test of a word.
pub only_this : (w : Fixed) (t : Symbol) → is w t ≡ true → t ≡ symbol.Fixed w
only_this w (symbol.Fixed v) h = ap symbol.Fixed (sym (decode_code v) ∙ ap decode (eqb-true (code v) (code w) h) ∙ decode_code w)
only_this w (symbol.Operation op) h = cc
only_this w (symbol.Name n) h = cc
only_this w (symbol.Number n) h = cc
only_this w symbol.Nought h = cc

pub this_passes : (w : Fixed) → is w (symbol.Fixed w) ≡ true
this_passes word.Table = refl
this_passes word.Quiver = refl
this_passes word.Prime = refl
this_passes word.Bound = refl
this_passes word.Objects = refl
this_passes word.Basis = refl
this_passes word.Unit = refl
this_passes word.Product = refl
this_passes word.Arrow = refl
this_passes word.Relation = refl
this_passes word.End = refl
this_passes word.Category = refl
this_passes word.Vec = refl
this_passes word.Add = refl
this_passes word.Freyd = refl
this_passes word.Rep = refl
this_passes word.Session = refl
this_passes word.Register = refl
this_passes word.Finalise = refl
this_passes word.Plan = refl
this_passes word.Object = refl
this_passes word.Let = refl
this_passes word.Src = refl
this_passes word.Tgt = refl
this_passes word.Dims = refl
this_passes word.Maps = refl
this_passes word.To = refl
this_passes word.Open = refl
this_passes word.Close = refl
this_passes word.OpenRound = refl
this_passes word.CloseRound = refl
this_passes word.OpenBrace = refl
this_passes word.CloseBrace = refl
this_passes word.Semicolon = refl
this_passes word.Equals = refl
this_passes word.Dot = refl
this_passes word.Star = refl
this_passes word.Plus = refl
this_passes word.Minus = refl
this_passes word.Newline = refl

-- The word fails the test, so no symbol passes both.
pub apart : (w : Fixed) (goes : Symbol → Bool) → goes (symbol.Fixed w) ≡ false → Apart (is w) goes
apart w goes fails = apart_only goes (symbol.Fixed w) (only_this w) fails

-- The list of a word or mark is that of one symbol that passes its test.
pub fixed_one : (w : Fixed) (l : List Symbol) → one (is w) l → fixed w l
fixed_one w l h = h.1 ∙ ap (λ s. s ∷ []) (only_this w h.0 h.2)

pub one_fixed : (w : Fixed) (l : List Symbol) → fixed w l → one (is w) l
one_fixed w l h = (symbol.Fixed w, h, this_passes w)

first_to : (w : Fixed) (q : List Symbol → Type 0) (l : List Symbol) → Joined (one (is w)) q l → Joined (fixed w) q l
first_to w q l h = record { front = h.front; rest = h.rest; split = h.split; first = fixed_one w h.front h.first; second = h.second }

first_from : (w : Fixed) (q : List Symbol → Type 0) (l : List Symbol) → Joined (fixed w) q l → Joined (one (is w)) q l
first_from w q l h = record { front = h.front; rest = h.rest; split = h.split; first = one_fixed w h.front h.first; second = h.second }

last_to : (w : Fixed) (p : List Symbol → Type 0) (l : List Symbol) → Joined p (one (is w)) l → Joined p (fixed w) l
last_to w p l h = record { front = h.front; rest = h.rest; split = h.split; first = h.first; second = fixed_one w h.rest h.second }

last_from : (w : Fixed) (p : List Symbol → Type 0) (l : List Symbol) → Joined p (fixed w) l → Joined p (one (is w)) l
last_from w p l h = record { front = h.front; rest = h.rest; split = h.split; first = h.first; second = one_fixed w h.rest h.second }

module _ {A : Type 0} {r : List Symbol → Read Symbol A} {p : A → List Symbol → Type 0} {goes : Symbol → Bool} (w : Fixed) where
  -- Behind a word or mark.
  pub law_behind : Law r p goes → Law (skip (is w) r) (λ a. fixed w · p a) goes
  law_behind law = law_as (λ a. fixed w · p a) (λ a l h. first_to w (p a) l h) (λ a l h. first_from w (p a) l h) (law_skip (is w) (symbol.Fixed w) (this_passes w) law)

  -- Before a word or mark that would not lengthen what was read.
  pub law_up_to : goes (symbol.Fixed w) ≡ false → Law r p goes → Law (before r (is w)) (λ a. p a · fixed w) never
  law_up_to fails law = law_as (λ a. p a · fixed w) (λ a l h. last_to w (p a) l h) (λ a l h. last_from w (p a) l h) (law_before (is w) (symbol.Fixed w) (this_passes w) (apart w goes fails) law)

-- What begins with a word or mark.
pub fixed_begins : (w : Fixed) (q : List Symbol → Type 0) (l : List Symbol) → Joined (fixed w) q l → Starts (is w) l
fixed_begins w q l h = subst (Starts (is w)) (sym (h.split ∙ ap (λ k. k ++ h.rest) h.first)) (this_passes w)

pub leads_fixed : {A : Type 0} (w : Fixed) (p : A → List Symbol → Type 0) → Leads (is w) (λ a. fixed w · p a)
leads_fixed w p a l h = fixed_begins w (p a) l h

-- nothing but this lengthens
pub law_only : {A : Type 0} {r : List Symbol → Read Symbol A} {p : A → List Symbol → Type 0} (goes : Symbol → Bool) → Law r p (one_of goes never) → Law r p goes
law_only goes law = law_goes goes (λ t h. cond_no (goes t) true false h) law

pub law_never : {A : Type 0} {r : List Symbol → Read Symbol A} {p : A → List Symbol → Type 0} → Law r p (one_of never never) → Law r p never
law_never law = law_goes never (λ t h. refl) law

-- NAME
name_to : (n : List ℕ) (l : List Symbol) (s : Symbol) → l ≡ s ∷ [] → name_of s ≡ Some n → name n l
name_to n l (symbol.Fixed w) e f = cc
name_to n l (symbol.Operation op) e f = cc
name_to n l (symbol.Name m) e f = cc
name_to n l (symbol.Number m) e f = cc
name_to n l symbol.Nought e f = cc

pub law_name : Law name_at name never
unfolding name_at
law_name = law_as name (λ n l h. name_to n l h.0 h.1 h.2) (λ n l h. (symbol.Name n, h, refl)) (law_one name_of (symbol.Name []) [] refl)

pub name_begins : Leads is_name name
name_begins n l h = subst (Starts is_name) (sym h) refl

-- OP
operation_to : (n : OpId) (l : List Symbol) (s : Symbol) → l ≡ s ∷ [] → operation_of s ≡ Some n → operation n l
operation_to n l (symbol.Fixed w) e f = cc
operation_to n l (symbol.Operation op) e f = cc
operation_to n l (symbol.Name m) e f = cc
operation_to n l (symbol.Number m) e f = cc
operation_to n l symbol.Nought e f = cc

pub law_operation : Law operation_at operation never
unfolding operation_at
law_operation = law_as operation (λ n l h. operation_to n l h.0 h.1 h.2) (λ n l h. (symbol.Operation n, h, refl)) (law_one operation_of (symbol.Operation (record { 0 = 1 })) (record { 0 = 1 }) refl)

-- NUM
number_to : (n : ℕ) (l : List Symbol) (s : Symbol) → l ≡ s ∷ [] → number_of s ≡ Some n → number n l
number_to n l (symbol.Fixed w) e f = cc
number_to n l (symbol.Operation op) e f = cc
number_to n l (symbol.Name m) e f = cc
number_to n l (symbol.Number m) e f = inl cc
number_to n l symbol.Nought e f = inr (cc, e)

number_from : (n : ℕ) (l : List Symbol) → (l ≡ symbol.Number n ∷ []) ⊎ ((n ≡ 0) × (l ≡ symbol.Nought ∷ [])) → valued number_of n l
number_from n l (inl e) = (symbol.Number n, e, refl)
number_from n l (inr e) = (symbol.Nought, e.1, ap Some (sym e.0))

pub law_number : Law number_at number never
unfolding number_at
law_number = law_as number (λ n l h. number_to n l h.0 h.1 h.2) number_from (law_one number_of symbol.Nought 0 refl)

number_starts : (n : ℕ) (l : List Symbol) → (l ≡ symbol.Number n ∷ []) ⊎ ((n ≡ 0) × (l ≡ symbol.Nought ∷ [])) → Starts is_number l
number_starts n l (inl e) = subst (Starts is_number) (sym e) refl
number_starts n l (inr e) = subst (Starts is_number) (sym e.1) refl

pub number_begins : Leads is_number number
number_begins n l h = number_starts n l h
