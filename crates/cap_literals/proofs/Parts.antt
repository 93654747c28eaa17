-- The parts of a command that take no memory, lists and paths are read as the grammar says.
use Rattle.std.proofs.Common.{◌≡◌, ℕ, List, [], ◌∷◌, ◌++◌, Bool, true, false, refl, sym, ap, ◌∙◌, subst, inl, inr, cond}
use Rattle.std.specs.Prelude.{◌⊎◌}
use Rattle.cap_reading.specs.Languages.{◌·◌, made, maybe, each}
use Rattle.cap_reading.proofs.Law.{Law, Leads, Apart, Starts, never, law_as, apart_sym, cond_yes, apart_never}
use Rattle.cap_reading.proofs.Items.{law_mapped}
use Rattle.cap_reading.proofs.Sequences.{law_then, leads_before}
use Rattle.cap_reading.proofs.Choices.{law_optional, law_either, from_or, from_made, leads_made}
use Rattle.cap_reading.proofs.Repetitions.{law_many, law_some, leads_some}
use Rattle.cap_grammar.specs.declared.symbol.Fixed.TheVariants as word
use Rattle.cap_grammar.specs.declared.symbol.Symbol.{Symbol}
use Rattle.cap_grammar.specs.declared.symbol.Symbol.TheVariants as symbol
use Rattle.cap_grammar.specs.declared.tree.ArgTok.{ArgTok}
use Rattle.cap_grammar.specs.declared.tree.ArgTok.TheVariants as argument
use Rattle.cap_grammar.specs.Grammar.{fixed, name, number, int, ref, arg, list, path}
use Rattle.cap_literals.specs.Reading.{is, is_name, is_number, starts_int, starts_arg, minus_int, plus_int, new_ref, int_at, ref_at, arg_at, names_at, list_at, next_name_at, path_at}
use Rattle.cap_literals.proofs.Symbols.{apart, law_behind, law_up_to, leads_fixed, law_only, law_never, only_this, fixed_begins}
pub use Rattle.cap_literals.proofs.Symbols.{law_name, law_operation, law_number, name_begins, number_begins}

-- int = [ "-" ] NUM
pub plus_to : (n : ℕ) (l : List Symbol) → number n l → int (plus_int n) l
plus_to n l h = record { front = []; rest = l; split = refl; first = refl; second = h }

pub plus_from : (n : ℕ) (l : List Symbol) → int (plus_int n) l → number n l
plus_from n l h = subst (number n) (sym (h.split ∙ ap (λ k. k ++ h.rest) h.first)) h.second

int_from : (b : Bool) (n : ℕ) (l : List Symbol) → int (record { minus = b; digits = n }) l → made minus_int (λ n. fixed word.Minus · number n) (record { minus = b; digits = n }) l ⊎ made plus_int number (record { minus = b; digits = n }) l
int_from true n l h = inl (n, refl, h)
int_from false n l h = inr (n, refl, plus_from n l h)

pub next_passes : (b c : Bool) → c ≡ true → cond b true c ≡ true
next_passes true c h = refl
next_passes false c h = h

-- what begins so begins as an integer or argument does
number_first : (l : List Symbol) → Starts is_number l → Starts starts_int l
number_first [] h = absurd h
number_first (t ∷ l) h = cond_yes (is_number t) true (is word.Minus t) h

minus_starts : (l : List Symbol) → Starts (is word.Minus) l → Starts starts_int l
minus_starts [] h = absurd h
minus_starts (t ∷ l) h = ap starts_int (only_this word.Minus t h)

name_first : (l : List Symbol) → Starts is_name l → Starts starts_arg l
name_first [] h = absurd h
name_first (t ∷ l) h = cond_yes (is_name t) true (starts_int t) h

int_next : (l : List Symbol) → Starts starts_int l → Starts starts_arg l
int_next [] h = absurd h
int_next (t ∷ l) h = next_passes (is_name t) (starts_int t) h

pub law_int : Law int_at int never
unfolding int_at
law_int =
    law_never (law_as int (from_or int (from_made int (λ n l h. h)) (from_made int plus_to)) (λ i l h. int_from i.minus i.digits l h)
    (law_either (is word.Minus)
    (law_mapped minus_int (law_behind word.Minus law_number))
    (law_mapped plus_int law_number)
    is_number
    (leads_made (is word.Minus) minus_int _ (leads_fixed word.Minus number))
    (leads_made is_number plus_int number number_begins)
    (apart_sym (apart word.Minus is_number refl))))

int_starts : (b : Bool) (n : ℕ) (l : List Symbol) → int (record { minus = b; digits = n }) l → Starts starts_int l
int_starts true n l h = minus_starts l (fixed_begins word.Minus (number n) l h)
int_starts false n l h = number_first l (number_begins n l (plus_from n l h))

pub int_begins : Leads starts_int int
int_begins i l h = int_starts i.minus i.digits l h

-- ref = NAME [ "." NUM ]
pub law_ref : Law ref_at ref (is word.Dot)
unfolding ref_at
law_ref =
    law_only (is word.Dot)
    (law_as ref (from_made ref (λ x l h. h)) (λ r l h. ((r.name, r.part), refl, h))
    (law_mapped new_ref (law_then law_name (law_optional (is word.Dot) (law_behind word.Dot law_number) (leads_fixed word.Dot number)))))

pub ref_begins : Leads is_name ref
ref_begins r l h = leads_before is_name name (maybe (λ n. fixed word.Dot · number n) r.part) name_begins r.name l h

-- ref | int
arg_from : (a : ArgTok) (l : List Symbol) → arg a l → made argument.Ref ref a l ⊎ made argument.Int int a l
arg_from (argument.Ref r) l h = inl (r, refl, h)
arg_from (argument.Int i) l h = inr (i, refl, h)

names_apart : Apart starts_int is_name
names_apart (symbol.Fixed w) h = refl
names_apart (symbol.Operation op) h = refl
names_apart (symbol.Name n) h = cc
names_apart (symbol.Number n) h = refl
names_apart symbol.Nought h = refl

pub law_arg : Law arg_at arg (is word.Dot)
unfolding arg_at
law_arg =
    law_only (is word.Dot)
    (law_as arg (from_or arg (from_made arg (λ r l h. h)) (from_made arg (λ i l h. h))) arg_from
    (law_either is_name
    (law_mapped argument.Ref law_ref)
    (law_mapped argument.Int law_int)
    starts_int
    (leads_made is_name argument.Ref ref ref_begins)
    (leads_made starts_int argument.Int int int_begins)
    names_apart))

pub arg_begins : Leads starts_arg arg
arg_begins (argument.Ref r) l h = name_first l (ref_begins r l h)
arg_begins (argument.Int i) l h = int_next l (int_begins i l h)

-- list = "[" {NAME} "]"
pub law_names : Law names_at (each name) is_name
unfolding names_at
law_names = law_only is_name (law_many is_name law_name name_begins (apart_never is_name))

pub law_list : Law list_at list never
unfolding list_at
law_list = law_behind word.Open (law_up_to word.Close refl law_names)

pub list_begins : Leads (is word.Open) list
list_begins = leads_fixed word.Open (λ names. each name names · fixed word.Close)

-- path = NAME { "*" NAME }
pub law_next_name : Law next_name_at (λ n. fixed word.Star · name n) never
unfolding next_name_at
law_next_name = law_behind word.Star law_name

pub next_name_begins : Leads (is word.Star) (λ n. fixed word.Star · name n)
next_name_begins = leads_fixed word.Star name

pub law_path : Law path_at path (is word.Star)
unfolding path_at
law_path =
    law_only (is word.Star)
    (law_some (is word.Star) law_name law_next_name next_name_begins (apart_never (is word.Star)) (apart_never (is word.Star)) (λ t h. refl))

pub path_begins : Leads is_name path
path_begins = leads_some is_name name (λ n. fixed word.Star · name n) name_begins
