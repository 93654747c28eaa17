-- The numbers of a text are below 10^16.
use Rattle.std.proofs.Common.{◌≡◌, ℕ, ◌^◌, ◌<◌, List, [], ◌∷◌, ◌++◌, length, ap, ◌∙◌, subst, arith}
use Rattle.std.specs.Str.Parse.{digits_value}
use Rattle.std.proofs.lemmas.List.{map-append}
use Rattle.std.proofs.Math.Seq.{take-length}
use Rattle.cap_names.specs.Words.{IsNumber}
use Rattle.cap_reading.specs.Languages.{◌·◌}
use Rattle.cap_grammar.specs.declared.symbol.Symbol.{Symbol}
use Rattle.cap_grammar.specs.declared.symbol.Symbol.TheVariants as symbol
use Rattle.cap_grammar.specs.declared.tree.Place.{Place}
use Rattle.cap_grammar.specs.declared.tree.Script.{Script}
use Rattle.cap_grammar.specs.Scripts.{Mark, symbols, whole_lines, IsScript}
use Rattle.cap_symbols.proofs.Digits.{small_value}
use Rattle.cap_lines.specs.Marks.{marks}
use Rattle.cap_printer.proofs.Good.{HasToken, Each}
use Rattle.cap_printer.proofs.Lines.{tokens_stand, each_whole}
use Rattle.cap_script.specs.Scripts.{end_of}
use Rattle.cap_sound.specs.Given.{IsGiven}

abbrev pub IsShort : Symbol → Type 0
IsShort (symbol.Number n) = n < 10 ^ 16
IsShort _ = Unit {0}

abbrev pub AllShort : List Symbol → Type 0
AllShort l = Each IsShort l

number_short : (n : ℕ) (bs : List ℕ) → IsNumber bs → digits_value 10 bs ≡ n → n < 10 ^ 16
number_short n bs is e =
    let a = small_value bs (length bs) is in
    let b = ap (digits_value 10) (take-length bs) in
    omega (arith, a, b, e)

short : (s : Symbol) → HasToken s → IsShort s
short (symbol.Number n) h = number_short n h.0 h.1.0 h.1.1
short (symbol.Fixed w) h = tt
short (symbol.Operation op) h = tt
short (symbol.Name n) h = tt
short symbol.Nought h = tt

all_short : (l : List Symbol) → Each HasToken l → AllShort l
all_short [] h = tt
all_short (s ∷ l) h = (short s h.0, all_short l h.1)

-- symbols with places
marks_have_tokens : (ss : List Symbol) (ps : List Place) → Each HasToken ss → Each HasToken (symbols (marks ss ps))
marks_have_tokens [] ps h = tt
marks_have_tokens (s ∷ ss) [] h = tt
marks_have_tokens (s ∷ ss) (p ∷ ps) h = (h.0, marks_have_tokens ss ps h.1)

-- pieces
front_short : (a b : List Symbol) → AllShort (a ++ b) → AllShort a
front_short [] b h = tt
front_short (s ∷ a) b h = (h.0, front_short a b h.1)

rest_short : (a b : List Symbol) → AllShort (a ++ b) → AllShort b
rest_short [] b h = h
rest_short (s ∷ a) b h = rest_short a b h.1

pub short_front : {p q : List Symbol → Type 0} (l : List Symbol) (j : (p · q) l) → AllShort l → AllShort j.front
short_front l j h = front_short j.front j.rest (subst AllShort j.split h)

pub short_rest : {p q : List Symbol → Type 0} (l : List Symbol) (j : (p · q) l) → AllShort l → AllShort j.rest
short_rest l j h = rest_short j.front j.rest (subst AllShort j.split h)

pub marks_front : (ms a b : List Mark) → ms ≡ a ++ b → AllShort (symbols ms) → AllShort (symbols a)
marks_front ms a b e h = front_short (symbols a) (symbols b) (subst AllShort (ap symbols e ∙ map-append (λ m. m.symbol) a b) h)

pub marks_rest : (ms a b : List Mark) → ms ≡ a ++ b → AllShort (symbols ms) → AllShort (symbols b)
marks_rest ms a b e h = rest_short (symbols a) (symbols b) (subst AllShort (ap symbols e ∙ map-append (λ m. m.symbol) a b) h)

-- a script of some text, with the symbols of its lines
pub record Lined (s : Script) : Type 0 where
  pub text : List Mark
  pub is : IsScript s text
  pub short : AllShort (symbols text)

pub lined : (s : Script) → IsGiven s → Lined s
lined s given = record {
  text = whole_lines (marks given.1.symbols given.1.places) (end_of given.0);
  is = given.1.text;
  short = all_short _ (each_whole (marks given.1.symbols given.1.places) (end_of given.0) (marks_have_tokens given.1.symbols given.1.places (tokens_stand given.0 given.1.are.tokens given.1.symbols given.1.are.stand)));
}
