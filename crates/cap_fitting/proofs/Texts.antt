-- What the text of a script says of its operations and integers: an operation is one of the 44, and an integer has at most 16 digits.
use Rattle.std.proofs.Common.{◌≡◌, inl, inr, ℕ, ◌^◌, ◌<◌, List, [], ◌∷◌, ◌++◌, length, refl, ap, ◌∙◌, subst, arith}
use Rattle.std.specs.List.{All}
use Rattle.std.specs.Str.Parse.{digits_value}
use Rattle.std.proofs.lemmas.List.{map-append}
use Rattle.std.proofs.lemmas.List.Elements.{All-nil, All-cons}
use Rattle.std.proofs.Math.Seq.{take-length}
use Rattle.cap_names.specs.Words.{IsNumber}
use Rattle.cap_names.proofs.OperationNames.{number_within}
use Rattle.cap_reading.specs.Languages.{◌·◌, each}
use Rattle.cap_grammar.specs.declared.symbol.Symbol.{Symbol}
use Rattle.cap_grammar.specs.declared.symbol.Symbol.TheVariants as symbol
use Rattle.cap_grammar.specs.declared.tree.Place.{Place}
use Rattle.cap_grammar.specs.declared.tree.ArgTok.{ArgTok}
use Rattle.cap_grammar.specs.declared.tree.ArgTok.TheVariants as argument
use Rattle.cap_grammar.specs.declared.tree.ObjTok.{ObjTok}
use Rattle.cap_grammar.specs.declared.tree.MorTok.{MorTok}
use Rattle.cap_grammar.specs.declared.tree.Command.{Command}
use Rattle.cap_grammar.specs.declared.tree.Command.TheVariants.{Register, Finalise, Plan, Object, Src, Tgt, Let, Call}
use Rattle.cap_grammar.specs.declared.tree.Item.{Item}
use Rattle.cap_grammar.specs.declared.tree.Item.TheVariants as top
use Rattle.cap_grammar.specs.declared.tree.Script.{Script}
use Rattle.cap_grammar.specs.Grammar.{number, arg, command, part}
use Rattle.cap_grammar.specs.Scripts.{Mark, symbols, whole_lines, placed, IsSession, IsScript}
use Rattle.cap_symbols.proofs.Digits.{small_value}
use Rattle.cap_lines.specs.Marks.{marks}
use Rattle.cap_printer.proofs.Good.{HasToken, Each}
use Rattle.cap_printer.proofs.Lines.{tokens_stand, each_whole}
use Rattle.cap_script.specs.Scripts.{end_of}
use Rattle.cap_ops.specs.Ends.{IsOperation}
use Rattle.cap_block_faults.specs.Names.{Part}
use Rattle.cap_faults.specs.Scripts.{SessionCommand, Session}
use Rattle.cap_sound.specs.Given.{IsGiven}
use Rattle.cap_fitting.specs.Given.{IsShortArgument, IsWritten, IsWrittenItem}

-- a symbol of some text
abbrev pub IsFine : Symbol → Type 0
IsFine (symbol.Fixed w) = Unit {0}
IsFine (symbol.Operation op) = IsOperation op.0
IsFine (symbol.Name n) = Unit {0}
IsFine (symbol.Number n) = n < 10 ^ 16
IsFine symbol.Nought = Unit {0}

abbrev pub AllFine : List Symbol → Type 0
AllFine l = Each IsFine l

number_small : (n : ℕ) (bs : List ℕ) → IsNumber bs → digits_value 10 bs ≡ n → n < 10 ^ 16
number_small n bs is e =
    let a = small_value bs (length bs) is in
    let b = ap (digits_value 10) (take-length bs) in
    omega (arith, a, b, e)

fine : (s : Symbol) → HasToken s → IsFine s
fine (symbol.Fixed w) h = tt
fine (symbol.Operation op) h = (h.1.first, number_within op.0 h.0 h.1)
fine (symbol.Name n) h = tt
fine (symbol.Number n) h = number_small n h.0 h.1.0 h.1.1
fine symbol.Nought h = tt

all_fine : (l : List Symbol) → Each HasToken l → AllFine l
all_fine [] h = tt
all_fine (s ∷ l) h = (fine s h.0, all_fine l h.1)

-- pieces of fine texts
front_fine : (a b : List Symbol) → AllFine (a ++ b) → AllFine a
front_fine [] b h = tt
front_fine (s ∷ a) b h = (h.0, front_fine a b h.1)

rest_fine : (a b : List Symbol) → AllFine (a ++ b) → AllFine b
rest_fine [] b h = h
rest_fine (s ∷ a) b h = rest_fine a b h.1

fine_front : {p q : List Symbol → Type 0} (l : List Symbol) (j : (p · q) l) → AllFine l → AllFine j.front
fine_front l j h = front_fine j.front j.rest (subst AllFine j.split h)

fine_rest : {p q : List Symbol → Type 0} (l : List Symbol) (j : (p · q) l) → AllFine l → AllFine j.rest
fine_rest l j h = rest_fine j.front j.rest (subst AllFine j.split h)

marks_front : (ms a b : List Mark) → ms ≡ a ++ b → AllFine (symbols ms) → AllFine (symbols a)
marks_front ms a b e h = front_fine (symbols a) (symbols b) (subst AllFine (ap symbols e ∙ map-append (λ m. m.symbol) a b) h)

marks_rest : (ms a b : List Mark) → ms ≡ a ++ b → AllFine (symbols ms) → AllFine (symbols b)
marks_rest ms a b e h = rest_fine (symbols a) (symbols b) (subst AllFine (ap symbols e ∙ map-append (λ m. m.symbol) a b) h)

-- the operation and the integers of a command
digits_short : (n : ℕ) (l : List Symbol) → number n l → AllFine l → n < 10 ^ 16
digits_short n l (inl e) h = (subst AllFine e h).0
digits_short n l (inr e) h = let z = e.0 in omega (arith, z)

argument_short : (a : ArgTok) (l : List Symbol) → arg a l → AllFine l → IsShortArgument a
argument_short (argument.Ref r) l t h = tt
argument_short (argument.Int i) l t h = digits_short i.digits t.rest t.second (fine_rest l t h)

arguments_short : (args : List ArgTok) (l : List Symbol) → each arg args l → AllFine l → All IsShortArgument args
arguments_short [] l t h = All-nil IsShortArgument
arguments_short (a ∷ args) l t h = All-cons IsShortArgument a args (argument_short a t.front t.first (fine_front l t h)) (arguments_short args t.rest t.second (fine_rest l t h))

command_written : (c : Command ObjTok MorTok) (l : List Symbol) → command c l → AllFine l → IsWritten c
command_written (Register cat op weight) l t h =
    let third = t.second.second in
    (subst AllFine third.first (fine_front t.second.rest third (fine_rest t.rest t.second (fine_rest l t h)))).0
command_written (Finalise cat) l t h = tt
command_written (Plan cat) l t h = tt
command_written (Object cat x lit) l t h = tt
command_written (Src x of) l t h = tt
command_written (Tgt x of) l t h = tt
command_written (Let x cat src tgt lit) l t h = tt
command_written (Call x cat op args) l t h =
    let third = t.second.second in
    let fifth = third.second.second in
    let behind = fine_rest third.rest third.second (fine_rest t.second.rest third (fine_rest t.rest t.second (fine_rest l t h))) in
    ((subst AllFine fifth.first (fine_front third.second.rest fifth behind)).0, arguments_short args fifth.second.front fifth.second.first (fine_front fifth.rest fifth.second (fine_rest third.second.rest fifth behind)))

item_written : (n : Item ObjTok MorTok) (l : List Symbol) → part n l → AllFine l → IsWrittenItem n
item_written (top.Block b) l t h = tt
item_written (top.Category n over) l t h = tt
item_written (top.Command c) l t h = command_written c l t h

-- the text of one among all
pub record TextAt {A : Type 0} (P : A → List Mark → Type 0) (x : A) : Type 0 where
  pub text : List Mark
  pub is : P x text
  pub fine : AllFine (symbols text)

text_at : {A : Type 0} (P : A → List Mark → Type 0) (before behind : List A) (x : A) (text : List Mark) → each P (before ++ (x ∷ behind)) text → AllFine (symbols text) → TextAt P x
text_at P [] behind x text t h = record { text = t.front; is = t.first; fine = marks_front text t.front t.rest t.split h }
text_at P (y ∷ before) behind x text t h = text_at P before behind x t.rest t.second (marks_rest text t.front t.rest t.split h)

-- each command of a script of some text is written so
pub record ScriptText (s : Script) : Type 0 where
  pub text : List Mark
  pub is : IsScript s text
  pub fine : AllFine (symbols text)

have_tokens : (ss : List Symbol) (ps : List Place) → Each HasToken ss → Each HasToken (symbols (marks ss ps))
have_tokens [] ps h = tt
have_tokens (s ∷ ss) [] h = tt
have_tokens (s ∷ ss) (p ∷ ps) h = (h.0, have_tokens ss ps h.1)

pub script_text : (s : Script) → IsGiven s → ScriptText s
script_text s given = record {
  text = whole_lines (marks given.1.symbols given.1.places) (end_of given.0);
  is = given.1.text;
  fine = all_fine _ (each_whole (marks given.1.symbols given.1.places) (end_of given.0) (have_tokens given.1.symbols given.1.places (tokens_stand given.0 given.1.are.tokens given.1.symbols given.1.are.stand)));
}

pub part_written : (s : Script) → IsGiven s → (before behind : List Part) (p : Part) → s.prelude ≡ before ++ (p ∷ behind) → IsWrittenItem p.node
part_written s given before behind p e =
    let t = script_text s given in
    let here = text_at (placed part) before behind p t.is.front (subst (λ xs. each (placed part) xs t.is.front) e t.is.first) (marks_front t.text t.is.front t.is.rest t.is.split t.fine) in
    item_written p.node (symbols here.text) here.is.0 here.fine

pub session_text : (s : Script) → IsGiven s → (before behind : List Session) (x : Session) → s.sessions ≡ before ++ (x ∷ behind) → TextAt IsSession x
session_text s given before behind x e =
    let t = script_text s given in
    text_at IsSession before behind x t.is.rest (subst (λ xs. each IsSession xs t.is.rest) e t.is.second) (marks_rest t.text t.is.front t.is.rest t.is.split t.fine)

pub command_written_at : (x : Session) → TextAt IsSession x → (before behind : List SessionCommand) (c : SessionCommand) → x.node.commands ≡ before ++ (c ∷ behind) → IsWritten c.node
command_written_at x t before behind c e =
    let s = t.is in
    let inner = marks_rest (s.first ++ s.inner) s.first s.inner refl (marks_front t.text (s.first ++ s.inner) s.last s.whole t.fine) in
    let here = text_at (placed command) before behind c s.inner (subst (λ xs. each (placed command) xs s.inner) e s.commands) inner in
    command_written c.node (symbols here.text) here.is.0 here.fine
