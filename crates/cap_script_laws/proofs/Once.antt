-- What is said of a text as a script is said of no other.
use Rattle.std.proofs.Common.{◌≡◌, ℕ, suc, ◌<◌, ◌≤◌, List, ◌++◌, length, take, drop, sym, ap, ◌∙◌, subst, ⊎_elim, arith, append_assoc}
use Rattle.std.specs.Prelude.{slice_index_or}
use Rattle.std.proofs.lemmas.Bool.{cases_lt}
use Rattle.std.proofs.lemmas.List.{take-take, take-append-drop}
use Rattle.cap_names.specs.declared.reasons.BadScript.{BadScript}
use Rattle.cap_names.specs.declared.reasons.Reason.{Reason}
use Rattle.cap_names.specs.declared.reasons.Reason.TheVariants.{Token, Syntax, Known, Taken, Sort, Prime, Limit}
use Rattle.cap_names.specs.Tokens.{IsBadAt}
use Rattle.cap_names.proofs.Pieces.{one_bad_byte, bad_has_none}
use Rattle.cap_reading.proofs.Whole.{one_value}
use Rattle.cap_grammar.specs.declared.symbol.Symbol.{Symbol}
use Rattle.cap_grammar.specs.declared.tree.Place.{Place}
use Rattle.cap_grammar.specs.declared.tree.Script.{Script}
use Rattle.cap_grammar.specs.Scripts.{whole_lines, GoesOn, IsFault}
use Rattle.cap_symbols.specs.Marks.{place_at, AreSymbols}
use Rattle.cap_symbols.proofs.OneText.{one_symbol_list}
use Rattle.cap_lines.specs.Marks.{marks}
use Rattle.cap_lines.proofs.Cuts.{symbols_marks}
use Rattle.cap_parser.proofs.ScriptLaws.{law_script}
use Rattle.cap_script.specs.Scripts.{end_of, fault_at, IsParsed, IsTokenFault, IsSyntaxFault, IsCauseBy}
use Rattle.cap_script.proofs.Parsed.{a_place_each, text_of_these, no_bad_byte}
use Rattle.cap_script_laws.specs.Laws.{OneScript, NoScriptWithFault, OneFault}

-- two numbers of which neither is less are equal
pub neither_less : (m n : ℕ) → (m < n → ⊥) → (n < m → ⊥) → m ≡ n
neither_less m n less more =
    ⊎_elim
    (λ (lt : m < n). absurd (less lt))
    (λ (ge : n ≤ m). ⊎_elim (λ (gt : n < m). absurd (more gt)) (λ (le : m ≤ n). omega (arith, ge, le)) (cases_lt n m))
    (cases_lt m n)

pub one_script : OneScript
one_script bs s t h k = one_value law_script (whole_lines (marks k.symbols k.places) (end_of bs)) s t (text_of_these bs k.symbols k.places s k.are h) k.text

-- a text of a script has no first token with which no script goes on
no_syntax_fault : (bs : List ℕ) (s : Script) (bad : BadScript) → IsParsed bs s → IsSyntaxFault bs bad → ⊥
no_syntax_fault bs s bad parsed fault =
    fault.first.none (marks fault.symbols fault.places) (symbols_marks fault.symbols fault.places (a_place_each bs fault.symbols fault.places fault.are)) (end_of bs) s
    (text_of_these bs fault.symbols fault.places s fault.are parsed)

no_fault_by : (r : Reason) (bs : List ℕ) (s : Script) (bad : BadScript) → IsParsed bs s → IsCauseBy r bs bad → ⊥
no_fault_by Token bs s bad parsed fault = no_bad_byte bs fault.byte s fault.first parsed
no_fault_by Syntax bs s bad parsed fault = no_syntax_fault bs s bad parsed fault
no_fault_by Known bs s bad parsed fault = fault
no_fault_by Taken bs s bad parsed fault = fault
no_fault_by Sort bs s bad parsed fault = fault
no_fault_by Prime bs s bad parsed fault = fault
no_fault_by Limit bs s bad parsed fault = fault

pub script_or_fault : NoScriptWithFault
script_or_fault bs s bad parsed cause = no_fault_by bad.reason bs s bad parsed cause

-- a text with tokens has no bad byte
no_bad_token : (bs : List ℕ) (n : ℕ) (xs : List Symbol) (ps : List Place) → IsBadAt bs n → AreSymbols bs xs ps → ⊥
no_bad_token bs n xs ps bad are = bad_has_none bs n bad are.tokens are.are

-- a shorter front of a front
take_of_take : {A : Type 0} (m n : ℕ) (xs : List A) → m ≤ n → take n xs ≡ take m xs ++ drop m (take n xs)
take_of_take m n xs le = sym (take-append-drop m (take n xs)) ∙ ap (λ l. l ++ drop m (take n xs)) (take-take m n xs le)

-- a front of a front with which a script goes on is one
goes_on_before : (text : List Symbol) (m n : ℕ) → m ≤ n → GoesOn (take n text) → GoesOn (take m text)
goes_on_before text m n le on = (
  on.0,
  drop m (take n text) ++ on.1,
  on.2 ∙ ap (λ l. l ++ on.1) (take_of_take m n text le) ∙ append_assoc (take m text) (drop m (take n text)) on.1,
  on.3,
  on.4,
  on.5,
)

not_before : (text : List Symbol) (m n : ℕ) → IsFault text m → IsFault text n → m < n → ⊥
not_before text m n h k lt =
    let within : n ≤ length text = k.within in
    h.after (omega (arith, lt, within)) (goes_on_before text (suc m) n lt k.before)

one_place : (text : List Symbol) (m n : ℕ) → IsFault text m → IsFault text n → m ≡ n
one_place text m n h k = neither_less m n (not_before text m n h k) (not_before text n m k h)

one_token_fault : (bs : List ℕ) (a b : BadScript) → IsTokenFault bs a → IsTokenFault bs b → a ≡ b
one_token_fault bs a b h k = h.told ∙ ap (λ n. fault_at (place_at bs n) Token) (one_bad_byte bs h.byte k.byte h.first k.first) ∙ sym k.told

one_syntax_fault : (bs : List ℕ) (a b : BadScript) → IsSyntaxFault bs a → IsSyntaxFault bs b → a ≡ b
one_syntax_fault bs a b h k =
    let one = one_symbol_list bs h.symbols k.symbols h.places k.places h.are k.are in
    let same : h.before ≡ k.before = one_place k.symbols h.before k.before (subst (λ l. IsFault l h.before) one.0 h.first) k.first in
    h.told ∙ (λ i. fault_at (slice_index_or (one.1 i) (same i) (end_of bs)) Syntax) ∙ sym k.told

one_fault_by : (r q : Reason) (bs : List ℕ) (a b : BadScript) → IsCauseBy r bs a → IsCauseBy q bs b → a ≡ b
one_fault_by Token Token bs a b h k = one_token_fault bs a b h k
one_fault_by Token Syntax bs a b h k = absurd (no_bad_token bs h.byte k.symbols k.places h.first k.are)
one_fault_by Syntax Token bs a b h k = absurd (no_bad_token bs k.byte h.symbols h.places k.first h.are)
one_fault_by Syntax Syntax bs a b h k = one_syntax_fault bs a b h k
one_fault_by Token Known bs a b h k = absurd k
one_fault_by Token Taken bs a b h k = absurd k
one_fault_by Token Sort bs a b h k = absurd k
one_fault_by Token Prime bs a b h k = absurd k
one_fault_by Token Limit bs a b h k = absurd k
one_fault_by Syntax Known bs a b h k = absurd k
one_fault_by Syntax Taken bs a b h k = absurd k
one_fault_by Syntax Sort bs a b h k = absurd k
one_fault_by Syntax Prime bs a b h k = absurd k
one_fault_by Syntax Limit bs a b h k = absurd k
one_fault_by Known q bs a b h k = absurd h
one_fault_by Taken q bs a b h k = absurd h
one_fault_by Sort q bs a b h k = absurd h
one_fault_by Prime q bs a b h k = absurd h
one_fault_by Limit q bs a b h k = absurd h

pub one_fault : OneFault
one_fault bs a b h k = one_fault_by a.reason b.reason bs a b h k
