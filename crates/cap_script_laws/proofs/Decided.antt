-- Each text is one of a script or has a fault.
use Rattle.std.proofs.Common.{◌≡◌, ℕ, ◌-◌, List, map, length, Result, Ok, Err, true, refl, subst, inl, inr, ⊎_elim}
use Rattle.std.specs.Prelude.{◌⊎◌, slice_index_or}
use Rattle.cap_names.specs.declared.reasons.Reason.TheVariants.{Token, Syntax}
use Rattle.cap_names.specs.Tokens.{IsBadAt}
use Rattle.cap_names.specs.Laws.{HasTokens}
use Rattle.cap_names.proofs.Decided.{tokens_or_bad_byte}
use Rattle.cap_names.proofs.Slices.{tokens_are_slices}
use Rattle.cap_reading.specs.Steps.{whole}
use Rattle.cap_reading.proofs.Whole.{found}
use Rattle.cap_grammar.specs.declared.symbol.Symbol.{Symbol}
use Rattle.cap_grammar.specs.declared.tree.Place.{Place}
use Rattle.cap_grammar.specs.Scripts.{Mark, symbols, whole_lines, IsFault}
use Rattle.cap_symbols.specs.Marks.{place_at, AreSymbols}
use Rattle.cap_lines.specs.Marks.{marks, position}
use Rattle.cap_lines.proofs.Cuts.{symbols_marks}
use Rattle.cap_lines.proofs.Texts.{text_fault}
use Rattle.cap_parser.specs.Scripts.{script_at}
use Rattle.cap_parser.proofs.ScriptLaws.{law_script}
use Rattle.cap_script.specs.Scripts.{end_of, fault_at}
use Rattle.cap_script.proofs.Parsed.{a_place_each}
use Rattle.cap_script_laws.specs.Laws.{HasScript, HasCause, ScriptOrCause}
use Rattle.cap_script_laws.proofs.TokenSymbols.{symbols_of}

ok_or_err : {A E : Type 0} (r : Result A E) → ((a : A) × (r ≡ Ok a)) ⊎ ((e : E) × (r ≡ Err e))
ok_or_err (Ok a) = inl (a, refl)
ok_or_err (Err e) = inr (e, refl)

-- a text of these symbols has a script, or a first one with which no script goes on
of_symbols : (bs : List ℕ) (ss : List Symbol) (ps : List Place) → AreSymbols bs ss ps → HasScript bs ⊎ HasCause bs
of_symbols bs ss ps are =
    let text : List Mark = marks ss ps in
    let end : Place = end_of bs in
    ⊎_elim
    (λ ok. inl (ok.0, record { symbols = ss; places = ps; are = are; text = found law_script (whole_lines text end) ok.0 ok.1 }))
    (λ err.
    let n : ℕ = position true (symbols text) (length (whole_lines text end) - length err.0) in
    let first : IsFault ss n = subst (λ l. IsFault l n) (symbols_marks ss ps (a_place_each bs ss ps are)) (text_fault law_script text end err.0 err.1) in
    inr (fault_at (slice_index_or ps n end) Syntax, record { symbols = ss; places = ps; are = are; before = n; first = first; told = refl }))
    (ok_or_err (whole script_at (whole_lines text end)))

pub script_or_cause : ScriptOrCause
script_or_cause bs =
    ⊎_elim
    (λ (has : HasTokens bs).
    let ts = has.0 in
    let stand = symbols_of bs ts (tokens_are_slices bs ts has.1).slices in
    let places : List Place = map (λ t. place_at bs t.start) ts in
    of_symbols bs stand.0 places (record { tokens = ts; are = has.1; stand = stand.1; begin = refl }))
    (λ (bad : (n : ℕ) × IsBadAt bs n). inr (fault_at (place_at bs bad.0) Token, record { byte = bad.0; first = bad.1; told = refl }))
    (tokens_or_bad_byte bs)
