-- What is read of the whole lines of a text, said of the text.
use Rattle.std.proofs.Common.{◌≡◌, ◌-◌, ◌≤◌, List, length, true, Ok, Err, sym, ap, ◌∙◌, subst, arith}
use Rattle.cap_reading.specs.Steps.{whole}
use Rattle.cap_reading.proofs.Law.{ok_inj}
use Rattle.cap_reading.proofs.Whole.{found, only, rest_within, no_value}
use Rattle.cap_grammar.specs.declared.symbol.Symbol.{Symbol}
use Rattle.cap_grammar.specs.declared.tree.Place.{Place}
use Rattle.cap_grammar.specs.declared.tree.Script.{Script}
use Rattle.cap_grammar.specs.Scripts.{Mark, symbols, whole_lines, IsTextOf, IsFault}
use Rattle.cap_lines.specs.Marks.{marks, position}
use Rattle.cap_lines.proofs.Cuts.{length_symbols, length_marks}
use Rattle.cap_lines.proofs.Texts.{text_fault}
use Rattle.cap_parser.specs.Scripts.{script_at}
use Rattle.cap_parser.proofs.ScriptLaws.{law_script}

-- reading the kept symbols fails at these
abbrev pub Failing : List Symbol → List Place → List Symbol → Type 0
Failing ks kp rest = (m : List Mark) × (whole script_at (marks ks kp) ≡ Err m) × (symbols m ≡ rest)

module _ (text : List Mark) (end : Place) (ks : List Symbol) (kp : List Place) (same : length ks ≡ length kp) (lines : marks ks kp ≡ whole_lines text end) where
  pub text_found : (s : Script) → whole script_at (marks ks kp) ≡ Ok s → IsTextOf s text end
  text_found s h = found law_script (whole_lines text end) s (ap (whole script_at) (sym lines) ∙ h)

  pub text_only : (r s : Script) → whole script_at (marks ks kp) ≡ Ok r → IsTextOf s text end → r ≡ s
  text_only r s h t = ok_inj {F = List Mark} r s (sym (ap (whole script_at) (sym lines) ∙ h) ∙ only law_script (whole_lines text end) s t)

  pub text_rest : (rest : List Symbol) → Failing ks kp rest → length rest ≤ length ks
  text_rest rest h =
      let n : length (symbols h.0) ≡ length rest = ap length h.2 in
      omega (arith, n, length_symbols h.0, length_marks ks kp same, rest_within law_script (marks ks kp) h.0 h.1)

  pub text_none : (rest : List Symbol) → Failing ks kp rest → (s : Script) → IsTextOf s text end → ⊥
  text_none rest h s t = no_value law_script (whole_lines text end) h.0 (ap (whole script_at) (sym lines) ∙ h.1) s t

  pub text_at : (rest : List Symbol) → Failing ks kp rest → IsFault (symbols text) (position true (symbols text) (length ks - length rest))
  text_at rest h =
      subst (λ n. IsFault (symbols text) (position true (symbols text) n))
      (λ i. (ap length (sym lines) ∙ length_marks ks kp same) i - (sym (length_symbols h.0) ∙ ap length h.2) i)
      (text_fault law_script text end h.0 (ap (whole script_at) (sym lines) ∙ h.1))
