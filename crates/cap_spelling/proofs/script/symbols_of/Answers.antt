use Rattle.std.proofs.Common.{◌≡◌, List, map, ◌∙◌}
use Rattle.std.proofs.lemmas.Result.{IfOk-weaker}
use Rattle.cap_grammar.specs.Scripts.{Mark, symbols, IsScript}
use Rattle.cap_spelling.specs.Spelling.{script_symbols}
use Rattle.cap_spelling.specs.Again.{plain_zero, IsScriptUpToPlaces}
use Rattle.cap_spelling.proofs.Elsewhere.{script_again, script_same}
use Rattle.cap_spelling.proofs.script.symbols_of.Goals as goal

pub returns-clause-text : goal.returns-clause-text
returns-clause-text c =
    IfOk-weaker c.spelled.result (λ v. v.items ≡ script_symbols c.args.script.now) (λ v. (marks : List Mark) → IsScript c.args.script.now marks → v.items ≡ map plain_zero (symbols marks))
    (λ v e marks text. e ∙ script_same c.args.script.now marks text) c.spelled.ensures

pub returns-clause-again : goal.returns-clause-again
returns-clause-again c =
    IfOk-weaker c.spelled.result (λ v. v.items ≡ script_symbols c.args.script.now)
    (λ v. (own : List Mark) → IsScript c.args.script.now own → (marks : List Mark) → symbols marks ≡ v.items → IsScriptUpToPlaces c.args.script.now marks)
    (λ v e own text marks same. script_again c.args.script.now own marks text (same ∙ e ∙ script_same c.args.script.now own text)) c.spelled.ensures
