-- The faults of two small scripts, computed.
use Rattle.std.proofs.Common.{◌≡◌, ℕ, List, [], ◌∷◌, refl}
use Rattle.std.specs.Prelude.{codes}
use Rattle.cap_names.specs.declared.reasons.BadScript.{BadScript}
use Rattle.cap_names.specs.declared.reasons.Reason.{Reason}
use Rattle.cap_names.specs.declared.reasons.Reason.TheVariants.{Known, Taken, Prime}
use Rattle.cap_grammar.specs.declared.tree.Place.{Place}
use Rattle.cap_grammar.specs.declared.tree.Script.{Script}
use Rattle.cap_grammar.specs.declared.tree.Over.TheVariants.{Vec, Add}
use Rattle.cap_grammar.specs.declared.tree.Item.TheVariants as top
use Rattle.cap_block_faults.specs.Names.{Part}
use Rattle.cap_faults.specs.Scripts.{script_faults}

abbrev at : ℕ → ℕ → Place
at line column = record { line = line; column = column }

abbrev wrong : ℕ → ℕ → Reason → BadScript
wrong line column reason = record { line = line; column = column; reason = reason }

abbrev prelude_of : List Part → Script
prelude_of parts = record { prelude = parts; sessions = [] }

-- category V vec 9
abbrev nine : Part
nine = record { node = top.Category (codes "V") (Vec 9); places = at 1 1 ∷ at 1 10 ∷ at 1 12 ∷ at 1 16 ∷ at 1 17 ∷ [] }

nine_is_no_prime : script_faults (prelude_of (nine ∷ [])) ≡ wrong 1 16 Prime ∷ []
nine_is_no_prime = refl

-- category V vec 9, and in line 2 category V add T: the faults stand in the order of the text
abbrev again : Part
again = record { node = top.Category (codes "V") (Add (codes "T")); places = at 2 1 ∷ at 2 10 ∷ at 2 12 ∷ at 2 16 ∷ at 2 17 ∷ [] }

faults_in_order : script_faults (prelude_of (nine ∷ again ∷ [])) ≡ wrong 1 16 Prime ∷ wrong 2 10 Taken ∷ wrong 2 16 Known ∷ []
faults_in_order = refl
