-- Worked examples of the definitions.
use Rattle.std.proofs.Common.{◌≡◌, [], ◌∷◌, refl}
use Rattle.std.specs.Prelude.{codes, pos, neg_ℤ, true}
use Rattle.cap_names.specs.declared.reasons.Reason.TheVariants.{Known, Limit}
use Rattle.cap_names.specs.declared.literals.EntryLit.TheVariants as entries
use Rattle.cap_grammar.specs.declared.tree.Script.{Script}
use Rattle.cap_grammar.specs.declared.tree.EntryTok.TheVariants as cell
use Rattle.cap_grammar.specs.declared.tree.ObjTok.TheVariants.{Dim}
use Rattle.cap_grammar.specs.declared.tree.Over.TheVariants.{Vec}
use Rattle.cap_grammar.specs.declared.tree.Command.TheVariants.{Finalise, Object}
use Rattle.cap_grammar.specs.declared.tree.Item.TheVariants as top
use Rattle.cap_sound.specs.Marked.{script_marks, told_reasons}
use Rattle.cap_sound.specs.Dimensions.{script_dimensions}
use Rattle.cap_sound.specs.Plain.{number, entry}

-- category V vec 5, object V a = 2049, finalise W: the marks don't need the places
script : Script
script = record {
  prelude = record { node = top.Category (codes "V") (Vec 5); places = [] } ∷ record { node = top.Command (Object (codes "V") (codes "a") (Dim 2049)); places = [] }
      ∷ record { node = top.Command (Finalise (codes "W")); places = [] } ∷ [];
  sessions = [];
}

-- the dimension passes its limit, and W is not bound
two_reasons : told_reasons (script_marks script) ≡ Limit ∷ Known ∷ []
unfolding script
two_reasons = refl

one_dimension : script_dimensions script ≡ 2049 ∷ []
unfolding script
one_dimension = refl

-- the first of two equal names has the number
first_number : number (codes "A" ∷ codes "B" ∷ codes "B" ∷ []) (codes "B") ≡ 1
first_number = refl

large_entry : entry (cell.Int (record { minus = true; digits = 10000000000000000000 })) ≡ entries.Int (neg_ℤ (pos 10000000000000000000))
large_entry = refl
