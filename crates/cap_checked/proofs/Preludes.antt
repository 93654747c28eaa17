-- The parts of a prelude, taken from the end.
use Rattle.std.proofs.Common.{◌≡◌, List, [], ◌∷◌, ◌++◌, reverse, sym, ap, ◌∙◌, append_assoc, append-nil}
use Rattle.std.proofs.lemmas.List.{reverse-append}
use Rattle.cap_names.specs.declared.literals.MorLit.{MorLit}
use Rattle.cap_grammar.specs.declared.tree.Item.{Item}
use Rattle.cap_grammar.specs.declared.tree.Placed.{Placed}
use Rattle.cap_checked.specs.declared.tree.CheckedObj.{CheckedObj}
use Rattle.cap_block_faults.specs.Names.{Part}
use Rattle.cap_checked.specs.Checked.{part, parts_behind, prelude}

behind_at_end : (before parts : List Part) (p : Part) → parts_behind before (parts ++ p ∷ []) ≡ parts_behind before parts ++ part (before ++ parts) p ∷ []
behind_at_end before [] p = ap (λ l. part l p ∷ []) (sym (append-nil before))
behind_at_end before (q ∷ parts) p =
    ap (λ l. part before q ∷ l) (behind_at_end (before ++ q ∷ []) parts p)
    ∙ ap (λ l. part before q ∷ parts_behind (before ++ q ∷ []) parts ++ part l p ∷ []) (append_assoc before (q ∷ []) parts)

-- the last part, behind the others
pub prelude_at_end : (parts : List Part) (p : Part) → prelude (parts ++ p ∷ []) ≡ prelude parts ++ part parts p ∷ []
prelude_at_end parts p = behind_at_end [] parts p

-- a part is taken from the end, and what it gives is put before what the later ones gave
pub prelude_step : (whole : List (Placed (Item CheckedObj MorLit))) (old new : List Part) (p : Part) (before after : List (Placed (Item CheckedObj MorLit))) → old ≡ new ++ p ∷ [] → after ≡ before ++ part new p ∷ [] → whole ≡ prelude old ++ reverse before → whole ≡ prelude new ++ reverse after
prelude_step whole old new p before after taken put was =
    was ∙ ap (λ l. prelude l ++ reverse before) taken
    ∙ ap (λ l. l ++ reverse before) (prelude_at_end new p)
    ∙ append_assoc (prelude new) (part new p ∷ []) (reverse before)
    ∙ ap (λ l. prelude new ++ l) (sym (reverse-append before (part new p ∷ [])))
    ∙ ap (λ l. prelude new ++ reverse l) (sym put)
