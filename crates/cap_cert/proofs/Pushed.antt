-- The lines that are still to be written, by place.
use Rattle.std.proofs.Common.{◌≡◌, ℕ, ◌+◌, ◌<◌, ◌≤◌, List, [], ◌∷◌, ◌++◌, length, drop, Option, Some, None, refl, ap, sym, ◌∙◌, drop-cons, add-one, get_or, append_assoc}
use Rattle.std.specs.List.{flat_map}
use Rattle.std.specs.Fmt.{decimal}
use Rattle.std.proofs.lemmas.List.{drop_all}
use Rattle.cap_ops.specs.declared.plans.Choice.{Choice}
use Rattle.cap_cert.specs.Texts.{line_text, op_line, op_lines, way_of, ways_of, regs_from}

pub regs_none : (weights : List (Option ℕ)) (i : ℕ) (d : Option ℕ) → i < length weights → get_or weights i d ≡ None → regs_from i (drop i weights) ≡ regs_from (i + 1) (drop (i + 1) weights)
regs_none weights i d h e = rw (drop-cons weights i d h, add-one, e) refl

pub regs_some : (weights : List (Option ℕ)) (i w : ℕ) (d : Option ℕ) → i < length weights → get_or weights i d ≡ Some w → regs_from i (drop i weights) ≡ (i, decimal w) ∷ regs_from (i + 1) (drop (i + 1) weights)
regs_some weights i w d h e = rw (drop-cons weights i d h, add-one, e) refl

pub regs_end : (weights : List (Option ℕ)) (i : ℕ) → length weights ≤ i → regs_from i (drop i weights) ≡ []
regs_end weights i h = rw (drop_all i weights h) refl

pub ops_more : (choices : List Choice) (bounds : List ℕ) (i : ℕ) (d : Choice) → i < length choices → i < length bounds
    → op_lines i (ways_of (drop i choices) (drop i bounds)) ≡ op_line i (way_of (get_or choices i d) (get_or bounds i 0)) ∷ op_lines (i + 1) (ways_of (drop (i + 1) choices) (drop (i + 1) bounds))
ops_more choices bounds i d h k = rw (drop-cons choices i d h, drop-cons bounds i 0 k, add-one) refl

pub ops_end : (choices : List Choice) (bounds : List ℕ) (i : ℕ) → length choices ≤ i → op_lines i (ways_of (drop i choices) (drop i bounds)) ≡ []
ops_end choices bounds i h = rw (drop_all i choices h) refl

-- one line more is written
pub line_more : (out new total : List ℕ) (line : List (List ℕ)) (rest before : List (List (List ℕ))) → out ++ flat_map line_text before ≡ total → new ≡ out ++ line_text line → before ≡ line ∷ rest → new ++ flat_map line_text rest ≡ total
line_more out new total line rest before told grown e =
    ap (λ l. l ++ flat_map line_text rest) grown ∙ append_assoc out (line_text line) (flat_map line_text rest) ∙ ap (λ ls. out ++ flat_map line_text ls) (sym e) ∙ told
