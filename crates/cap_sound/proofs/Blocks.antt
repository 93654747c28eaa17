-- The marks of blocks fit their texts.
use Rattle.std.proofs.Common.{ℕ, List, [], ◌∷◌, ◌++◌, Option, Some, None, Bool}
use Rattle.std.specs.Prelude.{take}
use Rattle.cap_reading.specs.Languages.{◌·◌}
use Rattle.cap_grammar.specs.declared.tree.Block.{Block}
use Rattle.cap_grammar.specs.declared.tree.BlockLine.{BlockLine}
use Rattle.cap_grammar.specs.declared.tree.BlockLine.TheVariants as line
use Rattle.cap_grammar.specs.Grammar.{name, table_line, quiver_line, objects, lines, head, block}
use Rattle.cap_block_faults.specs.Marks.{Mark, free, told}
use Rattle.cap_block_faults.specs.Marks as marks
use Rattle.cap_block_faults.specs.Names.{Part}
use Rattle.cap_block_faults.specs.Blocks.{combo_marks, sum_marks, line_marks, bound_marks, new_object, objects_marks, head_marks, end_marks, line_item, lines_marks, block_marks}
use Rattle.cap_sound.proofs.Fits.{Fits, item_one, number_one, never, one, ◌then◌, both, inward, outward, regrouped, each_fits, some_fits}
use Rattle.cap_sound.proofs.Literals.{combo_fits, sum_fits}

table_line_fits : (xs : List (List ℕ)) (before : List BlockLine) (l : BlockLine) → Fits (line_marks xs before l) (table_line l)
table_line_fits xs before (line.Basis b src tgt) = item_one then item_one then item_one then item_one then one item_one
table_line_fits xs before (line.Unit x c) = item_one then item_one then item_one then both (combo_marks before c) (free ∷ []) (combo_fits before c) (one item_one)
table_line_fits xs before (line.Product left right c) = item_one then item_one then item_one then item_one then both (combo_marks before c) (free ∷ []) (combo_fits before c) (one item_one)
table_line_fits xs before (line.Arrow a src tgt) = never
table_line_fits xs before (line.Relation s) = never

quiver_line_fits : (xs : List (List ℕ)) (before : List BlockLine) (l : BlockLine) → Fits (line_marks xs before l) (quiver_line l)
quiver_line_fits xs before (line.Basis b src tgt) = never
quiver_line_fits xs before (line.Unit x c) = never
quiver_line_fits xs before (line.Product left right c) = never
quiver_line_fits xs before (line.Arrow a src tgt) = item_one then item_one then item_one then item_one then one item_one
quiver_line_fits xs before (line.Relation s) = item_one then both (sum_marks before s) (free ∷ []) (sum_fits before s) (one item_one)

lines_fits : (b : Block) (bound : Option ℕ) (ls : List BlockLine) → Fits (marks.each (line_item b) ls) (lines bound ls)
lines_fits b None ls = each_fits (line_item b) table_line (λ i l. table_line_fits b.objects (take i b.lines) l) 0 ls
lines_fits b (Some bound) ls = each_fits (line_item b) quiver_line (λ i l. quiver_line_fits b.objects (take i b.lines) l) 0 ls

objects_fits : (names : List (List ℕ)) → Fits (free ∷ (objects_marks names ++ free ∷ [])) (objects names)
objects_fits names = item_one then both (objects_marks names) (free ∷ []) (some_fits (new_object names) name name (λ n. one item_one) (λ i n. one item_one) names) (one item_one)

-- the first two lines, of which four marks stand before the bound
start_fits : (a b c d : Mark) (n : List ℕ) (prime : ℕ) (bound : Option ℕ) (names : List (List ℕ)) → Fits (a ∷ b ∷ c ∷ d ∷ (bound_marks bound ++ (free ∷ free ∷ (objects_marks names ++ free ∷ [])))) (head n prime bound · objects names)
start_fits a b c d n prime None names =
    inward (item_one then inward (item_one then inward (item_one then inward (number_one then (item_one then objects_fits names)))))
start_fits a b c d n prime (Some bound) names =
    inward (item_one then inward (item_one then inward (item_one then inward (number_one then inward (item_one then inward (number_one then (item_one then objects_fits names)))))))

regrouped_start : (a b c d : Mark) (n : List ℕ) (prime : ℕ) (bound : Option ℕ) (names : List (List ℕ)) → Fits (a ∷ b ∷ c ∷ d ∷ ((bound_marks bound ++ (free ∷ free ∷ objects_marks names)) ++ free ∷ [])) (head n prime bound · objects names)
regrouped_start a b c d n prime bound names = regrouped (a ∷ b ∷ c ∷ d ∷ bound_marks bound) (free ∷ free ∷ objects_marks names) (free ∷ []) (start_fits a b c d n prime bound names)

head_fits : (full : Bool) (parts : List Part) (b : Block) → Fits (head_marks full parts b) (head b.name b.prime b.bound · objects b.objects)
head_fits full parts b = regrouped_start _ _ _ _ b.name b.prime b.bound b.objects

pub block_fits : (full : Bool) (parts : List Part) (b : Block) → Fits (block_marks full parts b) (block b)
block_fits full parts b =
    outward (regrouped (head_marks full parts b) (lines_marks b) (end_marks b) (both (head_marks full parts b) _ (head_fits full parts b) (both (lines_marks b) (end_marks b) (lines_fits b b.bound b.lines) (item_one then one item_one))))
