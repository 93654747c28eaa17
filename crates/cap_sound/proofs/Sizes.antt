-- The blocks of a script without faults are small.
use Rattle.std.proofs.Common.{◌≡◌, refl, ℕ, suc, ◌+◌, ◌≤◌, List, [], ◌∷◌, ◌++◌, length, take, ap, sym, ◌∙◌, subst, arith, append_assoc, append-nil, Option, Some, Bool, true, false, cond}
use Rattle.std.specs.Prelude.{count_by, find}
use Rattle.std.proofs.lemmas.List.Sums.{sum_by-cons, sum_by-append}
use Rattle.std.proofs.Math.Seq.{take-append_seam}
use Rattle.cap_names.specs.declared.reasons.Reason.TheVariants.{Limit}
use Rattle.cap_grammar.specs.declared.tree.ObjTok.{ObjTok}
use Rattle.cap_grammar.specs.declared.tree.MorTok.{MorTok}
use Rattle.cap_grammar.specs.declared.tree.Block.{Block}
use Rattle.cap_grammar.specs.declared.tree.BlockLine.{BlockLine}
use Rattle.cap_grammar.specs.declared.tree.BlockLine.TheVariants as line
use Rattle.cap_grammar.specs.declared.tree.Item.{Item}
use Rattle.cap_grammar.specs.declared.tree.Item.TheVariants as top
use Rattle.cap_block_faults.specs.Marks.{Mark, free, each_from}
use Rattle.cap_block_faults.specs.Names.{Part, objects_in, lines_in, is_block_named, found, objects_of, lines_of}
use Rattle.cap_block_faults.specs.Blocks.{is_basis, is_arrow, line_marks, bound_marks, new_object, objects_marks, head_marks, end_marks, line_item, lines_marks, block_marks}
use Rattle.cap_checked.specs.Checked.{basis}
use Rattle.cap_sound.proofs.Lengths.{length_append}
use Rattle.cap_sound.proofs.Faults.{AllFree, free_front, free_rest, neither, below}

-- at most 16 objects
objects_few : (names : List (List ℕ)) (i : ℕ) (xs : List (List ℕ)) → AllFree (each_from (new_object names) i xs) → i ≤ 16 → i + length xs ≤ 16
objects_few names i [] f h = omega (arith, h)
objects_few names i (x ∷ xs) f h =
    let lt = below 16 i Limit (neither _ _ f.0).0 in
    let more = objects_few names (suc i) xs f.1 (omega (arith, lt)) in
    omega (arith, more)

pub head_few : (a b c d : Mark) (bound : Option ℕ) (names : List (List ℕ)) → AllFree (a ∷ b ∷ c ∷ d ∷ ((bound_marks bound ++ (free ∷ free ∷ objects_marks names)) ++ free ∷ [])) → length names ≤ 16
head_few a b c d bound names f =
    let marks = free_rest (bound_marks bound) (free ∷ free ∷ objects_marks names) (free_front (bound_marks bound ++ (free ∷ free ∷ objects_marks names)) (free ∷ []) f.1.1.1.1) in
    let few = objects_few names 0 names marks.1.1 (omega arith) in
    omega (arith, few)

-- at most 128 basis elements and 64 arrows
count_cons : (p : BlockLine → Bool) (x : BlockLine) (xs : List BlockLine) → count_by p (x ∷ xs) ≡ cond (p x) 1 0 + count_by p xs
count_cons p x xs = sum_by-cons (λ y. cond (p y) 1 0) x xs

count_append : (p : BlockLine → Bool) (xs ys : List BlockLine) → count_by p (xs ++ ys) ≡ count_by p xs + count_by p ys
count_append p xs ys = sum_by-append (λ y. cond (p y) 1 0) xs ys

abbrev pub AreFew : List BlockLine → Type 0
AreFew ls = (count_by is_basis ls ≤ 128) × (count_by is_arrow ls ≤ 64)

more_few : (before : List BlockLine) (l : BlockLine) → count_by is_basis before + count_by is_basis (l ∷ []) ≤ 128 → count_by is_arrow before + count_by is_arrow (l ∷ []) ≤ 64 → AreFew (before ++ l ∷ [])
more_few before l h k =
    let e = count_append is_basis before (l ∷ []) in
    let f = count_append is_arrow before (l ∷ []) in
    (omega (arith, h, e), omega (arith, k, f))

line_few : (xs : List (List ℕ)) (before : List BlockLine) (l : BlockLine) → AllFree (line_marks xs before l) → AreFew before → AreFew (before ++ l ∷ [])
line_few xs before (line.Basis b src tgt) f few = let lt = below 128 (count_by is_basis before) Limit f.0 in more_few before (line.Basis b src tgt) (omega (arith, lt)) (omega (arith, few.1))
line_few xs before (line.Unit x c) f few = more_few before (line.Unit x c) (omega (arith, few.0)) (omega (arith, few.1))
line_few xs before (line.Product left right c) f few = more_few before (line.Product left right c) (omega (arith, few.0)) (omega (arith, few.1))
line_few xs before (line.Arrow a src tgt) f few = let lt = below 64 (count_by is_arrow before) Limit f.0 in more_few before (line.Arrow a src tgt) (omega (arith, few.0)) (omega (arith, lt))
line_few xs before (line.Relation s) f few = more_few before (line.Relation s) (omega (arith, few.0)) (omega (arith, few.1))

pub lines_few : (b : Block) (i : ℕ) (before xs : List BlockLine) → i ≡ length before → b.lines ≡ before ++ xs → AllFree (each_from (line_item b) i xs) → AreFew before → AreFew b.lines
lines_few b i before [] n e f few = subst AreFew (sym (e ∙ append-nil before)) few
lines_few b i before (x ∷ xs) n e f few =
    let all : take i b.lines ≡ before = ap (λ k. take k b.lines) n ∙ ap (take (length before)) e ∙ take-append_seam before (x ∷ xs) in
    let here : AllFree (line_marks b.objects before x) = subst (λ ls. AllFree (line_marks b.objects ls x)) all (free_front (line_item b i x) (each_from (line_item b) (suc i) xs) f) in
    let k = length_append before (x ∷ []) in
    lines_few b (suc i) (before ++ x ∷ []) xs (omega (arith, n, k)) (e ∙ sym (append_assoc before (x ∷ []) xs)) (free_rest (line_item b i x) (each_from (line_item b) (suc i) xs) f) (line_few b.objects before x here few)

own_names : (ls : List BlockLine) → length (basis ls) ≡ count_by is_basis ls + count_by is_arrow ls
own_names [] = omega arith
own_names (line.Basis b src tgt ∷ ls) = let e = own_names ls in let c1 = count_cons is_basis (line.Basis b src tgt) ls in let c2 = count_cons is_arrow (line.Basis b src tgt) ls in omega (arith, e, c1, c2)
own_names (line.Unit x c ∷ ls) = let e = own_names ls in let c1 = count_cons is_basis (line.Unit x c) ls in let c2 = count_cons is_arrow (line.Unit x c) ls in omega (arith, e, c1, c2)
own_names (line.Product left right c ∷ ls) = let e = own_names ls in let c1 = count_cons is_basis (line.Product left right c) ls in let c2 = count_cons is_arrow (line.Product left right c) ls in omega (arith, e, c1, c2)
own_names (line.Arrow a src tgt ∷ ls) = let e = own_names ls in let c1 = count_cons is_basis (line.Arrow a src tgt) ls in let c2 = count_cons is_arrow (line.Arrow a src tgt) ls in omega (arith, e, c1, c2)
own_names (line.Relation s ∷ ls) = let e = own_names ls in let c1 = count_cons is_basis (line.Relation s) ls in let c2 = count_cons is_arrow (line.Relation s) ls in omega (arith, e, c1, c2)

-- a block, and any part
pub record IsSmall (n : Item ObjTok MorTok) : Type 0 where
  pub objects : length (objects_in n) ≤ 16
  pub names : length (basis (lines_in n)) ≤ 192

pub lines_of_block : (full : Bool) (parts : List Part) (b : Block) → AllFree (block_marks full parts b) → AreFew b.lines
lines_of_block full parts b f =
    lines_few b 0 [] b.lines refl refl (free_rest (head_marks full parts b) (lines_marks b) (free_front (head_marks full parts b ++ lines_marks b) (end_marks b) f)) (omega arith, omega arith)

pub head_of_block : (full : Bool) (parts : List Part) (b : Block) → AllFree (block_marks full parts b) → AllFree (head_marks full parts b)
head_of_block full parts b f = free_front (head_marks full parts b) (lines_marks b) (free_front (head_marks full parts b ++ lines_marks b) (end_marks b) f)

pub block_small : (full : Bool) (parts : List Part) (b : Block) → AllFree (block_marks full parts b) → IsSmall (top.Block b)
block_small full parts b f =
    let few = lines_of_block full parts b f in
    let own = own_names b.lines in
    record { objects = head_few _ _ _ _ b.bound b.objects (head_of_block full parts b f); names = omega (arith, few.0, few.1, own) }

-- parts, and the block of a name among them
abbrev pub AreSmall : List Part → Type 0
AreSmall [] = Unit {0}
AreSmall (p ∷ ps) = IsSmall p.node × AreSmall ps

pub small_more : (ps : List Part) (p : Part) → AreSmall ps → IsSmall p.node → AreSmall (ps ++ p ∷ [])
small_more [] p h k = (k, tt)
small_more (q ∷ ps) p h k = (h.0, small_more ps p h.1 k)

pub found_small : (ps : List Part) (name : List ℕ) → AreSmall ps → (length (objects_of ps name) ≤ 16) × (length (basis (lines_of ps name)) ≤ 192)
found_small [] name h = (omega arith, omega arith)
found_small (p ∷ ps) name h =
    elim (is_block_named name p) as (λ b. (length (found objects_in [] (cond b (Some p) (find (is_block_named name) ps))) ≤ 16) × (length (basis (found lines_in [] (cond b (Some p) (find (is_block_named name) ps)))) ≤ 192)) [
      | true ↦ (h.0.objects, h.0.names)
      | false ↦ found_small ps name h.1
    ]
