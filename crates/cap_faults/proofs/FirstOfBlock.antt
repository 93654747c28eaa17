-- The first fault of a block is among the marks up to the first line with one.
use Rattle.std.proofs.Common.{◌≡◌, ℕ, zero, suc, List, [], ◌∷◌, ◌++◌, take, drop, refl, sym, ap, ◌∙◌, append_assoc, Bool, true, false}
use Rattle.std.specs.Prelude.{◌||◌}
use Rattle.std.specs.List.{list_any}
use Rattle.cap_grammar.specs.declared.tree.Block.{Block}
use Rattle.cap_block_faults.specs.Marks.{Mark, faults, first}
use Rattle.cap_block_faults.specs.Blocks.{lines_marks, end_marks}
use Rattle.cap_block_faults.proofs.Each.{told_already, any_behind}
use Rattle.cap_faults.specs.Lines.{AreLines, HaveSameFirst}

pub whole_block : (b : Block) (old lines new : List Mark) → lines ≡ old ++ lines_marks b → new ≡ lines ++ end_marks b → HaveSameFirst new (old ++ (lines_marks b ++ end_marks b))
whole_block b old lines new e f places =
    ap (λ l. first (faults places l)) (f ∙ ap (λ l. l ++ end_marks b) e ∙ append_assoc old (lines_marks b) (end_marks b))

pub broken_block : (b : Block) (old new : List Mark) → AreLines b old new false → HaveSameFirst new (old ++ (lines_marks b ++ end_marks b))
broken_block b old new h places =
    let all : old ++ (lines_marks b ++ end_marks b) ≡ new ++ (h.1.0 ++ end_marks b) =
    sym (append_assoc old (lines_marks b) (end_marks b)) ∙ ap (λ l. l ++ end_marks b) h.1.1 ∙ append_assoc new h.1.0 (end_marks b) in
    sym (told_already places new (h.1.0 ++ end_marks b) h.0) ∙ ap (λ l. first (faults places l)) (sym all)

either : (a b d : Bool) → (b ≡ true → d ≡ true) → (a || b) ≡ true → (a || d) ≡ true
either true b d f h = refl
either false b d f h = f h

any_front : {A : Type 0} (test : A → Bool) (n : ℕ) (xs : List A) → list_any test (take n xs) ≡ true → list_any test xs ≡ true
any_front test zero [] h = h
any_front test zero (x ∷ xs) h = absurd (cc)
any_front test (suc n) [] h = h
any_front test (suc n) (x ∷ xs) h = either (test x) (list_any test (take n xs)) (list_any test xs) (any_front test n xs) h

pub any_range : {A : Type 0} (test : A → Bool) (k n : ℕ) (ys xs : List A) → ys ≡ xs → list_any test (take k (drop n ys)) ≡ true → list_any test xs ≡ true
any_range test k n ys xs e h = ap (list_any test) (sym e) ∙ any_behind test n ys (any_front test k (drop n ys) h)
