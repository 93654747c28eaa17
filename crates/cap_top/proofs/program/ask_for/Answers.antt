use Rattle.std.proofs.Common.{◌≡◌, ℕ, List, [], ◌∷◌, map, length, get_or, sym, ap, ◌∙◌, arith, true}
use Rattle.std.specs.Prelude.{string_bytes}
use Rattle.std.specs.Str.{bytes_eq}
use Rattle.std.proofs.lemmas.Slice.Eq.{bytes_eq-Decides}
use Rattle.cap_top.proofs.program.ask_for.Goals as goal

one_word : {X : Type 0} (xs : List X) (x : X) → length xs ≡ 1 → x ≡ get_or xs 0 x → xs ≡ x ∷ []
one_word [] x one is = absurd (omega arith)
one_word (y ∷ []) x one is = ap (λ z. z ∷ []) (sym is)
one_word (y ∷ z ∷ zs) x one is = absurd (omega arith)

head-is : {x y : List ℕ} → x ∷ [] ≡ y ∷ [] → x ≡ y
head-is e = cc

pub returns-in-len1 : goal.returns-in-len1
returns-in-len1 c =
    let many : length c.args.words.now ≡ 1 = let a = c.in-len1.len_at_least in let b = c.in-len1.len_below in omega arith in
    let only = ap (map string_bytes) (one_word c.args.words.now c.word-item.result many c.word-item.is) in
    let decides = bytes_eq-Decides c.as_str.result.now c.args.wanted.now in
    let test = c.eq.ensures in (
      λ yes_it_is. let e : bytes_eq c.as_str.result.now c.args.wanted.now ≡ true = sym c.eq.ensures ∙ yes_it_is in
          only ∙ ap (λ w. w ∷ []) (sym c.as_str.ensures.value ∙ decides.0 e),
      λ asked. let e = decides.1 (c.as_str.ensures.value ∙ head-is (sym only ∙ asked)) in c.eq.ensures ∙ e,
    )
