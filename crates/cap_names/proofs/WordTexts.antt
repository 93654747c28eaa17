-- Words in 32 bytes.
use Rattle.std.proofs.Common.{◌≡◌, ℕ, ◌-◌, ◌<◌, ◌≤◌, List, ◌++◌, length, take, drop, replicate, get_or, true, ◌||◌, ◌&&◌, leb, Result, Ok, Err, refl, sym, ap, ◌∙◌, subst, ⊎_elim, Bor, arith, lit<}
use Rattle.std.specs.Prelude.{◌==◌, IsUtf8, IsOk, MatchResult}
use Rattle.std.specs.Char.{is_ascii_digit, is_ascii_alphabetic}
use Rattle.std.proofs.lemmas.Bool.{or_cases, and_parts, eqb-true, leb-true, cases_lt}
use Rattle.std.proofs.lemmas.Str.{IsUtf8-from_ascii}
use Rattle.std.proofs.lemmas.List.{drop-replicate, get_or_past}
use Rattle.std.proofs.Math.Seq.{take-append_seam}
use Rattle.cap_names.specs.Words.{is_word_byte, IsWord, IsStoredWord}

-- a word written over the front of 32 zeros
pub written_word : (word front : List ℕ) → IsWord word → front ≡ word → IsStoredWord (front ++ drop (length word) (replicate 32 0)) (length word)
written_word word front is e =
    let bytes : List ℕ = front ++ drop (length word) (replicate 32 0) in
    let filled : bytes ≡ word ++ replicate (32 - length word) 0 = (λ i. e i ++ drop-replicate (length word) 32 0 i) in
    let back : word ≡ take (length word) bytes = sym (ap (take (length word)) filled ∙ take-append_seam word (replicate (32 - length word) 0)) in
    record { word = subst IsWord back is; fits = sym (ap length back); whole = filled ∙ ap (λ w. w ++ replicate (32 - length word) 0) back }

-- Words are ASCII text.
word_byte_ascii : (b : ℕ) → is_word_byte b ≡ true → b < 128
word_byte_ascii b h =
    ⊎_elim
    (λ (e : (is_ascii_alphabetic b || is_ascii_digit b) ≡ true). ⊎_elim
    (λ (l : is_ascii_alphabetic b ≡ true). ⊎_elim
    (λ (u : (leb 65 b && leb b 90) ≡ true). below 90 b (lit< tt) (and_parts (leb 65 b) (leb b 90) u).1)
    (λ (u : (leb 97 b && leb b 122) ≡ true). below 122 b (lit< tt) (and_parts (leb 97 b) (leb b 122) u).1)
    (or_cases (leb 65 b && leb b 90) (leb 97 b && leb b 122) l))
    (λ (d : is_ascii_digit b ≡ true). below 57 b (lit< tt) (and_parts (leb 48 b) (leb b 57) d).1)
    (or_cases (is_ascii_alphabetic b) (is_ascii_digit b) e))
    (λ (e : (b == 95) ≡ true). let same = eqb-true b 95 e in omega arith)
    (or_cases (is_ascii_alphabetic b || is_ascii_digit b) (b == 95) h)
  where
    below : (n b : ℕ) → n < 128 → leb b n ≡ true → b < 128
    below n b lt e = let le = leb-true b n e in omega arith

pub word_is_text : (bs : List ℕ) → IsWord bs → IsUtf8 bs
word_is_text bs is =
    IsUtf8-from_ascii bs
    (λ i. ⊎_elim
    (λ (lt : i < length bs). word_byte_ascii (get_or bs i 0) (is.all i 0 lt))
    (λ (ge : length bs ≤ i). let e : get_or bs i 0 ≡ 0 = get_or_past bs i 0 ge in omega arith)
    (cases_lt i (length bs)))

pub ok_from_text : {E : Type 0} (bs : List ℕ) (r : Result (Bor (List ℕ)) E) (P : E → Type 0) → IsUtf8 bs → MatchResult r (λ s. (s.now ≡ bs) × IsUtf8 bs) (λ e. ¬ (IsUtf8 bs) × P e) → IsOk r
ok_from_text bs (Ok s) P u h = refl
ok_from_text bs (Err e) P u h = absurd (h.0 u)
