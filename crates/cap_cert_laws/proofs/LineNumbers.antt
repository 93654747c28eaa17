-- The first lines of written certificates are lines of the text.
use Rattle.std.proofs.Common.{◌≡◌, ℕ, zero, suc, ◌+◌, List, [], ◌∷◌, ◌++◌, length, take, Bool, true, false, Some, cond, refl, sym, ap, ◌∙◌, arith, inl, inr, append_assoc}
use Rattle.std.specs.Prelude.{count_by, slice_get, codes}
use Rattle.std.specs.List.{All, AllPass, flat_map}
use Rattle.std.specs.Char.{is_ascii_digit}
use Rattle.std.proofs.Math.Seq.{take-append_seam}
use Rattle.std.proofs.lemmas.Bool.Decides.{nat_tests}
use Rattle.std.proofs.lemmas.List.Elements.{All-head, All-tail}
use Rattle.std.proofs.lemmas.List.Sums.{sum_by-append}
use Rattle.cap_names.specs.Words.{is_word_byte}
use Rattle.cap_names.specs.Places.{ends_line, line_at}
use Rattle.cap_cert.specs.declared.certs.Cert.{Cert}
use Rattle.cap_cert.specs.Texts.{lines_of, line_text}
use Rattle.cap_cert_laws.specs.Written.{Subject, spelling, written, all_written, cert_at, certs_from, IsWritable}
use Rattle.cap_cert_laws.proofs.LinesWritten.{OneToken, OneByOne, AreLines, cert_lines}
use Rattle.cap_cert_laws.proofs.SpelledAgain.{is_spelled}

-- how many LFs there are
abbrev ends : List ℕ → ℕ
ends bs = count_by ends_line bs

ends_append : (xs ys : List ℕ) → ends (xs ++ ys) ≡ ends xs + ends ys
ends_append xs ys = sum_by-append (λ b. cond (ends_line b) 1 0) xs ys

-- No byte of a word or a number is an LF.
letter_no_end : (b : ℕ) → is_word_byte b ≡ true → ends_line b ≡ false
letter_no_end b h = grind (arith, nat_tests)

digit_no_end : (b : ℕ) → is_ascii_digit b ≡ true → ends_line b ≡ false
digit_no_end b h = grind (arith, nat_tests)

abbrev one_if : Bool → ℕ
one_if b = 0 + cond b 1 0

no_ends : (test : ℕ → Bool) → ((b : ℕ) → test b ≡ true → ends_line b ≡ false) → (bs : List ℕ) → AllPass test bs → ends bs ≡ 0
no_ends test apart [] all = refl
no_ends test apart (b ∷ bs) all =
    let first : ends (b ∷ []) ≡ 0 = ap one_if (apart b (All-head (λ b. test b ≡ true) b bs all)) in
    omega (arith, ends_append (b ∷ []) bs, first, no_ends test apart bs (All-tail (λ b. test b ≡ true) b bs all))

token_no_ends : (w : List ℕ) → OneToken w → ends w ≡ 0
token_no_ends w (inl is) = no_ends is_word_byte letter_no_end w is.all
token_no_ends w (inr is) = no_ends is_ascii_digit digit_no_end w is.all

words_no_ends : (ws : List (List ℕ)) → OneByOne ws → ends (flat_map (λ y. codes " " ++ y) ws) ≡ 0
words_no_ends [] are = refl
words_no_ends (w ∷ ws) are =
    let behind : List ℕ = flat_map (λ y. codes " " ++ y) ws in
    omega (arith, ends_append w behind, token_no_ends w are.0, words_no_ends ws are.1)

line_ends : (words : List (List ℕ)) → OneByOne words → ends (line_text words) ≡ 1
line_ends [] are = refl
line_ends (w ∷ ws) are =
    let behind : List ℕ = flat_map (λ y. codes " " ++ y) ws in
    let last : ends (codes "\n") ≡ 1 = refl in
    omega (arith, ends_append (w ++ behind) (codes "\n"), ends_append w behind, token_no_ends w are.0, words_no_ends ws are.1, last)

lines_end : (ls : List (List (List ℕ))) → AreLines ls → ends (flat_map line_text ls) ≡ length ls
lines_end [] are = refl
lines_end (l ∷ ls) are = omega (arith, ends_append (line_text l) (flat_map line_text ls), line_ends l are.0, lines_end ls are.1)

-- a written certificate has as many LFs as lines
written_ends : (s : Subject) → IsWritable s → ends (written s) ≡ length (lines_of (spelling s))
written_ends s is = lines_end (lines_of (spelling s)) (cert_lines true (spelling s) (is_spelled s is))

first_line_is : (line : ℕ) (ss : List Subject) (k : ℕ) (cert : Cert) → All IsWritable ss → slice_get (certs_from line ss) k ≡ Some cert → cert.first_line ≡ line + ends (all_written (take k ss))
first_line_is line [] k cert are at = absurd (cc (at))
first_line_is line (s ∷ ss) zero cert are at =
    let same : cert_at line s ≡ cert = cc in
    let e : line ≡ cert.first_line = ap (λ c. c.first_line) same in
    omega (arith, e)
first_line_is line (s ∷ ss) (suc k) cert are at =
    let here : ends (written s) ≡ length (lines_of (spelling s)) = written_ends s (All-head IsWritable s ss are) in
    let rest = first_line_is (line + length (lines_of (spelling s))) ss k cert (All-tail IsWritable s ss are) at in
    omega (arith, rest, here, ends_append (written s) (all_written (take k ss)))

-- The text before a certificate is that of those before it.
front_of : (ss : List Subject) (k : ℕ) → (rest : List ℕ) × (all_written ss ≡ all_written (take k ss) ++ rest)
front_of [] zero = ([], refl)
front_of [] (suc k) = ([], refl)
front_of (s ∷ ss) zero = (all_written (s ∷ ss), refl)
front_of (s ∷ ss) (suc k) =
    let more = front_of ss k in
    (more.0, ap (λ l. written s ++ l) more.1 ∙ sym (append_assoc (written s) (all_written (take k ss)) more.0))

pub first_lines_stand : (ss : List Subject) (k : ℕ) (cert : Cert) → All IsWritable ss → slice_get (certs_from 1 ss) k ≡ Some cert → cert.first_line ≡ line_at (all_written ss) (length (all_written (take k ss)))
first_lines_stand ss k cert are at =
    let front : List ℕ = all_written (take k ss) in
    let more = front_of ss k in
    let cut : take (length front) (all_written ss) ≡ front = ap (take (length front)) more.1 ∙ take-append_seam front more.0 in
    let counted : ends (take (length front) (all_written ss)) ≡ ends front = ap ends cut in
    omega (arith, first_line_is 1 ss k cert are at, counted)
