-- Numbers of digits.
use Rattle.std.proofs.Common.{◌≡◌, ℕ, suc, ◌+◌, ◌-◌, ◌*◌, ◌^◌, ◌<◌, List, length, get_or, take, true, leb, sym, ap, ◌∙◌, arith}
use Rattle.std.specs.Char.{is_ascii_digit, digit_value}
use Rattle.std.specs.Str.Parse.{digits_value}
use Rattle.std.proofs.lemmas.Bool.{and_parts, leb-true}
use Rattle.std.proofs.lemmas.Int.Digits.{digits_value_push}
use Rattle.std.proofs.lemmas.Str.{digit_value_digit}
use Rattle.std.specs.Int.{IsInRange}
use Rattle.std.proofs.lemmas.Str.Parse.{digits_value-take-le, digits_value_short, numerals_by_value, tells_by_index}
use Rattle.std.proofs.Math.Seq.{take-suc}
use Rattle.cap_names.specs.Words.{IsNumber}

in_range : (c : ℕ) → is_ascii_digit c ≡ true → IsInRange 48 57 c
in_range c h = let parts = and_parts (leb 48 c) (leb c 57) h in (leb-true 48 c parts.0, leb-true c 57 parts.1)

digit_at : (ds : List ℕ) (i : ℕ) → IsNumber ds → i < length ds → IsInRange 48 57 (get_or ds i 0)
digit_at ds i n lt = in_range (get_or ds i 0) (n.all i 0 lt)

next_digits : (ds : List ℕ) (i : ℕ) → i < length ds → digits_value 10 (take (i + 1) ds) ≡ digits_value 10 (take i ds) * 10 + digit_value (get_or ds i 0)
next_digits ds i lt =
    let next : i + 1 ≡ suc i = omega arith in
    ap (λ n. digits_value 10 (take n ds)) next ∙ ap (digits_value 10) (take-suc ds i 0 lt) ∙ digits_value_push 10 (take i ds) (get_or ds i 0)

pub next_value : (ds : List ℕ) (i : ℕ) → IsNumber ds → i < length ds → digits_value 10 (take i ds) * 10 + (get_or ds i 0 - 48) ≡ digits_value 10 (take (i + 1) ds)
next_value ds i n lt =
    let same : get_or ds i 0 - 48 ≡ digit_value (get_or ds i 0) = omega (arith, digit_value_digit (get_or ds i 0) (digit_at ds i n lt)) in
    ap (λ d. digits_value 10 (take i ds) * 10 + d) same ∙ sym (next_digits ds i lt)

pub small_value : (ds : List ℕ) (i : ℕ) → IsNumber ds → digits_value 10 (take i ds) < 10 ^ 16
small_value ds i n =
    let le = digits_value-take-le 10 ds i (omega arith) in
    let all = digits_value_short (numerals_by_value (λ ds. (i : ℕ) → i < length ds → IsInRange 48 57 (get_or ds i 0)) tells_by_index) ds 16 (λ i lt. digit_at ds i n lt) n.within in
    omega (arith, le, all)
