-- Numbers in decimal are number tokens, and are read by value.
use Rattle.std.proofs.Common.{◌≡◌, ℕ, ◌^◌, ◌<◌, ◌≤◌, List, length, get_or, true, leb, subst, arith}
use Rattle.std.specs.Fmt.{decimal}
use Rattle.std.specs.Char.{is_ascii_digit}
use Rattle.std.specs.Int.{IsInRange}
use Rattle.std.specs.Str.Parse.{digits_value}
use Rattle.std.proofs.lemmas.Bool.{le-leb, and_from}
use Rattle.std.proofs.lemmas.Fmt.{digits_decimal, digits_value-decimal, length-decimal-le, decimal_nonempty}
use Rattle.std.proofs.lemmas.List.{get_or_default}
use Rattle.std.proofs.lemmas.Str.Parse.{IsNumeralModel, numerals_by_value, tells_by_index}
use Rattle.cap_names.specs.Words.{IsNumber}
use Rattle.cap_cert.specs.Reading.{value, IsNumberWithin}

abbrev InRange : List ℕ → Type 0
InRange ds = (i : ℕ) → i < length ds → IsInRange 48 57 (get_or ds i 0)

model : IsNumeralModel InRange (digits_value 10)
model = numerals_by_value InRange tells_by_index

digit : (c : ℕ) → IsInRange 48 57 c → is_ascii_digit c ≡ true
digit c h = and_from (leb 48 c) (leb c 57) (le-leb 48 c h.0) (le-leb c 57 h.1)

-- 16 digits are enough
pub decimal_number : (n : ℕ) → n < 10 ^ 16 → IsNumber (decimal n)
decimal_number n lt = record {
  some = decimal_nonempty n (omega (arith, lt));
  within = length-decimal-le 16 n (omega arith) lt (omega (arith, lt));
  all = λ i d within. subst (λ c. is_ascii_digit c ≡ true) (get_or_default (decimal n) i 0 d within) (digit (get_or (decimal n) i 0) (digits_decimal model n (omega (arith, lt)) i within));
}

pub decimal_value : (n : ℕ) → n < 10 ^ 16 → value (decimal n) ≡ n
decimal_value n lt = digits_value-decimal model n (omega (arith, lt))

-- a number within limits, in decimal
pub decimal_within : (low high n : ℕ) → high < 10 ^ 16 → low ≤ n → n ≤ high → IsNumberWithin true low high (decimal n)
decimal_within low high n small from to =
    let lt : n < 10 ^ 16 = omega (arith, small, to) in
    let same : value (decimal n) ≡ n = decimal_value n lt in
    record { number = decimal_number n lt; from = λ e. omega (arith, same, from); to = λ e. omega (arith, same, to) }
