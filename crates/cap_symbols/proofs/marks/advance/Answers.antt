use Rattle.std.proofs.Common.{◌≡◌, ◌+◌, ◌-◌, ℕ, List, length, take, ap, ◌∙◌, sym, not, arith, length-drop}
use Rattle.std.specs.List.{suffix_len, after_last}
use Rattle.std.proofs.lemmas.List.{length-take-le}
use Rattle.std.proofs.lemmas.List.Sums.{suffix_len-le-length}
use Rattle.cap_names.specs.Places.{ends_line, line_at, column_at}
use Rattle.cap_symbols.proofs.marks.advance.Goals as goal

-- behind the last byte that passes stand those that end the list and fail
length-after_last : (bs : List ℕ) → length (after_last ends_line bs) ≡ suffix_len (λ b. not (ends_line b)) bs
length-after_last bs =
    let short = suffix_len-le-length (λ b. not (ends_line b)) bs in
    let behind = length-drop (length bs - suffix_len (λ b. not (ends_line b)) bs) bs in
    omega arith

pub bytes-init : goal.bytes-init
bytes-init c = record {
  line = ap (λ p. p.line) c.requires.known;
  column = ap (λ p. p.column) c.requires.known ∙ ap (λ n. n + 1) (length-after_last (take c.args.from c.args.bytes.now));
}

pub overflow_add-column : goal.overflow_add-column
overflow_add-column c =
    let front : List ℕ = take c.bytes.index c.args.bytes.now in
    let long : length front ≡ c.bytes.index = length-take-le c.bytes.index c.args.bytes.now (omega arith) in
    omega (arith, c.bytes.invariant.column, long, suffix_len-le-length (λ b. not (ends_line b)) front)

pub returns : goal.returns
returns c =
    let all : c.bytes.index ≡ c.args.to = omega arith in
    let line : c.bytes.line ≡ line_at c.args.bytes.now c.args.to = c.bytes.invariant.line ∙ ap (line_at c.args.bytes.now) all in
    let column : c.bytes.column ≡ column_at c.args.bytes.now c.args.to =
    c.bytes.invariant.column ∙ ap (λ n. n + 1) (sym (length-after_last (take c.bytes.index c.args.bytes.now))) ∙ ap (column_at c.args.bytes.now) all
    in
    (λ i. record { line = line i; column = column i })
