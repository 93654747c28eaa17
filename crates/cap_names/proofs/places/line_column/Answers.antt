use Rattle.std.proofs.Common.{◌≡◌, ◌+◌, ◌-◌, ◌≤◌, ℕ, List, length, take, ap, ◌∙◌, sym, not, arith, length-drop}
use Rattle.std.specs.List.{suffix_len, after_last}
use Rattle.std.proofs.lemmas.List.{take_all, length-take-le}
use Rattle.std.proofs.lemmas.List.Sums.{suffix_len-le-length}
use Rattle.cap_names.specs.Places.{ends_line}
use Rattle.cap_names.proofs.places.line_column.Goals as goal

pub overflow_add-column : goal.overflow_add-column
overflow_add-column c =
    let front : List ℕ = take c.bytes.byte-index (take c.args.place c.args.bytes.now) in
    let short : length (take c.args.place c.args.bytes.now) ≡ c.args.place = length-take-le c.args.place c.args.bytes.now c.requires.within in
    let reached : c.bytes.byte-index ≤ length (take c.args.place c.args.bytes.now) = omega arith in
    let long : length front ≡ c.bytes.byte-index = length-take-le c.bytes.byte-index (take c.args.place c.args.bytes.now) reached in
    omega (arith, c.bytes.invariant.column, suffix_len-le-length (λ b. not (ends_line b)) front)

-- behind the last byte that passes stand those that end the list and fail
length-after_last : (bs : List ℕ) → length (after_last ends_line bs) ≡ suffix_len (λ b. not (ends_line b)) bs
length-after_last bs =
    let short = suffix_len-le-length (λ b. not (ends_line b)) bs in
    let behind = length-drop (length bs - suffix_len (λ b. not (ends_line b)) bs) bs in
    omega arith

pub returns-clause-column : goal.returns-clause-column
returns-clause-column c =
    let all : take c.bytes.byte-index (take c.args.place c.args.bytes.now) ≡ take c.args.place c.args.bytes.now = take_all c.bytes.byte-index (take c.args.place c.args.bytes.now) c.bytes-test.false in
    c.bytes.invariant.column ∙ ap (λ l. suffix_len (λ b. not (ends_line b)) l + 1) all ∙ ap (λ n. n + 1) (sym (length-after_last (take c.args.place c.args.bytes.now)))
