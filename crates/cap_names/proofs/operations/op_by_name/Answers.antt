use Rattle.std.proofs.Common.{◌≡◌, ℕ, ◌+◌, Some, arith, sym, ap, ◌∙◌, subst}
use Rattle.std.proofs.lemmas.Slice.Eq.{bytes_eq-Decides}
use Rattle.cap_names.specs.Operations.{IsNamed}
use Rattle.cap_names.specs.declared.identifiers.OpId.{OpId}
use Rattle.cap_names.proofs.OperationNames.{one_number, number_within, number_of_name}
use Rattle.cap_names.proofs.operations.op_by_name.Goals as goal

named : (c : goal.Then-eq) → IsNamed c.numbers.number c.args.word.now
named c =
    let same : c.as_bytes.result.now ≡ c.args.word.now = (bytes_eq-Decides c.as_bytes.result.now c.args.word.now).0 (sym c.eq.ensures ∙ c.if-eq.true) in
    subst (IsNamed c.numbers.number) (sym c.as_bytes.ensures.value ∙ same) c.op_name.ensures

pub returns-then-eq-clause-found : goal.returns-then-eq-clause-found
returns-then-eq-clause-found c = named c

pub returns-then-eq-clause-only : goal.returns-then-eq-clause-only
returns-then-eq-clause-only c = λ number is.
    let op : ℕ → OpId = λ n. record { 0 = n } in
    ap (λ n. Some (op n)) (one_number c.numbers.number number c.args.word.now (named c) is)

unnamed : (c : goal.After-numbers) (number : ℕ) → IsNamed number c.args.word.now → ⊥
unnamed c number is = c.numbers.invariant number (omega (arith, number_within number c.args.word.now is)) is

pub returns-clause-found : goal.returns-clause-found
returns-clause-found c = λ is. unnamed c (is.0 + 1) (number_of_name c.args.word.now is)

pub returns-clause-only : goal.returns-clause-only
returns-clause-only c = λ number is. absurd (unnamed c number is)
