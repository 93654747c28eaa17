use Rattle.std.proofs.Common.{◌++◌, ap, sym, ◌∙◌, append-nil, arith}
use Rattle.cap_top_text.proofs.Named.{op_past, op_zero}
use Rattle.cap_top_text.proofs.values.push_operation.Goals as goal
use Rattle.cap_top_text.proofs.values.push_operation.Goals.{else-op-ge1-via-then-op-ge1+else-op-le44, else-op-ge1-via-else-op-ge1}

pub returns-else-op-ge1 : goal.returns-else-op-ge1
returns-else-op-ge1 c =
    let op = c.args.op in
    let out = c.args.out.now.items in
    elim c.else-op-ge1.branch [
      | else-op-ge1-via-then-op-ge1+else-op-le44 w ↦ let past = w.if-op-le44.false in sym (append-nil out) ∙ ap (λ l. out ++ l) (sym (op_past op (omega arith)))
      | else-op-ge1-via-else-op-ge1 w ↦ let none = w.if-op-ge1.false in sym (append-nil out) ∙ ap (λ l. out ++ l) (sym (op_zero op (omega arith)))
    ]
