use Rattle.std.proofs.Common.{◌+◌, sym, ap, ◌∙◌, subst, inl, arith}
use Rattle.std.proofs.lemmas.List.{take_rest}
use Rattle.cap_names.specs.Tokens.{AreTokens, IsBadAt}
use Rattle.cap_names.specs.declared.token.TokenFault.TheVariants.{BadByte}
use Rattle.cap_names.proofs.Pieces.{IsReadUpTo, read_more, read_all, one_token_list, bad_has_none, one_bad_byte}
use Rattle.cap_names.proofs.BadBytes.{bad_begin, bad_over}
use Rattle.cap_names.proofs.Slices.{tokens_are_slices}
use Rattle.cap_names.proofs.lexer.tokens.Goals as goal

pub pieces-preserved : goal.pieces-preserved
pieces-preserved c =
    let before = subst (λ l. IsReadUpTo c.args.bytes.now l c.pieces.tokens.items c.pieces.place) c.in-Some.ensures c.pieces.invariant in
    rw (take_rest c.in-Some.others.now c.run-more.result, c.in_ok-push_piece.ensures)
    (read_more c.args.bytes.now c.in-Some.first c.in-Some.others.now c.pieces.tokens.items c.pieces.place c.run-more.result c.in-Some-kind_of.kind before (sym c.in-Some-kind_of.ensures) c.run-more.ensures.value c.in_default-passed_limit.ensures)

begins_nothing : (c : goal.After-drop-tokens) → IsBadAt c.args.bytes.now c.pieces.place
begins_nothing c =
    let before = subst (λ l. IsReadUpTo c.args.bytes.now l c.pieces.tokens.items c.pieces.place) c.in-Some.ensures c.pieces.invariant in
    bad_begin c.args.bytes.now c.in-Some.first c.in-Some.others.now c.pieces.tokens.items c.pieces.place before (sym c.kind_of.ensures ∙ c.in_default-kind_of.is)

pub returns-in_default-kind_of-clause-bad : goal.returns-in_default-kind_of-clause-bad
returns-in_default-kind_of-clause-bad c = begins_nothing c

pub returns-in_default-kind_of-clause-only : goal.returns-in_default-kind_of-clause-only
returns-in_default-kind_of-clause-only c = λ ts are. absurd (bad_has_none c.args.bytes.now c.pieces.place (begins_nothing c) ts are)

pub returns-in_default-kind_of-clause-refused : goal.returns-in_default-kind_of-clause-refused
returns-in_default-kind_of-clause-refused c = λ n bad.
    inl (ap (λ n. BadByte (record { place = n })) (one_bad_byte c.args.bytes.now c.pieces.place n (begins_nothing c) bad))

passes_limit : (c : goal.After-drop-tokens-in-Some-passed_limit) → IsBadAt c.args.bytes.now (c.pieces.place + c.in-Some-passed_limit.most)
passes_limit c =
    let before = subst (λ l. IsReadUpTo c.args.bytes.now l c.pieces.tokens.items c.pieces.place) c.in-Some.ensures c.pieces.invariant in
    bad_over c.args.bytes.now c.in-Some.first c.in-Some.others.now c.pieces.tokens.items c.pieces.place c.in-Some-passed_limit.most c.in-Some-kind_of.kind before (sym c.in-Some-kind_of.ensures) c.in-Some-passed_limit.ensures.0
    (omega (arith, c.in-Some-passed_limit.ensures.1, c.run-more.ensures.value))

pub returns-in-Some-passed_limit-clause-bad : goal.returns-in-Some-passed_limit-clause-bad
returns-in-Some-passed_limit-clause-bad c = passes_limit c

pub returns-in-Some-passed_limit-clause-only : goal.returns-in-Some-passed_limit-clause-only
returns-in-Some-passed_limit-clause-only c = λ ts are. absurd (bad_has_none c.args.bytes.now (c.pieces.place + c.in-Some-passed_limit.most) (passes_limit c) ts are)

pub returns-in-Some-passed_limit-clause-refused : goal.returns-in-Some-passed_limit-clause-refused
returns-in-Some-passed_limit-clause-refused c = λ n bad.
    inl (ap (λ n. BadByte (record { place = n })) (one_bad_byte c.args.bytes.now (c.pieces.place + c.in-Some-passed_limit.most) n (passes_limit c) bad))

all_read : (c : goal.In_default) → AreTokens c.args.bytes.now c.pieces.tokens.items
all_read c =
    let before = subst (λ l. IsReadUpTo c.args.bytes.now l c.pieces.tokens.items c.pieces.place) c.in_default.ensures c.pieces.invariant in
    read_all c.args.bytes.now c.pieces.tokens.items c.pieces.place before

pub returns-clause-slices : goal.returns-clause-slices
returns-clause-slices c = tokens_are_slices c.args.bytes.now c.pieces.tokens.items (all_read c)

pub returns-clause-only : goal.returns-clause-only
returns-clause-only c = λ ts are. one_token_list c.args.bytes.now c.pieces.tokens.items ts (all_read c) are

pub returns-clause-refused : goal.returns-clause-refused
returns-clause-refused c = λ n bad. bad_has_none c.args.bytes.now n bad c.pieces.tokens.items (all_read c)
