use Rattle.std.proofs.Common.{◌≡◌, ◌<◌, ◌∙◌, ◌+◌, ℕ, List, Some, sym, ap, arith, length, [], get_or, drop, true}
use Rattle.std.proofs.lemmas.List.{length-map}
use Rattle.cap_cert.specs.Reading.{texts_of, text_of}
use Rattle.cap_cert.specs.Machine.{step, begun}
use Rattle.cap_cert.specs.Drafts.{act, blank, gather, line_behind}
use Rattle.cap_cert.proofs.FirstFaults.{inside_more, read_little}
use Rattle.cap_cert.proofs.Values.{told_more, told_with, line_little}
use Rattle.cap_cert.proofs.collector.collect.Goals as goal

pub tokens-preserved : goal.tokens-preserved
tokens-preserved c =
    let ts : List (List ℕ) = texts_of c.args.bytes.now c.args.tokens.now in
    let i : ℕ = c.tokens.index in
    let here : List ℕ = get_or ts i [] in
    let inside : i < length ts = omega (arith, length-map c.args.tokens.now (text_of c.args.bytes.now), c.tokens-test.true) in
    let goes : step true c.tokens.state here ≡ Some c.in-Some.after = ap (step true c.tokens.state) (sym c.text_at-text.ensures) ∙ sym c.in-Some.ensures in
    let told = told_more c.tokens.line i c.tokens.state c.tokens.draft ts c.tokens.certs.items c.push_made.new.certs.items (gather 1 (Some begun) (blank 1) ts) inside c.tokens.invariant.told c.in_ok-push_made.ensures in
    record {
      told = told_with c.push_made.new.certs.items (gather 1 (Some begun) (blank 1) ts) (drop (i + 1) ts) (line_behind c.tokens.line c.tokens.state.next) c.line_behind-line.result (step true c.tokens.state here) (Some c.in-Some.after) (act c.tokens.line c.tokens.state.next here c.tokens.draft) c.act.new.draft
          c.line_behind-line.ensures (sym goes) (c.act.ensures ∙ ap (λ t. act c.tokens.line c.tokens.state.next t c.tokens.draft) c.text_at-text.ensures) told;
      inside = inside_more true c.tokens.state c.in-Some.after here c.tokens.invariant.inside goes;
      few = omega (arith, read_little true c.tokens.state c.in-Some.after here goes, c.tokens.invariant.few);
      lines = omega (arith, line_little c.tokens.line c.tokens.state.next, c.line_behind-line.ensures, c.tokens.invariant.lines);
    }
