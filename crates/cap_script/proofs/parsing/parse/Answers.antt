use Rattle.std.proofs.Common.{length, sym, ap, ◌∙◌, subst}
use Rattle.cap_names.specs.Tokens.{IsCause}
use Rattle.cap_script.proofs.Parsed.{a_place_each, text_at, no_bad_byte}
use Rattle.cap_script.proofs.parsing.parse.Goals as goal

pub read_script-requires : goal.read_script-requires
read_script-requires c = ap length c.deref.ensures.value ∙ a_place_each c.args.bytes.now c.in-Ok.symbols.items c.in-Ok.places.items c.in-Ok.ensures.found ∙ ap length (sym c.deref-in-Ok.ensures.value)

pub returns-in-Ok-read_script-clause-only : goal.returns-in-Ok-read_script-clause-only
returns-in-Ok-read_script-clause-only c = λ s parsed.
    c.in-Ok-read_script.ensures.only s (text_at c.args.bytes.now c.in-Ok.symbols.items c.in-Ok.places.items s c.deref.result.now c.deref-in-Ok.result.now c.place_of-end.result c.deref.ensures.value c.deref-in-Ok.ensures.value c.place_of-end.ensures c.in-Ok.ensures.found parsed)

pub returns-in-Ok-clause-only : goal.returns-in-Ok-clause-only
returns-in-Ok-clause-only c = λ s parsed.
    let no =
    c.in-Err-Syntax.ensures.only s (text_at c.args.bytes.now c.in-Ok.symbols.items c.in-Ok.places.items s c.deref.result.now c.deref-in-Ok.result.now c.place_of-end.result c.deref.ensures.value c.deref-in-Ok.ensures.value c.place_of-end.ensures c.in-Ok.ensures.found parsed)
    in
    cc

pub returns-in-Err-BadByte-clause-only : goal.returns-in-Err-BadByte-clause-only
returns-in-Err-BadByte-clause-only c = λ s parsed. absurd (no_bad_byte c.args.bytes.now c.in-Err-BadByte.byte.place s (subst (IsCause c.args.bytes.now) c.in-Err-BadByte.field-0-is c.in-Err-BadByte.ensures.bad) parsed)
