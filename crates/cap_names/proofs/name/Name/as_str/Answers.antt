use Rattle.std.proofs.Common.{subst, sym}
use Rattle.std.specs.Prelude.{IsUtf8}
use Rattle.cap_names.proofs.WordTexts.{word_is_text, ok_from_text}
use Rattle.cap_names.proofs.name.Name.as_str.Goals as goal

pub unwrap-requires : goal.unwrap-requires
unwrap-requires c =
    ok_from_text c.as_bytes.result.now c.from_utf8.result _ (subst IsUtf8 (sym c.as_bytes.ensures.bytes) (word_is_text c.args.self.now c.as_bytes.ensures.word)) c.from_utf8.ensures.cases
