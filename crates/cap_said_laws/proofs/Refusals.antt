-- A text that is refused is refused in one way.
use Rattle.std.proofs.Common.{◌≡◌, ℕ, List, sym, ap, ◌∙◌}
use Rattle.cap_data.specs.declared.data.ObjData.{ObjData}
use Rattle.cap_data.specs.declared.data.MorData.{MorData}
use Rattle.cap_report.specs.declared.report.Report.{Report}
use Rattle.cap_top.specs.Refusals.{refusal_text}
use Rattle.cap_top.specs.Judged.{IsRefusedText}
use Rattle.cap_said_laws.proofs.Faults.{one_reason}

pub one_refusal : (bytes text words : List ℕ) (r s : Report ObjData MorData) → IsRefusedText bytes text r → IsRefusedText bytes words s → text ≡ words
one_refusal bytes text words r s h k = h.text_is ∙ ap refusal_text (one_reason bytes h.bad k.bad h.why k.why) ∙ sym k.text_is

pub one_silence : (bytes text words : List ℕ) (r s : Report ObjData MorData) → IsRefusedText bytes text r → IsRefusedText bytes words s → r ≡ s
one_silence bytes text words r s h k = h.nothing_ran ∙ sym k.nothing_ran
