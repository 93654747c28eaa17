-- What `cap check` says of an input is one thing.
use Rattle.std.proofs.Common.{◌≡◌, sym, ap, ◌∙◌}
use Rattle.cap_judge.specs.Judged.{judgement_text}
use Rattle.cap_top.specs.Judged.{said_of, IsCheckJudged}
use Rattle.cap_said_laws.specs.Laws.{SaysOneThing}
use Rattle.cap_said_laws.proofs.Judgements.{one_judgement}

pub check_says_one_thing : SaysOneThing IsCheckJudged
check_says_one_thing bytes said other text words r s h k =
    let same : h.judgement ≡ k.judgement = one_judgement bytes h.judgement k.judgement h.is k.is in
    (h.said_is ∙ ap said_of same ∙ sym k.said_is, h.text_is ∙ ap judgement_text same ∙ sym k.text_is, h.nothing_ran ∙ sym k.nothing_ran)
