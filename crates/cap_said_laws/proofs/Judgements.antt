-- A text of certificates has one judgement.
use Rattle.std.proofs.Common.{◌≡◌, ℕ, suc, ◌<◌, ◌≤◌, List, ◌++◌, length, get_or, take, drop, Bool, true, false, refl, sym, ap, ◌∙◌, subst, arith, append_assoc}
use Rattle.std.specs.List.{All}
use Rattle.std.proofs.lemmas.List.{take-take, take-append-drop, get_or-take, length-take-le}
use Rattle.std.proofs.lemmas.Option.{get_or_from_slice_get, slice_get_within}
use Rattle.cap_names.specs.declared.token.Token.{Token}
use Rattle.cap_names.specs.declared.reasons.BadScript.{BadScript}
use Rattle.cap_names.specs.declared.reasons.Reason.{Reason}
use Rattle.cap_names.specs.declared.reasons.Reason.TheVariants as reason
use Rattle.cap_names.specs.Tokens.{AreTokens}
use Rattle.cap_names.proofs.Pieces.{one_token_list, one_bad_byte, bad_has_none}
use Rattle.cap_ops.specs.declared.plans.RuleCost.{RuleCost}
use Rattle.cap_cert.specs.declared.certs.Cert.{Cert}
use Rattle.cap_cert.specs.Lines.{AllHold, IsFirstFalse, IsFirstLine, line_of}
use Rattle.cap_cert.specs.Reading.{texts_of, IsCertsText, GoesOn, IsFaultAt}
use Rattle.cap_cert.specs.Refusals.{IsToldAt, IsToldFault, IsFaultFor, token_place}
use Rattle.cap_cert.proofs.Refused.{one_list, refused_none}
use Rattle.cap_script_laws.proofs.Once.{neither_less}
use Rattle.cap_judge.specs.Judged.{the_costs, AreAccepted, AreRejected, IsJudgement}
use Rattle.cap_judge.specs.declared.judgement.Judgement.{Judgement}
use Rattle.cap_judge.specs.declared.judgement.Judgement.TheVariants.{Accepted, Rejected, Refused}

-- A first false line is one.
no_false_line : (rules : List RuleCost) (cert : Cert) (place : ℕ) → AllHold rules cert → IsFirstFalse rules cert place → ⊥
no_false_line rules cert place hold false_at = false_at.false_line (hold.each place false_at.inside)

one_false_place : (rules : List RuleCost) (cert : Cert) (m n : ℕ) → IsFirstFalse rules cert m → IsFirstFalse rules cert n → m ≡ n
one_false_place rules cert m n h k = neither_less m n (λ lt. h.false_line (k.before m lt)) (λ gt. k.false_line (h.before n gt))

-- where no line of the certificates is false there is no first one
hold_no_line : (rules : List RuleCost) (certs : List Cert) (line : ℕ) → All (AllHold rules) certs → IsFirstLine rules certs line → ⊥
hold_no_line rules certs line hold h =
    let within : h.number < length certs = slice_get_within certs h.number h.cert h.is in
    no_false_line rules h.cert h.place (subst (AllHold rules) (get_or_from_slice_get certs h.number h.cert h.cert h.is) (hold h.number h.cert within)) h.first

not_earlier : (rules : List RuleCost) (certs : List Cert) (a b : ℕ) (h : IsFirstLine rules certs a) (k : IsFirstLine rules certs b) → h.number < k.number → ⊥
not_earlier rules certs a b h k lt =
    let within : h.number < length certs = slice_get_within certs h.number h.cert h.is in
    let inside : k.number < length certs = slice_get_within certs k.number k.cert k.is in
    let kept : h.number < length (take k.number certs) = omega (arith, lt, length-take-le k.number certs (omega (arith, inside))) in
    let cert : get_or (take k.number certs) h.number h.cert ≡ h.cert = get_or-take k.number certs h.number h.cert lt ∙ get_or_from_slice_get certs h.number h.cert h.cert h.is in
    no_false_line rules h.cert h.place (subst (AllHold rules) cert (k.earlier h.number h.cert kept)) h.first

same_number : (rules : List RuleCost) (certs : List Cert) (a b : ℕ) (h : IsFirstLine rules certs a) (k : IsFirstLine rules certs b) → h.number ≡ k.number
same_number rules certs a b h k = neither_less h.number k.number (not_earlier rules certs a b h k) (not_earlier rules certs b a k h)

one_first_line : (rules : List RuleCost) (certs : List Cert) (a b : ℕ) → IsFirstLine rules certs a → IsFirstLine rules certs b → a ≡ b
one_first_line rules certs a b h k =
    let number : h.number ≡ k.number = same_number rules certs a b h k in
    let cert : h.cert ≡ k.cert = sym (get_or_from_slice_get certs h.number h.cert k.cert h.is) ∙ ap (λ n. get_or certs n k.cert) number ∙ get_or_from_slice_get certs k.number k.cert k.cert k.is in
    let place : h.place ≡ k.place = one_false_place rules k.cert h.place k.place (subst (λ c. IsFirstFalse rules c h.place) cert h.first) k.first in
    h.line_is ∙ (λ i. line_of (cert i) (place i)) ∙ sym k.line_is

-- A fault is told at one place.
goes_on_before : (strict : Bool) (texts : List (List ℕ)) (m n : ℕ) → m ≤ n → GoesOn strict (take n texts) → GoesOn strict (take m texts)
goes_on_before strict texts m n le on =
    let cut : take n texts ≡ take m texts ++ drop m (take n texts) = sym (take-append-drop m (take n texts)) ∙ ap (λ l. l ++ drop m (take n texts)) (take-take m n texts le) in
    let all : take n texts ++ on.more ≡ take m texts ++ (drop m (take n texts) ++ on.more) = ap (λ l. l ++ on.more) cut ∙ append_assoc (take m texts) (drop m (take n texts)) on.more in
    record { more = drop m (take n texts) ++ on.more; text = subst (IsCertsText strict) all on.text }

not_before : (strict : Bool) (texts : List (List ℕ)) (m n : ℕ) → IsFaultAt strict texts m → IsFaultAt strict texts n → m < n → ⊥
not_before strict texts m n h k lt =
    let within : n ≤ length texts = k.within in
    h.after (omega (arith, lt, within)) (goes_on_before strict texts (suc m) n lt k.before)

one_place : (strict : Bool) (texts : List (List ℕ)) (m n : ℕ) → IsFaultAt strict texts m → IsFaultAt strict texts n → m ≡ n
one_place strict texts m n h k = neither_less m n (not_before strict texts m n h k) (not_before strict texts n m k h)

-- both tell the same line and column
abbrev SamePlace : BadScript → BadScript → Type 0
SamePlace a b = (a.line ≡ b.line) × (a.column ≡ b.column)

told_alike : (bytes : List ℕ) (a b : BadScript) (m n : ℕ) → m ≡ n → IsToldAt bytes a m → IsToldAt bytes b n → SamePlace a b
told_alike bytes a b m n same h k =
    let h' : IsToldAt bytes a n = subst (IsToldAt bytes a) same h in
    (h'.line ∙ sym k.line, h'.column ∙ sym k.column)

faults_alike : (strict : Bool) (bytes : List ℕ) (tokens others : List Token) (a b : BadScript) → AreTokens bytes tokens → AreTokens bytes others → IsToldFault strict bytes tokens a → IsToldFault strict bytes others b → SamePlace a b
faults_alike strict bytes tokens others a b are other h k =
    let same : tokens ≡ others = one_token_list bytes tokens others are other in
    let first : IsToldFault strict bytes others a = subst (λ ts. IsToldFault strict bytes ts a) same h in
    told_alike bytes a b (token_place bytes others first.number) (token_place bytes others k.number) (ap (token_place bytes others) (one_place strict (texts_of bytes others) first.number k.number first.is_fault k.is_fault)) first.told k.told

-- a text has one reason, told at one place
reasons_alike : (r q : Reason) (bytes : List ℕ) (a b : BadScript) → IsFaultFor r bytes a → IsFaultFor q bytes b → (r ≡ q) × SamePlace a b
reasons_alike reason.Token reason.Token bytes a b h k = (refl, told_alike bytes a b h.place k.place (one_bad_byte bytes h.place k.place h.is_bad k.is_bad) h.told k.told)
reasons_alike reason.Token reason.Syntax bytes a b h k = absurd (bad_has_none bytes h.place h.is_bad k.tokens k.are)
reasons_alike reason.Token reason.Limit bytes a b h k = absurd (bad_has_none bytes h.place h.is_bad k.tokens k.are)
reasons_alike reason.Syntax reason.Token bytes a b h k = absurd (bad_has_none bytes k.place k.is_bad h.tokens h.are)
reasons_alike reason.Syntax reason.Syntax bytes a b h k = (refl, faults_alike false bytes h.tokens k.tokens a b h.are k.are h.first k.first)
reasons_alike reason.Syntax reason.Limit bytes a b h k = absurd (h.first.is_fault.none (subst (λ ts. IsCertsText false (texts_of bytes ts)) (one_token_list bytes k.tokens h.tokens k.are h.are) k.loose))
reasons_alike reason.Limit reason.Token bytes a b h k = absurd (bad_has_none bytes k.place k.is_bad h.tokens h.are)
reasons_alike reason.Limit reason.Syntax bytes a b h k = absurd (k.first.is_fault.none (subst (λ ts. IsCertsText false (texts_of bytes ts)) (one_token_list bytes h.tokens k.tokens h.are k.are) h.loose))
reasons_alike reason.Limit reason.Limit bytes a b h k = (refl, faults_alike true bytes h.tokens k.tokens a b h.are k.are h.first k.first)
reasons_alike r reason.Known bytes a b h k = absurd k
reasons_alike r reason.Taken bytes a b h k = absurd k
reasons_alike r reason.Sort bytes a b h k = absurd k
reasons_alike r reason.Prime bytes a b h k = absurd k
reasons_alike reason.Known q bytes a b h k = absurd h
reasons_alike reason.Taken q bytes a b h k = absurd h
reasons_alike reason.Sort q bytes a b h k = absurd h
reasons_alike reason.Prime q bytes a b h k = absurd h

one_refusal : (bytes : List ℕ) (a b : BadScript) → IsFaultFor a.reason bytes a → IsFaultFor b.reason bytes b → a ≡ b
one_refusal bytes a b h k =
    let same = reasons_alike a.reason b.reason bytes a b h k in
    λ i. record { line = same.1.0 i; column = same.1.1 i; reason = same.0 i }

accepted_or_rejected : (bytes : List ℕ) (line : ℕ) → AreAccepted bytes → AreRejected bytes line → ⊥
accepted_or_rejected bytes line h k = hold_no_line the_costs k.certs line (subst (All (AllHold the_costs)) (one_list bytes h.certs k.certs h.are k.are) h.hold) k.first

one_line : (bytes : List ℕ) (a b : ℕ) → AreRejected bytes a → AreRejected bytes b → a ≡ b
one_line bytes a b h k = one_first_line the_costs k.certs a b (subst (λ certs. IsFirstLine the_costs certs a) (one_list bytes h.certs k.certs h.are k.are) h.first) k.first

-- a text has one judgement
pub one_judgement : (bytes : List ℕ) (judgement other : Judgement) → IsJudgement bytes judgement → IsJudgement bytes other → judgement ≡ other
one_judgement bytes Accepted Accepted h k = refl
one_judgement bytes Accepted (Rejected b) h k = absurd (accepted_or_rejected bytes b h k)
one_judgement bytes Accepted (Refused b) h k = absurd (refused_none b.reason bytes b h.certs k h.are)
one_judgement bytes (Rejected a) Accepted h k = absurd (accepted_or_rejected bytes a k h)
one_judgement bytes (Rejected a) (Rejected b) h k = ap Rejected (one_line bytes a b h k)
one_judgement bytes (Rejected a) (Refused b) h k = absurd (refused_none b.reason bytes b h.certs k h.are)
one_judgement bytes (Refused a) Accepted h k = absurd (refused_none a.reason bytes a k.certs h k.are)
one_judgement bytes (Refused a) (Rejected b) h k = absurd (refused_none a.reason bytes a k.certs h k.are)
one_judgement bytes (Refused a) (Refused b) h k = ap Refused (one_refusal bytes a b h k)
