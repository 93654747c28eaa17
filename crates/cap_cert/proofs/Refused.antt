-- What reading answers is so, and is all.
use Rattle.std.proofs.Common.{◌≡◌, ℕ, suc, ◌+◌, ◌≤◌, List, [], ◌∷◌, length, take, true, false, Some, refl, sym, ap, ◌∙◌, subst, arith}
use Rattle.std.specs.Prelude.{slice_get, Result, Ok, Err, IfOk, IfErr, MatchResult}
use Rattle.std.specs.List.{All}
use Rattle.std.proofs.lemmas.Bool.{false≢true}
use Rattle.std.proofs.lemmas.List.{take_all}
use Rattle.std.proofs.lemmas.List.Elements.{All-nil, All-cons, All-head, All-tail, All-weaker}
use Rattle.std.proofs.lemmas.Option.{get_or_from_slice_get, slice_get_within}
use Rattle.cap_names.specs.Tokens.{AreTokens, AreSlices, IsSlice, InOrder, IsBadAt}
use Rattle.cap_names.proofs.Pieces.{one_token_list}
use Rattle.cap_names.proofs.Decided.{fronts_before_bad_byte}
use Rattle.cap_names.specs.declared.token.Token.{Token}
use Rattle.cap_names.specs.declared.reasons.BadScript.{BadScript}
use Rattle.cap_names.specs.declared.reasons.Reason.{Reason}
use Rattle.cap_names.specs.declared.reasons.Reason.TheVariants as reason
use Rattle.cap_cert.specs.declared.certs.Cert.{Cert}
use Rattle.cap_cert.specs.declared.machine.Next.TheVariants as next
use Rattle.cap_cert.specs.Lines.{IsRead}
use Rattle.cap_cert.specs.Texts.{Way, ByPrimitive, ByRule, ByNothing, Spelled}
use Rattle.cap_cert.specs.Reading.{texts_of, IsNumberWithin, IsWay, AreRegs, IsSpelled, IsCertsText, certs_of}
use Rattle.cap_cert.specs.Drafts.{blank, gather}
use Rattle.cap_cert.specs.Refusals.{AreCertsOf, IsFaultFor, IsRefused}
use Rattle.cap_cert.specs.declared.refusal.CertsFault.{CertsFault}
use Rattle.cap_cert.specs.declared.refusal.CertsFault.TheVariants as fault
use Rattle.cap_cert.proofs.OneToken.{at}
use Rattle.cap_cert.proofs.Values.{gathered, gathered_kept}

-- strict certificates are certificates
looser_number : (low high : ℕ) (t : List ℕ) → IsNumberWithin true low high t → IsNumberWithin false low high t
looser_number low high t n = record { number = n.number; from = λ e. absurd (false≢true e); to = λ e. absurd (false≢true e) }

looser_way : (way : Way) → IsWay true way → IsWay false way
looser_way (ByPrimitive bound) is = looser_number _ _ bound is
looser_way (ByRule rule bound) is = (looser_number _ _ rule is.0, looser_number _ _ bound is.1)
looser_way ByNothing is = tt

looser_regs : (k : ℕ) (regs : List (ℕ × List ℕ)) → AreRegs true k regs → AreRegs false k regs
looser_regs k [] are = tt
looser_regs k (reg ∷ regs) are = (are.0, are.1, looser_number _ _ reg.1 are.2, looser_regs (suc reg.0) regs are.3)

looser_cert : (c : Spelled) → IsSpelled true c → IsSpelled false c
looser_cert c is = record { version = is.version; first_version = is.first_version; name = is.name; regs = looser_regs 0 c.regs is.regs; all_ways = is.all_ways; ways = All-weaker (IsWay true) (IsWay false) looser_way c.ways is.ways }

looser : (texts : List (List ℕ)) → IsCertsText true texts → IsCertsText false texts
looser texts text = record { certs = text.certs; are = record { some = text.are.some; few = λ e. absurd (false≢true e); each = All-weaker (IsSpelled true) (IsSpelled false) looser_cert text.certs text.are.each }; tokens = text.tokens }

-- a text has one list of certificates
pub same_certs : (bytes : List ℕ) (tokens : List Token) (certs others : List Cert) → AreTokens bytes tokens → (text : IsCertsText true (texts_of bytes tokens)) → certs ≡ certs_of 1 text.certs → AreCertsOf bytes others → certs ≡ others
same_certs bytes tokens certs others are text e other =
    let same : other.tokens ≡ tokens = one_token_list bytes other.tokens tokens other.are are in
    let all : List Cert = gather 1 (Some (at 0 next.Start)) (blank 1) (texts_of bytes tokens) in
    let mine : all ≡ certs_of 1 text.certs = gathered (texts_of bytes tokens) all text refl in
    let theirs : gather 1 (Some (at 0 next.Start)) (blank 1) (texts_of bytes other.tokens) ≡ certs_of 1 other.text.certs = gathered (texts_of bytes other.tokens) (gather 1 (Some (at 0 next.Start)) (blank 1) (texts_of bytes other.tokens)) other.text refl in
    e ∙ sym mine ∙ ap (λ ts. gather 1 (Some (at 0 next.Start)) (blank 1) (texts_of bytes ts)) (sym same) ∙ theirs ∙ sym other.certs_are

pub one_list : (bytes : List ℕ) (certs others : List Cert) → AreCertsOf bytes certs → AreCertsOf bytes others → certs ≡ others
one_list bytes certs others a b = same_certs bytes a.tokens certs others a.are a.text a.certs_are b

pub certs_found : (bytes : List ℕ) (tokens : List Token) (certs : List Cert) → AreTokens bytes tokens → IsCertsText true (texts_of bytes tokens) → certs ≡ gather 1 (Some (at 0 next.Start)) (blank 1) (texts_of bytes tokens) → AreCertsOf bytes certs
certs_found bytes tokens certs are text e = record { tokens = tokens; are = are; text = text; certs_are = gathered (texts_of bytes tokens) certs text e }

pub kept : (bytes : List ℕ) (certs : List Cert) → AreCertsOf bytes certs → All IsRead certs
kept bytes certs a =
    let all : List Cert = gather 1 (Some (at 0 next.Start)) (blank 1) (texts_of bytes a.tokens) in
    subst (All IsRead) (gathered (texts_of bytes a.tokens) all a.text refl ∙ sym a.certs_are) (gathered_kept (texts_of bytes a.tokens) all a.text refl)

-- a refused text is not one of strict certificates
pub no_bad : (bytes : List ℕ) (n : ℕ) (tokens : List Token) → IsBadAt bytes n → AreTokens bytes tokens → ⊥
no_bad bytes n tokens bad are =
    let whole : AreTokens (take (length bytes) bytes) tokens = subst (λ bs. AreTokens bs tokens) (sym (take_all (length bytes) bytes (omega arith))) are in
    let before = (fronts_before_bad_byte bytes n bad (length bytes) (omega arith)).0 (tokens, whole) in
    omega (arith, before, bad.within)

pub refused_none : (why : Reason) (bytes : List ℕ) (bad : BadScript) (certs : List Cert) → IsFaultFor why bytes bad → AreCertsOf bytes certs → ⊥
refused_none reason.Token bytes bad certs f a = no_bad bytes f.place a.tokens f.is_bad a.are
refused_none reason.Syntax bytes bad certs f a =
    let same : a.tokens ≡ f.tokens = one_token_list bytes a.tokens f.tokens a.are f.are in
    f.first.is_fault.none (looser (texts_of bytes f.tokens) (subst (λ ts. IsCertsText true (texts_of bytes ts)) same a.text))
refused_none reason.Limit bytes bad certs f a =
    let same : a.tokens ≡ f.tokens = one_token_list bytes a.tokens f.tokens a.are f.are in
    f.first.is_fault.none (subst (λ ts. IsCertsText true (texts_of bytes ts)) same a.text)
refused_none reason.Known bytes bad certs f a = f
refused_none reason.Taken bytes bad certs f a = f
refused_none reason.Sort bytes bad certs f a = f
refused_none reason.Prime bytes bad certs f a = f

-- tokens are no more than bytes
few_from : (bytes : List ℕ) (i : ℕ) (ts : List Token) → InOrder i ts → All (IsSlice bytes) ts → i ≤ length bytes → i + length ts ≤ length bytes
few_from bytes i [] order slices within = omega (arith, within)
few_from bytes i (t ∷ ts) order slices within =
    let slice : IsSlice bytes t = All-head (IsSlice bytes) t ts slices in
    let more = few_from bytes t.end ts order.2 (All-tail (IsSlice bytes) t ts slices) slice.within in
    omega (arith, more, order.0, order.1)

pub tokens_few : (bytes : List ℕ) (ts : List Token) → AreSlices bytes ts → length ts ≤ length bytes
tokens_few bytes ts are = omega (arith, few_from bytes 0 ts are.order are.slices (omega arith))

starts_within : (bytes : List ℕ) (i : ℕ) (ts : List Token) → InOrder i ts → All (IsSlice bytes) ts → All (λ t. t.start ≤ length bytes) ts
starts_within bytes i [] order slices = All-nil (λ t. t.start ≤ length bytes)
starts_within bytes i (t ∷ ts) order slices =
    let slice : IsSlice bytes t = All-head (IsSlice bytes) t ts slices in
    All-cons (λ t. t.start ≤ length bytes) t ts (omega (arith, order.1, slice.within)) (starts_within bytes t.end ts order.2 (All-tail (IsSlice bytes) t ts slices))

pub token_within : (bytes : List ℕ) (ts : List Token) (n : ℕ) (t : Token) → AreSlices bytes ts → slice_get ts n ≡ Some t → t.start ≤ length bytes
token_within bytes ts n t are at =
    let all = starts_within bytes 0 ts are.order are.slices in
    subst (λ t. t.start ≤ length bytes) (get_or_from_slice_get ts n t t at) (all n t (slice_get_within ts n t at))

-- the answer of reading keeps the limits, and is all that the text can be
pub kept_of : {V : Type 0} (items : V → List Cert) (bytes : List ℕ) (r : Result V CertsFault) → IfOk r (λ v. AreCertsOf bytes (items v)) → IfOk r (λ v. All IsRead (items v))
kept_of items bytes (Ok v) found = kept bytes (items v) found
kept_of items bytes (Err e) found = tt

only_fault : (bytes : List ℕ) (e : CertsFault) (certs : List Cert) → IsRefused bytes e → AreCertsOf bytes certs → e ≡ fault.NoMemory
only_fault bytes (fault.BadScript bad) certs refused a = absurd (refused_none bad.reason bytes bad certs refused a)
only_fault bytes fault.NoMemory certs refused a = refl

pub only_of : {V : Type 0} (items : V → List Cert) (bytes : List ℕ) (r : Result V CertsFault) → IfOk r (λ v. AreCertsOf bytes (items v)) → IfErr r (IsRefused bytes) → (certs : List Cert) → AreCertsOf bytes certs → MatchResult r (λ v. items v ≡ certs) (λ e. e ≡ fault.NoMemory)
only_of items bytes (Ok v) found refused certs a = one_list bytes (items v) certs found a
only_of items bytes (Err e) found refused certs a = only_fault bytes e certs refused a
