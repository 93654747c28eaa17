-- Which certificates bytes are, and how a text that isn't one of certificates is refused.
use Rattle.std.specs.Prelude.{◌≡◌, ℕ, List, length, Option, Some, None, slice_get, Bool, true, false}
use Rattle.cap_names.specs.Tokens.{AreTokens, IsBadAt}
use Rattle.cap_names.specs.Places.{line_at, column_at}
use Rattle.cap_names.specs.declared.token.Token.{Token}
use Rattle.cap_names.specs.declared.reasons.BadScript.{BadScript}
use Rattle.cap_names.specs.declared.reasons.Reason.{Reason}
use Rattle.cap_names.specs.declared.reasons.Reason.TheVariants as reason
use Rattle.cap_cert.specs.declared.certs.Cert.{Cert}
use Rattle.cap_cert.specs.declared.refusal.CertsFault.{CertsFault}
use Rattle.cap_cert.specs.declared.refusal.CertsFault.TheVariants as fault
use Rattle.cap_cert.specs.Reading.{texts_of, IsCertsText, IsFaultAt, certs_of}

-- the bytes are a text of these certificates, which keep the limits
pub record AreCertsOf (bytes : List ℕ) (certs : List Cert) : Type 0 where
  pub tokens : List Token
  pub are : AreTokens bytes tokens
  pub text : IsCertsText true (texts_of bytes tokens)
  pub certs_are : certs ≡ certs_of 1 text.certs

-- where a token begins, or the end of the text where there is none
abbrev pub start_or_end : List ℕ → Option Token → ℕ
start_or_end bytes None = length bytes
start_or_end bytes (Some token) = token.start

-- the place of the token with a number, from 0
abbrev pub token_place : List ℕ → List Token → ℕ → ℕ
token_place bytes tokens n = start_or_end bytes (slice_get tokens n)

-- the fault is told at this place
pub record IsToldAt (bytes : List ℕ) (bad : BadScript) (place : ℕ) : Type 0 where
  pub line : bad.line ≡ line_at bytes place
  pub column : bad.column ≡ column_at bytes place

-- a byte is in no token
pub record IsTokenFault (bytes : List ℕ) (bad : BadScript) : Type 0 where
  pub place : ℕ
  pub is_bad : IsBadAt bytes place
  pub told : IsToldAt bytes bad place

-- a fault of these tokens is told where its token begins, or at the end
pub record IsToldFault (strict : Bool) (bytes : List ℕ) (tokens : List Token) (bad : BadScript) : Type 0 where
  pub number : ℕ
  pub is_fault : IsFaultAt strict (texts_of bytes tokens) number
  pub told : IsToldAt bytes bad (token_place bytes tokens number)

-- no certificates go on with a token, whatever their numbers
pub record IsSyntaxFault (bytes : List ℕ) (bad : BadScript) : Type 0 where
  pub tokens : List Token
  pub are : AreTokens bytes tokens
  pub first : IsToldFault false bytes tokens bad

-- the text is one of certificates, but none that keep the limits go on with a token
pub record IsLimitFault (bytes : List ℕ) (bad : BadScript) : Type 0 where
  pub tokens : List Token
  pub are : AreTokens bytes tokens
  pub loose : IsCertsText false (texts_of bytes tokens)
  pub first : IsToldFault true bytes tokens bad

abbrev pub IsFaultFor : Reason → List ℕ → BadScript → Type 0
IsFaultFor reason.Token bytes bad = IsTokenFault bytes bad
IsFaultFor reason.Syntax bytes bad = IsSyntaxFault bytes bad
IsFaultFor reason.Limit bytes bad = IsLimitFault bytes bad
IsFaultFor reason.Known bytes bad = ⊥
IsFaultFor reason.Taken bytes bad = ⊥
IsFaultFor reason.Sort bytes bad = ⊥
IsFaultFor reason.Prime bytes bad = ⊥

-- why the bytes are refused
abbrev pub IsRefused : List ℕ → CertsFault → Type 0
IsRefused bytes (fault.BadScript bad) = IsFaultFor bad.reason bytes bad
IsRefused bytes fault.NoMemory = Unit {0}
