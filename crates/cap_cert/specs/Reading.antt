-- Which texts are certificates, and where a text first isn't one.
use Rattle.std.specs.Prelude.{◌≡◌, ℕ, ◌+◌, ◌<◌, ◌≤◌, suc, List, [], ◌∷◌, ◌++◌, length, map, take, Contains, Option, Some, None, Bool, true, codes, slice_set, replicate, slice_range}
use Rattle.std.specs.List.{All, flat_map}
use Rattle.std.specs.Str.Parse.{digits_value}
use Rattle.cap_names.specs.Words.{IsWord, IsNumber}
use Rattle.cap_names.specs.declared.token.Token.{Token}
use Rattle.cap_names.specs.Operations.{operation_names}
use Rattle.cap_ops.specs.declared.plans.Choice.{Choice}
use Rattle.cap_ops.specs.declared.plans.Choice.TheVariants.{Prim, Rule, Missing}
use Rattle.cap_ops.specs.declared.plans.TheConstants.{OPERATIONS, NO_PLAN, MOST_WEIGHT}
use Rattle.cap_cert.specs.declared.certs.Cert.{Cert}
use Rattle.cap_cert.specs.Texts.{Way, ByPrimitive, ByRule, ByNothing, Spelled, lines_of}

-- the words that scripts keep for themselves, besides the names of the operations
abbrev pub script_words : List (List ℕ)
script_words =
    codes "table" ∷ codes "prime" ∷ codes "objects" ∷ codes "basis" ∷ codes "unit" ∷ codes "product" ∷ codes "end" ∷
    codes "quiver" ∷ codes "bound" ∷ codes "arrow" ∷ codes "relation" ∷ codes "category" ∷ codes "vec" ∷ codes "add" ∷
    codes "freyd" ∷ codes "rep" ∷ codes "session" ∷ codes "register" ∷ codes "finalise" ∷ codes "plan" ∷ codes "object" ∷
    codes "let" ∷ codes "src" ∷ codes "tgt" ∷ codes "dims" ∷ codes "maps" ∷ []

-- a name, as scripts have it
pub record IsNameText (text : List ℕ) : Type 0 where
  pub word : IsWord text
  pub free : Contains script_words text → ⊥
  pub no_operation : Contains operation_names text → ⊥

-- the number that digits write
abbrev pub value : List ℕ → ℕ
value digits = digits_value 10 digits

-- a number from low to high, where the limits are asked for
pub record IsNumberWithin (strict : Bool) (low high : ℕ) (digits : List ℕ) : Type 0 where
  pub number : IsNumber digits
  pub from : strict ≡ true → low ≤ value digits
  pub to : strict ≡ true → value digits ≤ high

abbrev pub IsWeightText : Bool → List ℕ → Type 0
IsWeightText strict digits = IsNumberWithin strict 1 MOST_WEIGHT digits

abbrev pub IsRuleText : Bool → List ℕ → Type 0
IsRuleText strict digits = IsNumberWithin strict 1 59 digits

abbrev pub IsBoundText : Bool → List ℕ → Type 0
IsBoundText strict digits = IsNumberWithin strict 0 NO_PLAN digits

abbrev pub IsWay : Bool → Way → Type 0
IsWay strict (ByPrimitive bound) = IsBoundText strict bound
IsWay strict (ByRule rule bound) = IsRuleText strict rule × IsBoundText strict bound
IsWay strict ByNothing = Unit {0}

-- registered operations from a place on, in order and none twice, with their weights
abbrev pub AreRegs : Bool → ℕ → List (ℕ × List ℕ) → Type 0
AreRegs strict place [] = Unit {0}
AreRegs strict place (reg ∷ regs) = (place ≤ reg.0) × (reg.0 < OPERATIONS) × IsWeightText strict reg.1 × AreRegs strict (suc reg.0) regs

-- a certificate of version 1; strict ones keep the limits on weights, rule numbers and bounds
pub record IsSpelled (strict : Bool) (c : Spelled) : Type 0 where
  pub version : IsNumber c.version
  pub first_version : value c.version ≡ 1
  pub name : IsNameText c.name
  pub regs : AreRegs strict 0 c.regs
  pub all_ways : length c.ways ≡ OPERATIONS
  pub ways : All (IsWay strict) c.ways

-- one certificate or more; strict ones are 16 at most
pub record AreSpelled (strict : Bool) (cs : List Spelled) : Type 0 where
  pub some : 1 ≤ length cs
  pub few : strict ≡ true → length cs ≤ 16
  pub each : All (IsSpelled strict) cs

abbrev pub line_end : List ℕ
line_end = 10 ∷ []

-- the tokens of a line: its words, and the LF
abbrev pub line_tokens : List (List ℕ) → List (List ℕ)
line_tokens words = words ++ line_end ∷ []

abbrev pub cert_tokens : Spelled → List (List ℕ)
cert_tokens c = flat_map line_tokens (lines_of c)

-- the tokens of certificates
abbrev pub certs_tokens : List Spelled → List (List ℕ)
certs_tokens cs = flat_map cert_tokens cs

-- these are the tokens of certificates
pub record IsCertsText (strict : Bool) (texts : List (List ℕ)) : Type 0 where
  pub certs : List Spelled
  pub are : AreSpelled strict certs
  pub tokens : texts ≡ certs_tokens certs

-- some certificates' tokens go on so
pub record GoesOn (strict : Bool) (front : List (List ℕ)) : Type 0 where
  pub more : List (List ℕ)
  pub text : IsCertsText strict (front ++ more)

-- The first n tokens are the longest front with which certificates go on, and the text isn't one of certificates.
pub record IsFaultAt (strict : Bool) (texts : List (List ℕ)) (n : ℕ) : Type 0 where
  pub within : n ≤ length texts
  pub before : GoesOn strict (take n texts)
  pub after : n < length texts → GoesOn strict (take (suc n) texts) → ⊥
  pub none : IsCertsText strict texts → ⊥

-- the texts of tokens
abbrev pub text_of : List ℕ → Token → List ℕ
text_of bytes token = slice_range bytes token.start token.end

abbrev pub texts_of : List ℕ → List Token → List (List ℕ)
texts_of bytes tokens = map (text_of bytes) tokens

-- The certificates that are spelled.
abbrev pub weights_with : List (Option ℕ) → List (ℕ × List ℕ) → List (Option ℕ)
weights_with weights [] = weights
weights_with weights (reg ∷ regs) = weights_with (slice_set weights reg.0 (Some (value reg.1))) regs

abbrev pub choice_of : Way → Choice
choice_of (ByPrimitive bound) = Prim
choice_of (ByRule rule bound) = Rule (record { 0 = value rule })
choice_of ByNothing = Missing

abbrev pub bound_of : Way → ℕ
bound_of (ByPrimitive bound) = value bound
bound_of (ByRule rule bound) = value bound
bound_of ByNothing = NO_PLAN

-- the certificate whose first line has this number
abbrev pub cert_of : ℕ → Spelled → Cert
cert_of line c = record {
  name = c.name;
  kind = c.kind;
  regs = record { weights = weights_with (replicate OPERATIONS None) c.regs };
  plan = record { choices = map choice_of c.ways; bounds = map bound_of c.ways };
  first_line = line;
}

-- the certificates, the first of which begins at this line
abbrev pub certs_of : ℕ → List Spelled → List Cert
certs_of line [] = []
certs_of line (c ∷ cs) = cert_of line c ∷ certs_of (line + length (lines_of c)) cs
