-- Certificates as they are put together token by token, for the private functions of the reader.
use Rattle.std.specs.Prelude.{ℕ, suc, List, [], ◌∷◌, ◌++◌, Option, Some, None, Bool, true, false, codes, slice_set, replicate, if◌then◌else◌}
use Rattle.cap_ops.specs.declared.plans.Kind.{Kind}
use Rattle.cap_ops.specs.declared.plans.Kind.TheVariants.{Mat}
use Rattle.cap_ops.specs.declared.plans.Choice.{Choice}
use Rattle.cap_ops.specs.declared.plans.Choice.TheVariants.{Prim, Rule, Missing}
use Rattle.cap_ops.specs.declared.plans.TheConstants.{OPERATIONS, NO_PLAN, MOST_WEIGHT}
use Rattle.cap_cert.specs.declared.certs.Cert.{Cert}
use Rattle.cap_cert.specs.declared.machine.Next.{Next}
use Rattle.cap_cert.specs.declared.machine.Next.TheVariants as next
use Rattle.cap_cert.specs.declared.machine.State.{State}
use Rattle.cap_cert.specs.declared.drafts.Draft.{Draft}
use Rattle.cap_cert.specs.Reading.{value}
use Rattle.cap_cert.specs.Machine.{is, is_word_text, is_within, kind_named, step}

-- a draft of these parts
abbrev pub draft : Option (List ℕ) → Kind → List (Option ℕ) → List Choice → List ℕ → ℕ → Draft
draft name kind weights choices bounds first = record { name = name; kind = kind; regs = record { weights = weights }; plan = record { choices = choices; bounds = bounds }; first_line = first }

abbrev pub blank : ℕ → Draft
blank line = draft None Mat (replicate OPERATIONS None) (replicate OPERATIONS Missing) (replicate OPERATIONS NO_PLAN) line

-- the text as a name, where it is a word
unfoldable pub named : List ℕ → Option (List ℕ)
named text = if is_word_text text then Some text else None

-- the number, where it is from low to high
unfoldable pub number_in : ℕ → ℕ → List ℕ → Option ℕ
number_in low high text = if is_within true low high text then Some (value text) else None

abbrev pub rule_of : Option ℕ → Choice
rule_of None = Missing
rule_of (Some n) = Rule (record { 0 = n })

abbrev pub kind_or : Option Kind → Kind
kind_or None = Mat
kind_or (Some kind) = kind

abbrev pub bound_or : Option ℕ → ℕ
bound_or None = NO_PLAN
bound_or (Some n) = n

abbrev pub with_primitive : Bool → ℕ → List Choice → List Choice
with_primitive true place choices = slice_set choices place Prim
with_primitive false place choices = choices

-- the draft behind a token on a line
abbrev pub act : ℕ → Next → List ℕ → Draft → Draft
act line next.Start text d = blank line
act line next.Version text d = d
act line next.Name text d = draft (named text) d.kind d.regs.weights d.plan.choices d.plan.bounds d.first_line
act line next.Kind text d = draft d.name (kind_or (kind_named text)) d.regs.weights d.plan.choices d.plan.bounds d.first_line
act line next.HeadEnd text d = d
act line (next.Line place) text d = d
act line (next.RegName place) text d = d
act line (next.Weight place) text d = draft d.name d.kind (slice_set d.regs.weights place (number_in 1 MOST_WEIGHT text)) d.plan.choices d.plan.bounds d.first_line
act line (next.RegEnd place) text d = d
act line (next.OpLine place) text d = d
act line (next.OpName place) text d = d
act line (next.Way place) text d = draft d.name d.kind d.regs.weights (with_primitive (is (codes "prim") text) place d.plan.choices) d.plan.bounds d.first_line
act line (next.Rule place) text d = draft d.name d.kind d.regs.weights (slice_set d.plan.choices place (rule_of (number_in 1 59 text))) d.plan.bounds d.first_line
act line (next.Bound place) text d = draft d.name d.kind d.regs.weights d.plan.choices (slice_set d.plan.bounds place (bound_or (number_in 0 NO_PLAN text))) d.first_line
act line (next.OpEnd place) text d = d
act line next.LastEnd text d = d

-- the number of the line behind a token
abbrev pub line_behind : ℕ → Next → ℕ
line_behind line next.Start = line
line_behind line next.Version = line
line_behind line next.Name = line
line_behind line next.Kind = line
line_behind line next.HeadEnd = suc line
line_behind line (next.Line place) = line
line_behind line (next.RegName place) = line
line_behind line (next.Weight place) = line
line_behind line (next.RegEnd place) = suc line
line_behind line (next.OpLine place) = line
line_behind line (next.OpName place) = line
line_behind line (next.Way place) = line
line_behind line (next.Rule place) = line
line_behind line (next.Bound place) = line
line_behind line (next.OpEnd place) = suc line
line_behind line next.LastEnd = suc line

abbrev pub cert_named : Option (List ℕ) → Draft → List Cert
cert_named None d = []
cert_named (Some name) d = record { name = name; kind = d.kind; regs = d.regs; plan = d.plan; first_line = d.first_line } ∷ []

-- the certificate that a token ends
abbrev pub made : Next → Draft → List Cert
made next.LastEnd d = cert_named d.name d
made next.Start d = []
made next.Version d = []
made next.Name d = []
made next.Kind d = []
made next.HeadEnd d = []
made (next.Line place) d = []
made (next.RegName place) d = []
made (next.Weight place) d = []
made (next.RegEnd place) d = []
made (next.OpLine place) d = []
made (next.OpName place) d = []
made (next.Way place) d = []
made (next.Rule place) d = []
made (next.Bound place) d = []
made (next.OpEnd place) d = []

-- the certificates that end in these tokens
abbrev pub gather : ℕ → Option State → Draft → List (List ℕ) → List Cert
gather line None d texts = []
gather line (Some s) d [] = []
gather line (Some s) d (text ∷ texts) = made s.next d ++ gather (line_behind line s.next) (step true s text) (act line s.next text d) texts
