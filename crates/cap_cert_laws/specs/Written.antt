-- What certificates are written of, and what can be written so that reading gives it back (this project's own).
use Rattle.std.specs.Prelude.{◌≡◌, ℕ, ◌+◌, ◌<◌, ◌≤◌, List, [], ◌∷◌, length, slice_index}
use Rattle.std.specs.List.{All, flat_map, slice_index_or}
use Rattle.cap_names.specs.declared.identifiers.RuleNo.{RuleNo}
use Rattle.cap_ops.specs.declared.plans.Kind.{Kind}
use Rattle.cap_ops.specs.declared.plans.Regs.{Regs}
use Rattle.cap_ops.specs.declared.plans.Plan.{Plan}
use Rattle.cap_ops.specs.declared.plans.Choice.{Choice}
use Rattle.cap_ops.specs.declared.plans.Choice.TheVariants.{Rule, Missing}
use Rattle.cap_ops.specs.declared.plans.TheConstants.{OPERATIONS, NO_PLAN}
use Rattle.cap_ops.specs.Derivations.{IsWeight, IsPlan, means}
use Rattle.cap_cert.specs.declared.certs.Cert.{Cert}
use Rattle.cap_cert.specs.Texts.{Spelled, spelled_plan, lines_of, cert_text}
use Rattle.cap_cert.specs.Reading.{IsNameText}
use Rattle.cap_judge.specs.Judged.{the_costs}

-- what a certificate is written of: a category's name and kind, its registrations, and a plan
pub record Subject : Type 0 where
  pub name : List ℕ
  pub kind : Kind
  pub regs : Regs
  pub plan : Plan

-- how the certificate is spelled
abbrev pub spelling : Subject → Spelled
spelling s = spelled_plan s.name s.kind s.regs s.plan

-- the text that is written
abbrev pub written : Subject → List ℕ
written s = cert_text (spelling s)

-- the texts of several, one behind the other
abbrev pub all_written : List Subject → List ℕ
all_written ss = flat_map written ss

-- the certificate whose first line has this number
abbrev pub cert_at : ℕ → Subject → Cert
cert_at line s = record { name = s.name; kind = s.kind; regs = s.regs; plan = s.plan; first_line = line }

-- the certificates: the first begins at this line, each other one behind the lines of those before it
abbrev pub certs_from : ℕ → List Subject → List Cert
certs_from line [] = []
certs_from line (s ∷ ss) = cert_at line s ∷ certs_from (line + length (lines_of (spelling s))) ss

-- a category as certificates have it: its name may stand in one, and each registered weight is in range
pub record IsCategory (s : Subject) : Type 0 where
  pub name : IsNameText s.name
  pub all_weights : length s.regs.weights ≡ OPERATIONS
  pub weights : All IsWeight s.regs.weights

-- how an operation is done can be written: the bound is in range, a rule is one of 59, and an operation that is missing has the bound that says so
pub record IsWritableWay (choice : Choice) (bound : ℕ) : Type 0 where
  pub capped : bound ≤ NO_PLAN
  pub rule : (number : RuleNo) → choice ≡ Rule number → (1 ≤ number.0) × (number.0 ≤ 59)
  pub missing : choice ≡ Missing → bound ≡ NO_PLAN

-- a certificate can be written of it: it is of a category, with a bound and a choice for each operation that can be written
pub record IsWritable (s : Subject) : Type 0 where
  pub category : IsCategory s
  pub all_bounds : length s.plan.bounds ≡ OPERATIONS
  pub all_choices : length s.plan.choices ≡ OPERATIONS
  pub ways : (op : ℕ) → op < OPERATIONS → IsWritableWay (slice_index_or s.plan.choices op Missing) (slice_index s.plan.bounds op)

-- as many as a text may have certificates
pub record AreFew (ss : List Subject) : Type 0 where
  pub some : 1 ≤ length ss
  pub few : length ss ≤ 16

-- it is of a category, with the plan of its registrations and kind by the 59 rules
pub record IsPlanned (s : Subject) : Type 0 where
  pub category : IsCategory s
  pub plan : IsPlan (means s.regs the_costs s.kind) s.plan
