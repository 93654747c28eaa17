-- The form of certificate texts (this project's own): lines of words, each line with its LF.
use Rattle.std.specs.Prelude.{ℕ, suc, List, [], ◌∷◌, ◌++◌, map, Option, Some, None, codes, slice_index_or}
use Rattle.std.specs.List.{flat_map, join_by}
use Rattle.std.specs.Fmt.{decimal}
use Rattle.cap_names.specs.Operations.{operation_names}
use Rattle.cap_ops.specs.Offered.{word_of}
use Rattle.cap_ops.specs.declared.plans.Kind.{Kind}
use Rattle.cap_ops.specs.declared.plans.Regs.{Regs}
use Rattle.cap_ops.specs.declared.plans.Plan.{Plan}
use Rattle.cap_ops.specs.declared.plans.Choice.{Choice}
use Rattle.cap_ops.specs.declared.plans.Choice.TheVariants.{Prim, Rule, Missing}

-- how an operation's line says that it is done: numbers are as they are spelled
pub data Way : Type 0 where
  ByPrimitive : (bound : List ℕ) → Way
  ByRule : (rule bound : List ℕ) → Way
  ByNothing : Way

-- a certificate as it is spelled: the places of the registered operations with their weights, and a way for each operation
pub record Spelled : Type 0 where
  pub version : List ℕ
  pub name : List ℕ
  pub kind : Kind
  pub regs : List (ℕ × List ℕ)
  pub ways : List Way

-- the name of the operation at a place, from 0
unfoldable pub operation_word : ℕ → List ℕ
operation_word place = slice_index_or operation_names place []

-- certificate VERSION NAME KIND
abbrev pub head_line : Spelled → List (List ℕ)
head_line c = codes "certificate" ∷ c.version ∷ c.name ∷ word_of c.kind ∷ []

-- reg OP WEIGHT
abbrev pub reg_line : (ℕ × List ℕ) → List (List ℕ)
reg_line reg = codes "reg" ∷ operation_word reg.0 ∷ reg.1 ∷ []

-- prim BOUND, or rule NUMBER BOUND, or missing
abbrev pub way_words : Way → List (List ℕ)
way_words (ByPrimitive bound) = codes "prim" ∷ bound ∷ []
way_words (ByRule rule bound) = codes "rule" ∷ rule ∷ bound ∷ []
way_words ByNothing = codes "missing" ∷ []

-- op OP WAY
abbrev pub op_line : ℕ → Way → List (List ℕ)
op_line place way = codes "op" ∷ operation_word place ∷ way_words way

-- the lines of the operations from a place on
abbrev pub op_lines : ℕ → List Way → List (List (List ℕ))
op_lines place [] = []
op_lines place (way ∷ ways) = op_line place way ∷ op_lines (suc place) ways

abbrev pub end_line : List (List ℕ)
end_line = codes "end" ∷ []

-- the lines of a certificate
abbrev pub lines_of : Spelled → List (List (List ℕ))
lines_of c = head_line c ∷ (map reg_line c.regs ++ (op_lines 0 c.ways ++ end_line ∷ []))

-- a line as it is written: one blank between words, and an LF
abbrev pub line_text : List (List ℕ) → List ℕ
line_text words = join_by (λ word. word) (codes " ") words ++ codes "\n"

-- a certificate as it is written
abbrev pub cert_text : Spelled → List ℕ
cert_text c = flat_map line_text (lines_of c)

-- the registered operations from a place on, with their weights in decimal
abbrev pub regs_from : ℕ → List (Option ℕ) → List (ℕ × List ℕ)
regs_from place [] = []
regs_from place (None ∷ weights) = regs_from (suc place) weights
regs_from place (Some weight ∷ weights) = (place, decimal weight) ∷ regs_from (suc place) weights

-- a choice with its bound in decimal
abbrev pub way_of : Choice → ℕ → Way
way_of Prim bound = ByPrimitive (decimal bound)
way_of (Rule rule) bound = ByRule (decimal rule.0) (decimal bound)
way_of Missing bound = ByNothing

abbrev pub ways_of : List Choice → List ℕ → List Way
ways_of [] bounds = []
ways_of (choice ∷ choices) [] = []
ways_of (choice ∷ choices) (bound ∷ bounds) = way_of choice bound ∷ ways_of choices bounds

-- the certificate of a plan, in decimal
abbrev pub spelled_plan : List ℕ → Kind → Regs → Plan → Spelled
spelled_plan name kind regs plan = record { version = codes "1"; name = name; kind = kind; regs = regs_from 0 regs.weights; ways = ways_of plan.choices plan.bounds }
