-- Worked examples of the lines.
use Rattle.std.proofs.Common.{◌≡◌, ℕ, List, [], ◌∷◌, None, refl}
use Rattle.std.specs.Prelude.{codes}
use Rattle.std.specs.Fmt.{digits}
use Rattle.cap_names.specs.declared.identifiers.Handle.{Handle}
use Rattle.cap_names.specs.declared.identifiers.OpId.{OpId}
use Rattle.cap_names.specs.declared.literals.MorLit.{MorLit}
use Rattle.cap_names.specs.declared.literals.MorLit.TheVariants.{Rows}
use Rattle.cap_names.specs.declared.literals.ObjLit.TheVariants as literal
use Rattle.cap_grammar.specs.declared.tree.ArgTok.TheVariants as argument
use Rattle.cap_grammar.specs.declared.tree.Command.{Command}
use Rattle.cap_grammar.specs.declared.tree.Command.TheVariants.{Register, Finalise, Object, Src, Let, Call}
use Rattle.cap_grammar.specs.declared.tree.Item.TheVariants as top
use Rattle.cap_grammar.specs.declared.tree.Over.TheVariants.{Vec}
use Rattle.cap_grammar.specs.declared.tree.Placed.{Placed}
use Rattle.cap_grammar.specs.declared.tree.RefTok.{RefTok}
use Rattle.cap_grammar.specs.declared.tree.SessionPart.{SessionPart}
use Rattle.cap_checked.specs.declared.tree.CheckedObj.{CheckedObj}
use Rattle.cap_checked.specs.declared.tree.CheckedObj.TheVariants.{Lit}
use Rattle.cap_checked.specs.declared.tree.Checked.{Checked}
use Rattle.cap_ops.specs.declared.arrows.Arrow.{Arrow}
use Rattle.cap_data.specs.declared.data.ObjData.{ObjData}
use Rattle.cap_data.specs.declared.data.ObjData.TheVariants.{Dim}
use Rattle.cap_data.specs.declared.data.MorData.{MorData}
use Rattle.cap_data.specs.declared.data.MorData.TheVariants.{Mat}
use Rattle.cap_history.specs.declared.entries.Event.TheVariants.{Declare, Put}
use Rattle.cap_history.specs.declared.entries.Reply.TheVariants.{Kept}
use Rattle.cap_history.specs.declared.entries.Reply.TheVariants as reply
use Rattle.cap_history.specs.declared.entries.Entry.{Entry}
use Rattle.cap_ops.specs.declared.keys.Out.TheVariants.{Nothing as OutNothing}
use Rattle.cap_ops.specs.declared.keys.Value.TheVariants.{Nothing as ValueNothing}
use Rattle.cap_report.specs.declared.lines.LineAnswer.{LineAnswer}
use Rattle.cap_report.specs.declared.lines.LineAnswer.TheVariants as line
use Rattle.cap_report.specs.declared.lines.LineRefusal.TheVariants as refusal
use Rattle.cap_report.specs.declared.report.Done.{Done}
use Rattle.cap_report.specs.declared.report.History.{History}
use Rattle.cap_report.specs.declared.report.Report.{Report}
use Rattle.cap_report.specs.declared.report.Trace.{Trace}
use Rattle.cap_top_text.specs.declared.book.Book.{Book}
use Rattle.cap_top_text.specs.Values.{operation_text}
use Rattle.cap_top_text.specs.Lines.{command_text, item_text}
use Rattle.cap_top_text.specs.Text.{report_text}

abbrev at : ℕ → Handle
at n = record { 0 = n }

abbrev op : ℕ → OpId
op n = record { 0 = n }

-- a command, its category, and a reference to a value
abbrev Line : Type 0
Line = Command CheckedObj MorLit

abbrev V : List ℕ
V = codes "V"

abbrev to : List ℕ → RefTok
to name = record { name = name; part = None }

abbrev object_line : List ℕ → Line
object_line name = Object V name (Lit (literal.Dim 2))

abbrev let_line : List ℕ → Line
let_line name = Let name V (to (codes "a")) (to (codes "b")) (Rows (record { rows = [] }))

abbrev call_line : List ℕ → ℕ → List ℕ → Line
call_line name n x = Call name V (op n) (argument.Ref (to x) ∷ [])

-- a matrix of this many columns, and a morphism that has it
abbrev matrix : ℕ → List (List ℕ) → MorData
matrix n rows = Mat (record { prime = 5; row_count = 2; column_count = n; entries = rows })

abbrev arrow : ℕ → ℕ → MorData → Arrow MorData
arrow s t m = record { src = at s; tgt = at t; value = m }

-- the history of a category whose objects are of these dimensions: the first four are declared, and the others are the new ones of what is kept
abbrev declares : ℕ → ℕ → Entry ObjData MorData
declares h n = record { session = record { 0 = 0 }; event = Declare (codes "o") (Dim n); reply = reply.Object (at h) }

abbrev brings : ℕ → Entry ObjData MorData
brings n = record { session = record { 0 = 0 }; event = Put (record { op = op 16; args = [] }) (record { fresh = Dim n ∷ []; out = OutNothing }); reply = reply.Kept (record { value = ValueNothing; objects = [] }) }

abbrev history : History ObjData MorData
history = record { cat = record { 0 = 0 }; entries = declares 0 2 ∷ declares 1 2 ∷ brings 1 ∷ declares 3 4 ∷ [] }

-- a script, and what its commands answer: two sessions meet the objects with handles 2 and 3 in different orders
abbrev placed : {X : Type 0} → X → Placed X
placed x = record { node = x; places = [] }

abbrev done : LineAnswer MorData → Done MorData
done answer = record { command = 0; answer = answer }

abbrev sessions : List (Placed (SessionPart CheckedObj MorLit))
sessions =
    placed (record { name = codes "one"; commands = placed (call_line (codes "k") 16 (codes "f")) ∷ placed (object_line (codes "mine")) ∷ [] })
    ∷ placed (record { name = codes "two"; commands = placed (object_line (codes "mine")) ∷ placed (call_line (codes "k") 16 (codes "f")) ∷ placed (Src (codes "t") (to (codes "k"))) ∷ [] })
    ∷ []

abbrev script : Checked
script = record {
  prelude =
      placed (top.Category V (Vec 5)) ∷ placed (top.Command (Register V (op 16) None)) ∷ placed (top.Command (Finalise V))
      ∷ placed (top.Command (object_line (codes "a"))) ∷ placed (top.Command (object_line (codes "b"))) ∷ placed (top.Command (let_line (codes "f"))) ∷ [];
  sessions = sessions;
}

abbrev trace : List (LineAnswer MorData) → Trace ObjData MorData
trace [] = record { session = record { 0 = 0 }; events = []; done = [] }
trace (answer ∷ answers) = record (trace answers) { done = done answer ∷ (trace answers).done }

abbrev kernel : LineAnswer MorData
kernel = line.Morphism (arrow 2 0 (matrix 2 ((1 ∷ 2 ∷ []) ∷ [])))

abbrev report : Report ObjData MorData
report = record {
  histories = history ∷ [];
  traces =
      trace (line.Category ∷ line.Registered (op 16) 20 ∷ line.Final ∷ line.Object (at 0) ∷ line.Object (at 1) ∷ line.Morphism (arrow 0 1 (matrix 2 ((1 ∷ 2 ∷ []) ∷ (2 ∷ 4 ∷ []) ∷ []))) ∷ [])
      ∷ trace (kernel ∷ line.Object (at 3) ∷ []) ∷ trace (line.Object (at 3) ∷ kernel ∷ line.Object (at 2) ∷ []) ∷ [];
  plans = [];
}

sessions_have_numbers_of_their_own : report_text script report ≡ codes "V: vec 5\nV registers Kernel 20\nV final\nV#1: 2\na = V#1\nV#2: 2\nb = V#2\nf = V#1 -> V#2 [1 2; 2 4]\nsession one\nV#3: 1\nk = V#3 -> V#1 [1 2]\nV#4: 4\nmine = V#4\nsession two\nV#3: 4\nmine = V#3\nV#4: 1\nk = V#4 -> V#1 [1 2]\nt = V#4\n"
unfolding digits operation_text
sessions_have_numbers_of_their_own = refl

-- V and W are made, and the second object of W has appeared
abbrev book : Book
book = record {
  made = record { name = V; over = Vec 5 } ∷ record { name = codes "W"; over = Vec 7 } ∷ [];
  bound = record { name = codes "x"; category = codes "W" } ∷ [];
  seen = (1, at 1) ∷ (0, at 1) ∷ [];
}

abbrev histories : List (History ObjData MorData)
histories = history ∷ history ∷ []

-- the lines of objects come before the line that mentions them, left before right
mismatch_in_order : command_text histories book (call_line (codes "h") 2 (codes "f")) (line.Refused (refusal.Mismatch (record { place = 3; left = at 0; right = at 3 })))
    ≡ codes "V#2: 2\nV#3: 4\nh ! Mismatch 3 V#2 V#3\n"
unfolding digits
mismatch_in_order = refl

-- all objects of a tuple come first
tuple_in_order : command_text histories book (call_line (codes "w") 26 (codes "f")) (line.Tuple (arrow 3 1 (matrix 2 ((1 ∷ 0 ∷ []) ∷ (0 ∷ 1 ∷ []) ∷ [])) ∷ arrow 3 2 (matrix 1 ((1 ∷ []) ∷ (1 ∷ []) ∷ [])) ∷ []))
    ≡ codes "V#2: 4\nV#3: 1\nw = V#2 -> V#1 [1 0; 0 1] | V#2 -> V#3 [1; 1]\n"
unfolding digits
tuple_in_order = refl

-- the source of x is of the category of x, which has numbers of its own
numbers_by_category : command_text histories book (Src (codes "s") (to (codes "x"))) (line.Object (at 0)) ≡ codes "W#2: 2\ns = W#2\n"
unfolding digits
numbers_by_category = refl

-- the matrix between objects one of which is zero, and a category that was refused
empty_matrices : command_text histories book (let_line (codes "z")) (line.Morphism (arrow 1 1 (matrix 0 ([] ∷ [] ∷ [])))) ≡ codes "z = V#1 -> V#1 []\n"
unfolding digits
empty_matrices = refl

refused_lines : (item_text histories book (top.Category (codes "U") (Vec 5)) (line.Refused (refusal.Lacks (codes "T"))) ≡ codes "U ! Lacks T\n")
    × (item_text histories book (top.Command (Finalise V)) (line.Refused (refusal.AlreadyFinal 1)) ≡ codes "V ! AlreadyFinal 1\n")
    × (command_text histories book (object_line (codes "a")) (line.Refused (refusal.NameTaken (at 0))) ≡ codes "V#2: 2\na ! NameTaken V#2\n")
    × (command_text histories book (call_line (codes "k") 16 (codes "f")) (line.Refused (refusal.Full 200000 7)) ≡ codes "k ! Full 200000 7\n")
unfolding digits
refused_lines = (refl, refl, refl, refl)
