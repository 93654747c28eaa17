-- Worked examples of lines of a log.
use Rattle.std.proofs.Common.{◌≡◌, ℕ, List, [], ◌∷◌, refl}
use Rattle.std.specs.Prelude.{codes}
use Rattle.std.specs.Fmt.{digits}
use Rattle.cap_names.specs.declared.identifiers.Handle.{Handle}
use Rattle.cap_names.specs.declared.identifiers.OpId.{OpId}
use Rattle.cap_names.specs.declared.literals.MorLit.{MorLit}
use Rattle.cap_grammar.specs.declared.tree.Command.TheVariants as command
use Rattle.cap_grammar.specs.declared.tree.Item.{Item}
use Rattle.cap_grammar.specs.declared.tree.Item.TheVariants as top
use Rattle.cap_grammar.specs.declared.tree.Over.TheVariants.{Vec}
use Rattle.cap_checked.specs.declared.tree.CheckedObj.{CheckedObj}
use Rattle.cap_ops.specs.declared.arrows.Arrow.{Arrow}
use Rattle.cap_ops.specs.declared.keys.Arg.TheVariants.{Mor, Num}
use Rattle.cap_ops.specs.declared.keys.Key.{Key}
use Rattle.cap_ops.specs.declared.keys.Out.TheVariants as out
use Rattle.cap_ops.specs.declared.keys.PrimOut.{PrimOut}
use Rattle.cap_ops.specs.declared.keys.Value.{Value as Answer}
use Rattle.cap_ops.specs.declared.keys.Value.TheVariants.{One, Many, Nothing}
use Rattle.cap_ops.specs.declared.plans.Choice.TheVariants.{Rule}
use Rattle.cap_data.specs.declared.data.ObjData.{ObjData}
use Rattle.cap_data.specs.declared.data.ObjData.TheVariants.{Dim}
use Rattle.cap_data.specs.declared.data.MorData.{MorData}
use Rattle.cap_data.specs.declared.data.MorData.TheVariants.{Mat}
use Rattle.cap_history.specs.declared.entries.Event.{Event}
use Rattle.cap_history.specs.declared.entries.Event.TheVariants.{Register, Finalise, Declare, Ask, Put}
use Rattle.cap_history.specs.declared.entries.Reply.{Reply}
use Rattle.cap_history.specs.declared.entries.Reply.TheVariants.{Done, Object, Hit, Miss, Kept, Found, AlreadyFinal, NotFinal, NotOffered, Twice}
use Rattle.cap_history.specs.declared.entries.Entry.{Entry}
use Rattle.cap_history.specs.declared.entries.Told.{Told}
use Rattle.cap_report.specs.declared.lines.LineRefusal.TheVariants as refusal
use Rattle.cap_report.specs.declared.report.History.{History}
use Rattle.cap_top_text.specs.declared.home.Home.{Home}
use Rattle.cap_top_text.specs.Numbers.{Seen}
use Rattle.cap_top_text.specs.Text.{Part}
use Rattle.cap_top_text.specs.Values.{operation_text, refusal_text}
use Rattle.cap_top_log.specs.Log.{entry_line, reply_text, log_text}

abbrev at : ℕ → Handle
at n = record { 0 = n }

abbrev op : ℕ → OpId
op n = record { 0 = n }

-- f is a morphism from an object of dimension 2 to itself, and k one into it from an object of dimension 1
abbrev f : Arrow MorData
f = record { src = at 0; tgt = at 1; value = Mat (record { prime = 5; row_count = 2; column_count = 2; entries = (1 ∷ 2 ∷ []) ∷ (2 ∷ 4 ∷ []) ∷ [] }) }

abbrev k : Arrow MorData
k = record { src = at 2; tgt = at 0; value = Mat (record { prime = 5; row_count = 1; column_count = 2; entries = (3 ∷ 1 ∷ []) ∷ [] }) }

abbrev kernel : Key MorData
kernel = record { op = op 16; args = Mor f ∷ [] }

abbrev told : Answer MorData → Told ObjData MorData
told value = record { value = value; objects = [] }

abbrev nothing_new : PrimOut ObjData MorData
nothing_new = record { fresh = []; out = out.Nothing }

abbrev entry : ℕ → Event ObjData MorData → Reply ObjData MorData → Entry ObjData MorData
entry s event reply = record { session = record { 0 = s }; event = event; reply = reply }

-- the lines of single entries
registers : entry_line 0 (entry 0 (Register (op 16) 20) Done) ≡ codes "0 s0 register Kernel 20 -> done\n"
unfolding digits operation_text
registers = refl

misses : entry_line 12 (entry 1 (Ask kernel) (Miss (Rule (record { 0 = 7 })))) ≡ codes "12 s1 ask Kernel (#0 -> #1 [1 2; 2 4]) -> miss rule 7\n"
unfolding digits operation_text
misses = refl

keeps : entry_line 13 (entry 1 (Put kernel nothing_new) (Kept (told (One k)))) ≡ codes "13 s1 put Kernel (#0 -> #1 [1 2; 2 4]) -> kept #2 -> #0 [3 1]\n"
unfolding digits operation_text
keeps = refl

finds : entry_line 14 (entry 2 (Put kernel nothing_new) (Found (told (Many (k ∷ k ∷ []))))) ≡ codes "14 s2 put Kernel (#0 -> #1 [1 2; 2 4]) -> found #2 -> #0 [3 1] | #2 -> #0 [3 1]\n"
unfolding digits operation_text
finds = refl

hits : entry_line 15 (entry 2 (Ask kernel) (Hit (told (One k)))) ≡ codes "15 s2 ask Kernel (#0 -> #1 [1 2; 2 4]) -> hit #2 -> #0 [3 1]\n"
unfolding digits operation_text
hits = refl

-- an operation without arguments, and one of a residue and a morphism
no_arguments : entry_line 3 (entry 0 (Ask (record { op = op 10; args = [] })) (Hit (told Nothing))) ≡ codes "3 s0 ask ZeroObject -> hit none\n"
unfolding digits operation_text
no_arguments = refl

two_arguments : entry_line 4 (entry 1 (Ask (record { op = op 7; args = Num 3 ∷ Mor f ∷ [] })) NotFinal) ≡ codes "4 s1 ask Scale 3 (#0 -> #1 [1 2; 2 4]) -> NotFinal\n"
unfolding digits operation_text
two_arguments = refl

-- a refusal that mentions no object has the words of the run's text
module _ (C : Home) (seen : Seen) (event : Event ObjData MorData) (n : ℕ) where
  same_words : (reply_text event NotFinal ≡ refusal_text C seen refusal.NotFinal)
      × (reply_text event (AlreadyFinal n) ≡ refusal_text C seen (refusal.AlreadyFinal n))
      × (reply_text event (Twice n) ≡ refusal_text C seen (refusal.Twice n))
      × (reply_text (Register (op n) 1) NotOffered ≡ refusal_text C seen (refusal.NotOffered (op n)))
  same_words = (refl, refl, refl, refl)

-- two categories, with a command between them: the second history is that of the second category
abbrev part : Item CheckedObj MorLit → Part
part item = record { node = item; places = [] }

abbrev history : ℕ → List (Entry ObjData MorData) → History ObjData MorData
history n entries = record { cat = record { 0 = n }; entries = entries }

histories_in_order : log_text
    (part (top.Category (codes "V") (Vec 5)) ∷ part (top.Command (command.Finalise (codes "V"))) ∷ part (top.Category (codes "W") (Vec 7)) ∷ [])
    (record { histories = history 0 (entry 0 Finalise NotFinal ∷ entry 1 (Declare (codes "a") (Dim 2)) (Object (at 0)) ∷ []) ∷ history 1 [] ∷ []; traces = []; plans = [] })
    ≡ codes "log V\n0 s0 finalise -> NotFinal\n1 s1 declare a -> #0\nlog W\n"
unfolding digits
histories_in_order = refl
