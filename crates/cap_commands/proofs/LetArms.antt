-- A morphism literal between two told objects, at its seat, does what the accounts say.
use Rattle.std.proofs.Common.{◌≡◌, ℕ, List, [], ◌++◌, Option, Some, Result, Ok, Err, sym, subst, refl, inl, inr}
use Rattle.std.specs.Prelude.{IfOk}
use Rattle.cap_names.specs.declared.identifiers.Handle.{Handle}
use Rattle.cap_names.specs.declared.literals.MorLit.{MorLit}
use Rattle.cap_grammar.specs.declared.tree.RefTok.{RefTok}
use Rattle.cap_grammar.specs.declared.tree.Command.TheVariants as command
use Rattle.cap_ops.specs.declared.sorts.Sort.TheVariants.{Mor}
use Rattle.cap_ops.specs.Told.{told_in, IsArrow}
use Rattle.cap_primitives.specs.Given.{from_to}
use Rattle.cap_rules.specs.Table.{rule_table}
use Rattle.cap_data.specs.declared.data.ObjData.{ObjData}
use Rattle.cap_data.specs.declared.data.MorData.{MorData}
use Rattle.cap_data.specs.Counts.{cells_in_object, cells_in_morphism}
use Rattle.cap_offer.specs.Labels.{Label, any_offer}
use Rattle.cap_history.specs.Reading.{objects}
use Rattle.cap_legal.proofs.Longer.{told-longer}
use Rattle.cap_report.specs.declared.lines.LineAnswer.{LineAnswer}
use Rattle.cap_report.specs.declared.lines.LineAnswer.TheVariants as line
use Rattle.cap_report.specs.declared.lines.LineRefusal.{LineRefusal}
use Rattle.cap_report.specs.declared.lines.LineRefusal.TheVariants as refusal
use Rattle.cap_report.specs.declared.situation.Made.{Made}
use Rattle.cap_accounts.specs.Commands.{object_at, Reads, NoEvent}
use Rattle.cap_desk.specs.Woven.{AreOthers}
use Rattle.cap_seat.specs.Seats.{told_at, Holds}
use Rattle.cap_commands.specs.Kinds.{kinds, MorphismIs}
use Rattle.cap_commands.specs.Agreement.{Standing, HasSort, IsToldAnswer}
use Rattle.cap_commands.specs.Seats.{AtSeat, OfData}
use Rattle.cap_commands.specs.Doing.{IsFullSeen, DoesAt, MorphismDoes, literal_line, in_category}
use Rattle.cap_commands.proofs.EventArms.{nothing-at}

module _ (others : List OfData → Type 0) (are : AreOthers others) (S : Standing) (made : Made Label) (s : AtSeat) (a b : Handle) (from to : ObjData) (lit : MorLit) where
  -- a morphism literal is not refused since a history is full
  morphism-not-full : (why : LineRefusal) (seen : List OfData) → MorphismIs made.category from to lit (Err why) → IsFullSeen seen (line.Refused why)
  morphism-not-full (refusal.Full n k) seen e = absurd e
  morphism-not-full _ seen e = tt

  read-not-full : (read : Result MorData LineRefusal) (seen : List OfData) → MorphismIs made.category from to lit read → IsFullSeen seen (literal_line a b read)
  read-not-full (Ok f) seen e = tt
  read-not-full (Err why) seen e = morphism-not-full why seen e

  abbrev IsRead : List OfData → LineAnswer MorData → Type 0
  IsRead entries answer = Reads kinds rule_table s.session (MorphismIs made.category from to lit) (λ f es l. NoEvent kinds rule_table s.session es l (line.Morphism (record { src = a; tgt = b; value = f }))) entries answer

  read-reads : (read : Result MorData LineRefusal) → MorphismIs made.category from to lit read → IsRead [] (literal_line a b read)
  read-reads (Ok f) e = inr (f, e, (refl, refl))
  read-reads (Err why) e = inl (why, e, (refl, refl))

  -- the line has the sort of a morphism, which is the category's between told objects, or no name stands for it
  read-sort : (read : Result MorData LineRefusal) → HasSort Mor (literal_line a b read)
  read-sort (Ok f) = tt
  read-sort (Err why) = refl

  read-told : (read : Result MorData LineRefusal) → made.category ≡ s.offer → told_at s a ≡ Some from → told_at s b ≡ Some to → IfOk read (λ f. IsArrow (any_offer made.category).category (from_to from to f)) → IsToldAnswer (any_offer s.offer) (told_at s) (literal_line a b read)
  read-told (Ok f) is source target arrow = record { from = from; to = to; src = source; tgt = target; is = subst (λ x. IsArrow (any_offer x).category (from_to from to f)) is arrow }
  read-told (Err why) is source target arrow = tt

  read-at : (cat name : List ℕ) (src tgt : RefTok) → object_at S src ≡ Some a → object_at S tgt ≡ Some b → Holds (any_offer s.offer) cells_in_object cells_in_morphism s → told_at s a ≡ Some from → told_at s b ≡ Some to
      → made.category ≡ s.offer → (read : Result MorData LineRefusal) → MorphismIs made.category from to lit read → IfOk read (λ f. IsArrow (any_offer made.category).category (from_to from to f)) → DoesAt others (in_category s.session S made (command.Let name cat src tgt lit)) s (literal_line a b read) s
  read-at cat name src tgt is-source is-target holds source target is read e arrow =
      nothing-at others are (in_category s.session S made (command.Let name cat src tgt lit)) s (literal_line a b read) (read-not-full read s.seen e)
      (λ later. (a, b, from, to, is-source, is-target, told-longer s.seen later a from (holds.told a from source), told-longer s.seen later b to (holds.told b to target), read-reads read e))
      (read-sort read) (read-told read is source target arrow)

pub let-at : (others : List OfData → Type 0) → AreOthers others → (S : Standing) (made : Made Label) (s : AtSeat) (cat name : List ℕ) (src tgt : RefTok) (lit : MorLit) (a b : Handle) → object_at S src ≡ Some a → object_at S tgt ≡ Some b
    → Holds (any_offer s.offer) cells_in_object cells_in_morphism s → made.category ≡ s.offer → (answer : LineAnswer MorData) → MorphismDoes made.category (told_at s) a b lit answer → DoesAt others (in_category s.session S made (command.Let name cat src tgt lit)) s answer s
let-at others are S made s cat name src tgt lit a b is-source is-target holds is answer m =
    subst (λ l. DoesAt others (in_category s.session S made (command.Let name cat src tgt lit)) s l s) (sym m.answered)
    (read-at others are S made s a b m.from m.to lit cat name src tgt is-source is-target holds m.source m.target is m.read m.is m.arrow)
