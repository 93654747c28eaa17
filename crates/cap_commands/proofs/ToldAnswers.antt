-- The answers of commands: their objects were told, and their morphisms are the category's.
use Rattle.std.proofs.Common.{◌≡◌, ◌⊎◌, ℕ, Bool, List, [], ◌∷◌, ◌++◌, length, map, Option, Some, None, Ok, Err, refl, sym, ap, ◌∙◌, subst, inl, inr}
use Rattle.std.specs.Prelude.{if◌then◌else◌}
use Rattle.std.specs.Option.{IfSome}
use Rattle.std.proofs.lemmas.Bool.{eq-eqb}
use Rattle.std.proofs.lemmas.List.Elements.{All-from_recursion, All-weaker}
use Rattle.cap_names.specs.declared.identifiers.Handle.{Handle}
use Rattle.cap_ops.specs.declared.arrows.Arrow.{Arrow}
use Rattle.cap_ops.specs.declared.ends.Shape.{Shape}
use Rattle.cap_ops.specs.declared.ends.Shape.TheVariants as shapes
use Rattle.cap_ops.specs.declared.keys.Arg.{Arg}
use Rattle.cap_ops.specs.declared.keys.Value.{Value as Answer}
use Rattle.cap_ops.specs.declared.keys.Value.TheVariants.{One, Many, Truth, Nothing}
use Rattle.cap_ops.specs.declared.sorts.Sort.{Sort}
use Rattle.cap_ops.specs.declared.sorts.Sort.TheVariants as sorts
use Rattle.cap_ops.specs.Arrows.{Between, ValueOver, between, value_of, over}
use Rattle.cap_ops.specs.Ends.{sort_of, profile_of, operation_answer}
use Rattle.cap_ops.specs.Values.{object, morphism, two, four, truth, scalar, none, HasShape}
use Rattle.cap_ops.specs.Primitives.{OfferData, prime_of}
use Rattle.cap_ops.specs.Told.{TellsArrow, Tells, IsArrow, IsDatum, StaysTold}
use Rattle.cap_ops.proofs.Places.{none≢some, some_inner}
use Rattle.cap_primitives.specs.Given.{from_to}
use Rattle.cap_data.specs.declared.data.ObjData.{ObjData}
use Rattle.cap_data.specs.declared.data.MorData.{MorData}
use Rattle.cap_board.specs.declared.refusals.CallRefusal.{CallRefusal}
use Rattle.cap_board.specs.declared.refusals.CallRefusal.TheVariants.{NoMemory, Missing, Mismatch, NotFinal, TooLarge, Full as CallFull}
use Rattle.cap_board.specs.Board.{BoardState, ToldObjects}
use Rattle.cap_board.specs.Call.{CallSays}
use Rattle.cap_board.specs.Trace.{CallEnd}
use Rattle.cap_history.specs.declared.entries.Event.{Event}
use Rattle.cap_history.specs.declared.entries.Event.TheVariants.{Register, Finalise, Declare, Ask, Put, PlanOf}
use Rattle.cap_history.specs.declared.entries.Reply.{Reply}
use Rattle.cap_history.specs.declared.entries.Reply.TheVariants as reply
use Rattle.cap_offer.specs.Labels.{Label}
use Rattle.cap_report.specs.declared.lines.LineAnswer.{LineAnswer}
use Rattle.cap_report.specs.declared.lines.LineAnswer.TheVariants as line
use Rattle.cap_report.specs.declared.lines.LineRefusal.{LineRefusal}
use Rattle.cap_report.specs.declared.lines.LineRefusal.TheVariants as refusal
use Rattle.cap_accounts.specs.Commands.{reply_line, value_line, refusal_line, end_line}
use Rattle.cap_seat.specs.declared.tries.Tried.{Tried}
use Rattle.cap_seat.specs.declared.tries.Tried.TheVariants.{Replied, Full}
use Rattle.cap_seat.specs.Seats.{told_among, told_by, known_by}
use Rattle.cap_seat.proofs.Among.{among-more, among-none}
use Rattle.cap_session_lines.specs.Doing.{tried_line}
use Rattle.cap_commands.specs.Agreement.{HasSort, IsToldArrow, IsToldObject, IsToldAnswer}

-- what is said of a line is said of the answer that it has
line-answers : (P : LineAnswer MorData → Type 0) (o : Option (LineAnswer MorData)) (answer : LineAnswer MorData) → o ≡ Some answer → IfSome o P → P answer
line-answers P o answer e p = subst (λ o. IfSome o P) e p

-- no name stands for a refusal
pub refused-sort : (s : Sort) (why : LineRefusal) → HasSort s (line.Refused why)
refused-sort sorts.Obj why = refl
refused-sort sorts.Mor why = refl
refused-sort sorts.Num why = refl
refused-sort sorts.Truth why = refl
refused-sort (sorts.Tuple n) why = refl

-- an object told alone is told
itself : (x : ObjData) (h : Handle) → told_among ((h, x) ∷ []) h ≡ Some x
itself x h = ap (λ b. if b then Some x else None) (eq-eqb h.0 h.0 refl)

module _ (D : OfferData ObjData MorData) where
  -- an answer stays told
  module _ (told told' : Handle → Option ObjData) (stays : StaysTold told told') where
    arrow-stays : (f : Arrow MorData) → IsToldArrow D told f → IsToldArrow D told' f
    arrow-stays f t = record { from = t.from; to = t.to; src = stays f.src t.from t.src; tgt = stays f.tgt t.to t.tgt; is = t.is }

    pub answer-stays : (answer : LineAnswer MorData) → IsToldAnswer D told answer → IsToldAnswer D told' answer
    answer-stays (line.Object h) t = record { object = t.object; stands = stays h t.object t.stands; is = t.is }
    answer-stays (line.Morphism f) t = arrow-stays f t
    answer-stays (line.Tuple fs) t = All-weaker (IsToldArrow D told) (IsToldArrow D told') arrow-stays fs t
    answer-stays _ t = tt

  -- the line of an event: a declaration's object is told
  declared-by : (known : List (Handle × ObjData)) (x : ObjData) (h : Handle) (o : Option ObjData) → told_among known h ≡ o → (y : ObjData) × (told_among (known ++ (h, x) ∷ []) h ≡ Some y)
  declared-by known x h (Some y) e = (y, among-more known ((h, x) ∷ []) h y e)
  declared-by known x h None e = (x, among-none known ((h, x) ∷ []) h e ∙ itself x h)

  reply-told : (known : List (Handle × ObjData)) (ev : Event ObjData MorData) (r : Reply ObjData MorData) → ToldObjects D (told_among (known ++ told_by ev r)) → IfSome (reply_line ev r) (λ a. IsToldAnswer D (told_among (known ++ told_by ev r)) a)
  reply-told known (Declare name x) (reply.Object h) objects =
      let there = declared-by known x h (told_among known h) refl in
      record { object = there.0; stands = there.1; is = objects h there.0 there.1 }
  reply-told known (Declare name x) _ objects = tt
  reply-told known (Register op weight) reply.Done objects = tt
  reply-told known (Register op weight) _ objects = tt
  reply-told known Finalise reply.Done objects = tt
  reply-told known Finalise _ objects = tt
  reply-told known PlanOf reply.Done objects = tt
  reply-told known PlanOf _ objects = tt
  reply-told known (Ask key) _ objects = tt
  reply-told known (Put key out) _ objects = tt

  tried-told : (known : List (Handle × ObjData)) (ev : Event ObjData MorData) (a : Tried ObjData MorData) → ToldObjects D (told_among (known_by known ev a)) → IfSome (tried_line ev a) (λ l. IsToldAnswer D (told_among (known_by known ev a)) l)
  tried-told known ev (Replied r) objects = reply-told known ev r objects
  tried-told known ev (Full n k) objects = tt

  pub event-told : (known : List (Handle × ObjData)) (ev : Event ObjData MorData) (a : Tried ObjData MorData) (answer : LineAnswer MorData) → tried_line ev a ≡ Some answer → ToldObjects D (told_among (known_by known ev a)) → IsToldAnswer D (told_among (known_by known ev a)) answer
  event-told known ev a answer e objects = line-answers (IsToldAnswer D (told_among (known_by known ev a))) (tried_line ev a) answer e (tried-told known ev a objects)

-- the line of a declaration has the sort of an object, or no name stands for it
declared-sort : (name : List ℕ) (x : ObjData) (r : Reply ObjData MorData) → IfSome (reply_line (Declare name x) r) (λ a. HasSort sorts.Obj a)
declared-sort name x (reply.Object h) = tt
declared-sort name x (reply.NameTaken h other) = refl
declared-sort name x _ = tt

tried-sort : (name : List ℕ) (x : ObjData) (a : Tried ObjData MorData) → IfSome (tried_line (Declare name x) a) (λ l. HasSort sorts.Obj l)
tried-sort name x (Replied r) = declared-sort name x r
tried-sort name x (Full n k) = refl

pub event-sort : (name : List ℕ) (x : ObjData) (a : Tried ObjData MorData) (answer : LineAnswer MorData) → tried_line (Declare name x) a ≡ Some answer → HasSort sorts.Obj answer
event-sort name x a answer e = line-answers (λ l. HasSort sorts.Obj l) (tried_line (Declare name x) a) answer e (tried-sort name x a)

-- the line of a value whose handles tell data of the category
module _ (D : OfferData ObjData MorData) (told : Handle → Option ObjData) where
  arrow-told : (f : Arrow MorData) (g : Between ObjData MorData) → TellsArrow told (between f) g → IsArrow D.category g → IsToldArrow D told f
  arrow-told f g t a = record { from = g.src; to = g.tgt; src = t.src; tgt = t.tgt; is = subst (λ (m : MorData). IsArrow D.category (from_to g.src g.tgt m)) (sym t.value) a }

  one-told : (f : Arrow MorData) (out : ValueOver ObjData MorData) → Tells told (morphism (between f)) out → IsDatum D.category out → IsToldArrow D told f
  one-told f (morphism g) t d = arrow-told f g t d
  one-told f (object a) t d = absurd t
  one-told f (two g h) t d = absurd t
  one-told f (four g h i j) t d = absurd t
  one-told f (truth b) t d = absurd t
  one-told f (scalar n) t d = absurd t
  one-told f none t d = absurd t

  two-told : (p q : Arrow MorData) (out : ValueOver ObjData MorData) → Tells told (two (between p) (between q)) out → IsDatum D.category out → IsToldAnswer D told (line.Tuple (p ∷ q ∷ []))
  two-told p q (two g h) t d = All-from_recursion (IsToldArrow D told) (p ∷ q ∷ []) (arrow-told p g t.0 d.0, (arrow-told q h t.1 d.1, tt))
  two-told p q (object a) t d = absurd t
  two-told p q (morphism g) t d = absurd t
  two-told p q (four g h i j) t d = absurd t
  two-told p q (truth b) t d = absurd t
  two-told p q (scalar n) t d = absurd t
  two-told p q none t d = absurd t

  four-told : (p q r s : Arrow MorData) (out : ValueOver ObjData MorData) → Tells told (four (between p) (between q) (between r) (between s)) out → IsDatum D.category out → IsToldAnswer D told (line.Tuple (p ∷ q ∷ r ∷ s ∷ []))
  four-told p q r s (four g h i j) (t1, t2, t3, t4) (d1, d2, d3, d4) =
      All-from_recursion (IsToldArrow D told) (p ∷ q ∷ r ∷ s ∷ []) (arrow-told p g t1 d1, (arrow-told q h t2 d2, (arrow-told r i t3 d3, (arrow-told s j t4 d4, tt))))
  four-told p q r s (object a) t d = absurd t
  four-told p q r s (morphism g) t d = absurd t
  four-told p q r s (two g h) t d = absurd t
  four-told p q r s (truth b) t d = absurd t
  four-told p q r s (scalar n) t d = absurd t
  four-told p q r s none t d = absurd t

  value-told : (v : Answer MorData) (value : ValueOver Handle MorData) (out : ValueOver ObjData MorData) → value_of v ≡ Some value → Tells told value out → IsDatum D.category out → IsToldAnswer D told (value_line v)
  value-told (One f) value out e t d = one-told f out (subst (λ w. Tells told w out) (sym (some_inner e)) t) d
  value-told (Many []) value out e t d = absurd (none≢some e)
  value-told (Many (p ∷ [])) value out e t d = absurd (none≢some e)
  value-told (Many (p ∷ q ∷ [])) value out e t d = two-told p q out (subst (λ w. Tells told w out) (sym (some_inner e)) t) d
  value-told (Many (p ∷ q ∷ r ∷ [])) value out e t d = absurd (none≢some e)
  value-told (Many (p ∷ q ∷ r ∷ s ∷ [])) value out e t d = four-told p q r s out (subst (λ w. Tells told w out) (sym (some_inner e)) t) d
  value-told (Many (p ∷ q ∷ r ∷ s ∷ x ∷ xs)) value out e t d = absurd (none≢some e)
  value-told (Truth b) value out e t d = tt
  value-told Nothing value out e t d = tt

-- the line of a value of a shape has the shape's sort, and no name stands for that of none
module _ (p : ℕ) (objects : ℕ → Option Handle) where
  abbrev IsOfShape : Shape ℕ → ValueOver Handle MorData → Type 0
  IsOfShape shape value = (value ≡ none) ⊎ HasShape (over p) objects shape value

  one-sort : (shape : Shape ℕ) (f : Arrow MorData) → IsOfShape shape (morphism (between f)) → HasSort (sort_of shape) (line.Morphism f)
  one-sort shape f (inl e) = absurd (cc)
  one-sort (shapes.Morphism e) f (inr h) = tt
  one-sort (shapes.Object a) f (inr h) = absurd h
  one-sort (shapes.Two d e) f (inr h) = absurd h
  one-sort (shapes.Four a b d e) f (inr h) = absurd h
  one-sort shapes.Truth f (inr h) = absurd h
  one-sort shapes.Scalar f (inr h) = absurd h

  two-sort : (shape : Shape ℕ) (f g : Arrow MorData) → IsOfShape shape (two (between f) (between g)) → HasSort (sort_of shape) (line.Tuple (f ∷ g ∷ []))
  two-sort shape f g (inl e) = absurd (cc)
  two-sort (shapes.Two d e) f g (inr h) = refl
  two-sort (shapes.Object a) f g (inr h) = absurd h
  two-sort (shapes.Morphism e) f g (inr h) = absurd h
  two-sort (shapes.Four a b d e) f g (inr h) = absurd h
  two-sort shapes.Truth f g (inr h) = absurd h
  two-sort shapes.Scalar f g (inr h) = absurd h

  four-sort : (shape : Shape ℕ) (f g i j : Arrow MorData) → IsOfShape shape (four (between f) (between g) (between i) (between j)) → HasSort (sort_of shape) (line.Tuple (f ∷ g ∷ i ∷ j ∷ []))
  four-sort shape f g i j (inl e) = absurd (cc)
  four-sort (shapes.Four a b d e) f g i j (inr h) = refl
  four-sort (shapes.Object a) f g i j (inr h) = absurd h
  four-sort (shapes.Morphism e) f g i j (inr h) = absurd h
  four-sort (shapes.Two d e) f g i j (inr h) = absurd h
  four-sort shapes.Truth f g i j (inr h) = absurd h
  four-sort shapes.Scalar f g i j (inr h) = absurd h

  truth-sort : (shape : Shape ℕ) (b : Bool) → IsOfShape shape (truth b) → HasSort (sort_of shape) (line.Truth b)
  truth-sort shape b (inl e) = absurd (cc)
  truth-sort shapes.Truth b (inr h) = tt
  truth-sort (shapes.Object a) b (inr h) = absurd h
  truth-sort (shapes.Morphism e) b (inr h) = absurd h
  truth-sort (shapes.Two d e) b (inr h) = absurd h
  truth-sort (shapes.Four a c d e) b (inr h) = absurd h
  truth-sort shapes.Scalar b (inr h) = absurd h

  nothing-sort : (s : Sort) → HasSort s line.Nothing
  nothing-sort sorts.Obj = refl
  nothing-sort sorts.Mor = refl
  nothing-sort sorts.Num = refl
  nothing-sort sorts.Truth = refl
  nothing-sort (sorts.Tuple n) = refl

  value-sort : (shape : Shape ℕ) (v : Answer MorData) (value : ValueOver Handle MorData) → value_of v ≡ Some value → IsOfShape shape value → HasSort (sort_of shape) (value_line v)
  value-sort shape (One f) value e h = one-sort shape f (subst (λ w. IsOfShape shape w) (sym (some_inner e)) h)
  value-sort shape (Many []) value e h = absurd (none≢some e)
  value-sort shape (Many (f ∷ [])) value e h = absurd (none≢some e)
  value-sort shape (Many (f ∷ g ∷ [])) value e h = two-sort shape f g (subst (λ w. IsOfShape shape w) (sym (some_inner e)) h)
  value-sort shape (Many (f ∷ g ∷ i ∷ [])) value e h = absurd (none≢some e)
  value-sort shape (Many (f ∷ g ∷ i ∷ j ∷ [])) value e h = four-sort shape f g i j (subst (λ w. IsOfShape shape w) (sym (some_inner e)) h)
  value-sort shape (Many (f ∷ g ∷ i ∷ j ∷ x ∷ xs)) value e h = absurd (none≢some e)
  value-sort shape (Truth b) value e h = truth-sort shape b (subst (λ w. IsOfShape shape w) (sym (some_inner e)) h)
  value-sort shape Nothing value e h = nothing-sort (sort_of shape)

-- the line of a call
module _ (D : OfferData ObjData MorData) (told : Handle → Option ObjData) (s : Sort) where
  abbrev IsToldOf : LineAnswer MorData → Type 0
  IsToldOf answer = IsToldAnswer D told answer × HasSort s answer

  refusal-told : (e : CallRefusal) → IfSome (refusal_line e) (λ a. IsToldOf a)
  refusal-told (Mismatch m) = (tt, refused-sort s (refusal.Mismatch m))
  refusal-told NotFinal = (tt, refused-sort s refusal.NotFinal)
  refusal-told (Missing op) = (tt, refused-sort s (refusal.Missing op))
  refusal-told (TooLarge t) = (tt, refused-sort s (refusal.TooLarge t))
  refusal-told (CallFull n k) = (tt, refused-sort s (refusal.Full n k))
  refusal-told NoMemory = tt

module _ (D : OfferData ObjData MorData) (b b' : BoardState Label ObjData MorData) (told : Handle → Option ObjData) (op : ℕ) (args : List (Arg MorData)) where
  end-told : (end : CallEnd MorData) → CallSays D b b' told op args end → IfSome (end_line end) (λ a. IsToldOf D told (operation_answer op) a)
  end-told (Ok v) (traced, (p, planned, good)) = (value-told D told v good.value good.out good.is_value good.tells good.is_datum, value-sort (prime_of D) good.fits.objects (profile_of op).answer v good.value good.is_value good.fits.answer)
  end-told (Err e) says = refusal-told D told (operation_answer op) e

  pub call-told : (end : CallEnd MorData) (answer : LineAnswer MorData) → CallSays D b b' told op args end → end_line end ≡ Some answer → IsToldAnswer D told answer × HasSort (operation_answer op) answer
  call-told end answer says e = line-answers (λ a. IsToldOf D told (operation_answer op) a) (end_line end) answer e (end-told end says)
