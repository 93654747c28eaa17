-- What a command does: its events, given their replies, and what it answers.
use Rattle.std.specs.Prelude.{◌≡◌, ◌⊎◌, ℕ, ◌-◌, not, Bool, true, false, List, [], ◌∷◌, find, slice_get, Option, Some, None, unwrap_or, option_map, option_and_then, Result, Ok, Err}
use Rattle.cap_names.specs.declared.identifiers.Handle.{Handle}
use Rattle.cap_names.specs.declared.identifiers.OpId.{OpId}
use Rattle.cap_names.specs.declared.identifiers.SessionNo.{SessionNo}
use Rattle.cap_names.specs.declared.literals.MorLit.{MorLit}
use Rattle.cap_grammar.specs.declared.tree.ArgTok.{ArgTok}
use Rattle.cap_grammar.specs.declared.tree.ArgTok.TheVariants as argument
use Rattle.cap_grammar.specs.declared.tree.Command.{Command}
use Rattle.cap_grammar.specs.declared.tree.Command.TheVariants.{Register, Finalise, Plan, Object, Src, Tgt, Let, Call}
use Rattle.cap_grammar.specs.declared.tree.RefTok.{RefTok}
use Rattle.cap_block_faults.specs.Names.{same}
use Rattle.cap_checked.specs.Checked.{integer}
use Rattle.cap_checked.specs.declared.tree.CheckedObj.{CheckedObj}
use Rattle.cap_field.specs.Residue.{IsResidueOf}
use Rattle.cap_ops.specs.declared.arrows.Arrow.{Arrow}
use Rattle.cap_ops.specs.declared.keys.Arg.{Arg}
use Rattle.cap_ops.specs.declared.keys.Arg.TheVariants.{Obj, Mor, Num}
use Rattle.cap_ops.specs.declared.keys.Value.{Value as Answer}
use Rattle.cap_ops.specs.declared.keys.Value.TheVariants.{One, Many, Truth, Nothing}
use Rattle.cap_ops.specs.Primitives.{prime_of}
use Rattle.cap_terms.specs.declared.body.Rule.{Rule}
use Rattle.cap_board.specs.declared.answers.Asked.TheVariants as asks
use Rattle.cap_board.specs.declared.answers.PutAnswer.TheVariants as puts
use Rattle.cap_board.specs.declared.refusals.CallRefusal.{CallRefusal}
use Rattle.cap_board.specs.declared.refusals.CallRefusal.TheVariants as refused
use Rattle.cap_board.specs.Board.{asked, kept}
use Rattle.cap_board.specs.Board.{Event as BoardEvent}
use Rattle.cap_board.specs.Trace.{CallEnd, TraceWithin}
use Rattle.cap_history.specs.declared.entries.Event.{Event}
use Rattle.cap_history.specs.declared.entries.Event.TheVariants as event
use Rattle.cap_history.specs.declared.entries.Reply.{Reply}
use Rattle.cap_history.specs.declared.entries.Reply.TheVariants as reply
use Rattle.cap_history.specs.declared.entries.Entry.{Entry}
use Rattle.cap_history.specs.Replies.{entry}
use Rattle.cap_report.specs.declared.lines.LineAnswer.{LineAnswer}
use Rattle.cap_report.specs.declared.lines.LineAnswer.TheVariants as line
use Rattle.cap_report.specs.declared.lines.LineRefusal.{LineRefusal}
use Rattle.cap_report.specs.declared.lines.LineRefusal.TheVariants as refusal
use Rattle.cap_report.specs.declared.situation.Made.{Made}
use Rattle.cap_report.specs.declared.situation.Situation.{Situation}
use Rattle.cap_accounts.specs.Worlds.{World}

-- an answer that a name can stand for; `none` and refusals bind nothing
abbrev pub binds : {M : Type 0} → LineAnswer M → Bool
binds (line.Object h) = true
binds (line.Morphism f) = true
binds (line.Tuple fs) = true
binds (line.Truth b) = true
binds _ = false

module _ {X T M : Type 0} (S : Situation X T M) where
  abbrev pub category_of : List ℕ → Option (Made X)
  category_of name = find (λ m. same m.name name) S.categories

  abbrev pub answer_of : List ℕ → Option (LineAnswer M)
  answer_of name = option_map (λ b. b.answer) (find (λ b. same b.name name) S.bound)

  -- what a command needs to be there, in the order of its text
  abbrev pub is_there : Option (LineAnswer M) → Bool
  is_there None = false
  is_there (Some answer) = binds answer

  abbrev pub is_made : Option (Made X) → Bool
  is_made None = false
  is_made (Some m) = true

  abbrev pub ref_need : RefTok → List ℕ × Bool
  ref_need r = (r.name, is_there (answer_of r.name))

  abbrev pub category_need : List ℕ → List ℕ × Bool
  category_need name = (name, is_made (category_of name))

  abbrev pub argument_needs : List ArgTok → List (List ℕ × Bool)
  argument_needs [] = []
  argument_needs (argument.Ref r ∷ args) = ref_need r ∷ argument_needs args
  argument_needs (argument.Int n ∷ args) = argument_needs args

  abbrev pub needs : Command CheckedObj MorLit → List (List ℕ × Bool)
  needs (Register cat op weight) = category_need cat ∷ []
  needs (Finalise cat) = category_need cat ∷ []
  needs (Plan cat) = category_need cat ∷ []
  needs (Object cat x lit) = category_need cat ∷ []
  needs (Src x r) = ref_need r ∷ []
  needs (Tgt x r) = ref_need r ∷ []
  needs (Let x cat src tgt lit) = category_need cat ∷ ref_need src ∷ ref_need tgt ∷ []
  needs (Call x cat op args) = category_need cat ∷ argument_needs args

  -- the first name that a command needs and that isn't there
  abbrev pub lacking : Command CheckedObj MorLit → Option (List ℕ)
  lacking c = option_map (λ need. need.0) (find (λ need. not need.1) (needs c))

  -- a reference to an object, or to a morphism or to a part of a tuple
  abbrev pub object_in : LineAnswer M → Option Handle
  object_in (line.Object h) = Some h
  object_in _ = None

  abbrev pub arrow_in : Option ℕ → LineAnswer M → Option (Arrow M)
  arrow_in None (line.Morphism f) = Some f
  arrow_in (Some part) (line.Tuple fs) = slice_get fs (part - 1)
  arrow_in _ _ = None

  abbrev pub object_at : RefTok → Option Handle
  object_at r = option_and_then object_in (answer_of r.name)

  abbrev pub arrow_at : RefTok → Option (Arrow M)
  arrow_at r = option_and_then (arrow_in r.part) (answer_of r.name)

  -- the arguments of a call over residues below p
  abbrev pub argument_or : Option Handle → Option (Arrow M) → Option (Arg M)
  argument_or (Some h) f = Some (Obj h)
  argument_or None (Some f) = Some (Mor f)
  argument_or None None = None

  abbrev pub IsArgument : ℕ → ArgTok → Arg M → Type 0
  IsArgument p (argument.Ref r) a = argument_or (object_at r) (arrow_at r) ≡ Some a
  IsArgument p (argument.Int n) (Num k) = IsResidueOf p (integer n) k
  IsArgument p (argument.Int n) _ = ⊥

  abbrev pub AreArguments : ℕ → List ArgTok → List (Arg M) → Type 0
  AreArguments p [] [] = Unit {0}
  AreArguments p (t ∷ ts) (a ∷ args) = IsArgument p t a × AreArguments p ts args
  AreArguments p _ _ = ⊥

-- the ask or put that an entry is, with its answer
abbrev pub board_event : {O M : Type 0} → Event O M → Reply O M → Option (BoardEvent O M)
board_event (event.Ask key) (reply.Hit t) = Some (asked key.op.0 key.args (asks.Hit t.value))
board_event (event.Ask key) (reply.Miss c) = Some (asked key.op.0 key.args (asks.Miss c))
board_event (event.Ask key) reply.NotFinal = Some (asked key.op.0 key.args asks.NotFinal)
board_event (event.Put key out) (reply.Kept t) = Some (kept key.op.0 key.args out (puts.Entry t.value))
board_event (event.Put key out) (reply.Found t) = Some (kept key.op.0 key.args out (puts.Entry t.value))
board_event _ _ = None

-- an ask or put that a full history refused: it has no entry
abbrev pub IsRefusedEvent : {O M : Type 0} → BoardEvent O M → Type 0
IsRefusedEvent (asked op args (asks.Full entries cells)) = Unit {0}
IsRefusedEvent (kept op args out (puts.Full entries cells)) = Unit {0}
IsRefusedEvent _ = ⊥

-- the entries of a session that these asks and puts made: each its own, but for a last one that was refused
abbrev pub Recorded : {O M : Type 0} → SessionNo → List (BoardEvent O M) → List (Entry O M) → Type 0
Recorded s [] [] = Unit {0}
Recorded s (b ∷ bs) (e ∷ es) = (e.session ≡ s) × (board_event e.event e.reply ≡ Some b) × Recorded s bs es
Recorded s (b ∷ []) [] = IsRefusedEvent b
Recorded s _ _ = ⊥

-- the line of a value and of a refusal
abbrev pub value_line : {M : Type 0} → Answer M → LineAnswer M
value_line (One f) = line.Morphism f
value_line (Many fs) = line.Tuple fs
value_line (Truth b) = line.Truth b
value_line Nothing = line.Nothing

abbrev pub refusal_line : {M : Type 0} → CallRefusal → Option (LineAnswer M)
refusal_line (refused.Mismatch m) = Some (line.Refused (refusal.Mismatch m))
refusal_line refused.NotFinal = Some (line.Refused refusal.NotFinal)
refusal_line (refused.Missing op) = Some (line.Refused (refusal.Missing op))
refusal_line (refused.TooLarge t) = Some (line.Refused (refusal.TooLarge t))
refusal_line (refused.Full entries cells) = Some (line.Refused (refusal.Full entries cells))
refusal_line refused.NoMemory = None

abbrev pub end_line : {M : Type 0} → CallEnd M → Option (LineAnswer M)
end_line (Ok v) = Some (value_line v)
end_line (Err e) = refusal_line e

-- the line of the reply to an event that isn't an ask or a put
abbrev pub reply_line : {O M : Type 0} → Event O M → Reply O M → Option (LineAnswer M)
reply_line (event.Register op weight) reply.Done = Some (line.Registered op weight)
reply_line (event.Register op weight) (reply.AlreadyFinal at) = Some (line.Refused (refusal.AlreadyFinal at))
reply_line (event.Register op weight) reply.NotOffered = Some (line.Refused (refusal.NotOffered op))
reply_line (event.Register op weight) (reply.Twice w) = Some (line.Refused (refusal.Twice w))
reply_line event.Finalise (reply.Final p) = Some line.Final
reply_line event.Finalise (reply.AlreadyFinal at) = Some (line.Refused (refusal.AlreadyFinal at))
reply_line (event.Declare name object) (reply.Object h) = Some (line.Object h)
reply_line (event.Declare name object) (reply.NameTaken h other) = Some (line.Refused (refusal.NameTaken h))
reply_line event.PlanOf (reply.PlanIs p) = Some (line.Plan p)
reply_line event.PlanOf reply.NotFinal = Some (line.Refused refusal.NotFinal)
reply_line _ _ = None

module _ {X T O M : Type 0} (W : World X T O M) (rules : List Rule) (session : SessionNo) where
  -- one event: its entry and the line of its reply, or no entry where the history is full
  abbrev pub OneEvent : Event O M → List (Entry O M) → LineAnswer M → Type 0
  OneEvent ev entries answer = ((r : Reply O M) × (entries ≡ entry session ev r ∷ []) × (reply_line ev r ≡ Some answer)) ⊎ ((n k : ℕ) × (entries ≡ []) × (answer ≡ line.Refused (refusal.Full n k)))

  -- a call: its key's events, and what it then answers
  pub record OneCall (x : X) (told : Handle → Option O) (op : OpId) (args : List (Arg M)) (entries : List (Entry O M)) (answer : LineAnswer M) : Type 0 where
    pub depth : ℕ
    pub events : List (BoardEvent O M)
    pub end : CallEnd M
    pub trace : TraceWithin (W.offered x) rules told depth op.0 args events end
    pub recorded : Recorded session events entries
    pub answered : end_line end ≡ Some answer

  -- no event, and this answer
  abbrev pub NoEvent : List (Entry O M) → LineAnswer M → LineAnswer M → Type 0
  NoEvent entries answer is = (entries ≡ []) × (answer ≡ is)

  -- a literal that was read, or its refusal
  abbrev pub Reads : {A : Type 0} → (Result A LineRefusal → Type 0) → (A → List (Entry O M) → LineAnswer M → Type 0) → List (Entry O M) → LineAnswer M → Type 0
  Reads {A} is K entries answer = ((why : LineRefusal) × is (Err why) × NoEvent entries answer (line.Refused why)) ⊎ ((a : A) × is (Ok a) × K a entries answer)

  -- what a command does in its category, all names that it needs being there; the objects told are those of the category's history
  abbrev pub DoesIn : Situation X T M → Made X → (Handle → Option O) → Command CheckedObj MorLit → List (Entry O M) → LineAnswer M → Type 0
  DoesIn S m told (Register cat op weight) entries answer = OneEvent (event.Register op (unwrap_or weight (unwrap_or ((W.offered m.category).weight op.0) 1))) entries answer
  DoesIn S m told (Finalise cat) entries answer = OneEvent event.Finalise entries answer
  DoesIn S m told (Plan cat) entries answer = OneEvent event.PlanOf entries answer
  DoesIn S m told (Object cat x lit) entries answer = Reads (W.object_is m.category lit) (λ object. OneEvent (event.Declare x object)) entries answer
  DoesIn S m told (Let x cat src tgt lit) entries answer =
      (a : Handle) × (b : Handle) × (from : O) × (to : O) × (object_at S src ≡ Some a) × (object_at S tgt ≡ Some b) × (told a ≡ Some from) × (told b ≡ Some to)
      × Reads (W.morphism_is m.category from to lit) (λ f es l. NoEvent es l (line.Morphism (record { src = a; tgt = b; value = f }))) entries answer
  DoesIn S m told (Call x cat op args) entries answer = (given : List (Arg M)) × AreArguments S (prime_of (W.offered m.category)) args given × OneCall m.category told op given entries answer
  DoesIn S m told (Src x r) entries answer = ⊥
  DoesIn S m told (Tgt x r) entries answer = ⊥
