-- What the list answers to an ask and to a put, and what it is afterwards.
use Rattle.std.specs.Prelude.{◌≡◌, ◌+◌, ◌^◌, ◌<◌, ◌≤◌, [], ◌∷◌, ◌++◌, length, Some, None, ◌⊎◌}
use Rattle.cap_ops.specs.declared.keys.Key.{Key}
use Rattle.cap_ops.specs.declared.keys.PrimOut.{PrimOut}
use Rattle.cap_ops.specs.declared.plans.Plan.{Plan}
use Rattle.cap_ops.specs.Derivations.{choice}
use Rattle.cap_board.specs.declared.answers.Asked.{Asked}
use Rattle.cap_board.specs.declared.answers.Asked.TheVariants.{Hit, Miss, NotFinal, Full}
use Rattle.cap_board.specs.declared.answers.PutAnswer.{PutAnswer}
use Rattle.cap_board.specs.declared.answers.PutAnswer.TheVariants.{Entry as Kept, Full as PutFull}
use Rattle.cap_settle.specs.Settled.{settled}
use Rattle.cap_list_board.specs.declared.entries.Seen.TheVariants.{Ask, Put}
use Rattle.cap_list_board.specs.Lists.{Lists, IsKept, IsNew}

-- a hit exactly where an equal key is kept; else not final without a plan, full where the limit is reached, and the plan's choice; cells aren't counted, and told as 0
abbrev pub AskAnswer : {X O M : Type 0} → Lists X O M → Key M → Asked M → Type 0
AskAnswer s key (Hit v) = IsKept s.entries key v
AskAnswer s key (Miss c) = IsNew s.entries key × (length s.entries < s.limit) × ((p : Plan) × (s.plan ≡ Some p) × (choice p key.op.0 ≡ c))
AskAnswer s key NotFinal = IsNew s.entries key × (s.plan ≡ None)
AskAnswer s key (Full entries cells) = IsNew s.entries key × (s.limit ≤ length s.entries) × (entries ≡ length s.entries) × (cells ≡ 0) × ((p : Plan) × (s.plan ≡ Some p))

-- an ask adds itself with its answer, and changes nothing else
pub record ListAsks {X O M : Type 0} (s : Lists X O M) (key : Key M) (a : Asked M) (s' : Lists X O M) : Type 0 where
  pub answer : AskAnswer s key a
  pub added : s' ≡ record s { seen = s.seen ++ Ask key a ∷ [] }

-- there is room for one more entry, and there are handles for the new objects
pub record HasRoom {X O M : Type 0} (s : Lists X O M) (out : PrimOut O M) : Type 0 where
  pub entries : length s.entries < s.limit
  pub handles : length s.objects + length out.fresh < 2 ^ 32

pub record HasNoRoom {X O M : Type 0} (s : Lists X O M) (out : PrimOut O M) : Type 0 where
  pub is : (s.limit ≤ length s.entries) ⊎ (2 ^ 32 ≤ length s.objects + length out.fresh)

-- the lists after a put that is kept: the new objects have the next handles, and the entry is the last
abbrev pub with_entry : {X O M : Type 0} → Lists X O M → Key M → PrimOut O M → Lists X O M
with_entry s key out = record s { objects = s.objects ++ out.fresh; entries = s.entries ++ record { key = key; value = settled (length s.objects) out.out } ∷ [] }

-- a put of a kept key answers the kept value and keeps the list; a new one is the next entry; else the list is full
abbrev pub PutAnswers : {X O M : Type 0} → Lists X O M → Key M → PrimOut O M → PutAnswer M → Lists X O M → Type 0
PutAnswers s key out (Kept v) t = (IsKept s.entries key v × (t ≡ s)) ⊎ (IsNew s.entries key × HasRoom s out × (v ≡ settled (length s.objects) out.out) × (t ≡ with_entry s key out))
PutAnswers s key out (PutFull entries cells) t = IsNew s.entries key × HasNoRoom s out × (entries ≡ length s.entries) × (t ≡ s) × (cells ≡ 0)

-- a put adds itself with its answer, and changes only what its answer says
pub record ListPuts {X O M : Type 0} (s : Lists X O M) (key : Key M) (out : PrimOut O M) (a : PutAnswer M) (s' : Lists X O M) : Type 0 where
  pub after : Lists X O M
  pub answer : PutAnswers s key out a after
  pub added : s' ≡ record after { seen = s.seen ++ Put key out a ∷ [] }
