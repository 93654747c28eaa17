-- What a board that is a list has, and what it shows of it.
use Rattle.std.specs.Prelude.{◌≡◌, ◌≢◌, ℕ, List, [], Option, Some, None, map, slice_get}
use Rattle.cap_ops.specs.declared.keys.Key.{Key}
use Rattle.cap_ops.specs.declared.keys.Value.{Value as Answer}
use Rattle.cap_ops.specs.declared.plans.Plan.{Plan}
use Rattle.cap_terms.specs.declared.body.Rule.{Rule}
use Rattle.cap_board.specs.Board.{Event, BoardState, asked, kept}
use Rattle.cap_list_board.specs.declared.entries.Entry.{Entry}
use Rattle.cap_list_board.specs.declared.entries.Seen.{Seen}
use Rattle.cap_list_board.specs.declared.entries.Seen.TheVariants.{Ask, Put}

-- the offer, the rules, how many entries may be kept, the plan once it is known, the objects told in order of handle, the kept entries, and the asks and puts with their answers
pub record Lists (X O M : Type 0) : Type 0 where
  pub offer : X
  pub rules : List Rule
  pub limit : ℕ
  pub plan : Option Plan
  pub objects : List O
  pub entries : List (Entry M)
  pub seen : List (Seen O M)

-- nothing told, nothing kept, nothing asked, no plan
abbrev pub empty_lists : {X O M : Type 0} → X → List Rule → ℕ → Lists X O M
empty_lists offer rules limit = record { offer = offer; rules = rules; limit = limit; plan = None; objects = []; entries = []; seen = [] }

-- an ask or a put as the event of a board
abbrev pub event_of : {O M : Type 0} → Seen O M → Event O M
event_of (Ask key answer) = asked key.op.0 key.args answer
event_of (Put key out answer) = kept key.op.0 key.args out answer

-- what the board has besides its objects
abbrev pub state_of : {X O M : Type 0} → Lists X O M → BoardState X O M
state_of s = record { offer = s.offer; rules = s.rules; events = map event_of s.seen; plan = s.plan }

-- the entry at some place has this key and this value
pub record IsKept {M : Type 0} (entries : List (Entry M)) (key : Key M) (v : Answer M) : Type 0 where
  pub place : ℕ
  pub is : slice_get entries place ≡ Some (record { key = key; value = v })

-- no entry has this key
abbrev pub IsNew : {M : Type 0} → List (Entry M) → Key M → Type 0
IsNew {M} entries key = (place : ℕ) (e : Entry M) → slice_get entries place ≡ Some e → e.key ≢ key

-- the entry at this place has this key
pub record IsEntryAt {M : Type 0} (entries : List (Entry M)) (key : Key M) (place : ℕ) : Type 0 where
  pub entry : Entry M
  pub is : slice_get entries place ≡ Some entry
  pub same : entry.key ≡ key
