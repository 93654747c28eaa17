-- What holds of a board that is a list.
use Rattle.std.specs.Prelude.{◌≡◌, ℕ, ◌^◌, ◌<◌, ◌≤◌, Some, length, slice_get}
use Rattle.cap_ops.specs.declared.plans.Plan.{Plan}
use Rattle.cap_ops.specs.Told.{told_in}
use Rattle.cap_ops.specs.Primitives.{OfferData}
use Rattle.cap_run.specs.Plans.{IsPlanOf}
use Rattle.cap_run.specs.Puts.{Good}
use Rattle.cap_board.specs.Board.{Planned, ToldObjects}
use Rattle.cap_list_board.specs.declared.entries.Entry.{Entry}
use Rattle.cap_list_board.specs.Lists.{Lists}

-- the entry's value is its key's value by the known plan
pub record IsGoodEntry {X O M : Type 0} (D : OfferData O M) (s : Lists X O M) (e : Entry M) : Type 0 where
  pub p : Plan
  pub planned : Planned D s.rules s.plan p
  pub is : Good D s.rules p (told_in s.objects) e.key.op.0 e.key.args e.value

-- the plan is one of registrations of offered primitives, each handle fits 32 bits, each object is the category's, each entry is good, they are at most as many as may be kept, and no two have one key
pub record Holds {X O M : Type 0} (D : OfferData O M) (s : Lists X O M) : Type 0 where
  pub planned : (p : Plan) → s.plan ≡ Some p → IsPlanOf D s.rules p
  pub handles : length s.objects < 2 ^ 32
  pub objects : ToldObjects D (told_in s.objects)
  pub entries : (place : ℕ) (e : Entry M) → slice_get s.entries place ≡ Some e → IsGoodEntry D s e
  pub few : length s.entries ≤ s.limit
  pub once : (i j : ℕ) (d e : Entry M) → slice_get s.entries i ≡ Some d → slice_get s.entries j ≡ Some e → d.key ≡ e.key → i ≡ j
