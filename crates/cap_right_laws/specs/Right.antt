-- When a told value is right, and when a history is: by plain evaluation, which has no cache and no history, and by the meaning of the operation in its category.
use Rattle.std.specs.Prelude.{ℕ, List}
use Rattle.cap_ops.specs.declared.keys.Key.{Key}
use Rattle.cap_ops.specs.declared.keys.Value.{Value as Answer}
use Rattle.cap_ops.specs.Meaning.{Meaning}
use Rattle.cap_ops.specs.Primitives.{OfferData}
use Rattle.cap_rules.specs.Table.{rule_table}
use Rattle.cap_history.specs.declared.entries.Entry.{Entry}
use Rattle.cap_legal.specs.Good.{ValueAt, IsGoodValue, IsGood}

-- a told value is right: its data are those of plain evaluation by the plan, and they have the meaning of the key's operation
pub record IsRightValue {O M : Type 0} (D : OfferData O M) (entries : List (Entry O M)) (key : Key M) (v : Answer M) : Type 0 where
  pub value : IsGoodValue D rule_table entries key v
  pub meaning : Meaning D.category key.op.0 value.good.data_of value.good.out

-- a history is right: it is good, and each value that it tells is right
pub record IsRight {O M : Type 0} (D : OfferData O M) (entries : List (Entry O M)) : Type 0 where
  pub good : IsGood D rule_table entries
  pub right : (place : ℕ) (key : Key M) (v : Answer M) → ValueAt entries place key v → IsRightValue D entries key v
