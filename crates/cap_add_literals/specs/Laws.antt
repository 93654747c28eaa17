-- The laws of literals of additive closures.
use Rattle.std.specs.Prelude.{List, ℕ}
use Rattle.cap_names.specs.declared.literals.MorLit.{MorLit}
use Rattle.cap_laws.specs.Table.{TableData}
use Rattle.cap_data.specs.declared.data.ObjData.{ObjData}
use Rattle.cap_offer.specs.Laws.{ReadsOnce}
use Rattle.cap_add_literals.specs.Literals.{list_literal, entries_between}

-- a literal stands for at most one datum
pub record ListLiteralsAreOne : Type 0 where
  pub objects : (parts : List ℕ) → ReadsOnce (list_literal parts)
  pub morphisms : (T : TableData) (a b : ObjData) (lit : MorLit) → ReadsOnce (entries_between T a b lit)
