-- What a script's run rests on: how blocks and categories are made, and how literals are read. Each kind of category says these once.
use Rattle.std.specs.Prelude.{ℕ, Option, Result}
use Rattle.cap_names.specs.declared.literals.MorLit.{MorLit}
use Rattle.cap_grammar.specs.declared.tree.Block.{Block}
use Rattle.cap_grammar.specs.declared.tree.Over.{Over}
use Rattle.cap_checked.specs.declared.tree.CheckedObj.{CheckedObj}
use Rattle.cap_ops.specs.Primitives.{OfferData}
use Rattle.cap_report.specs.declared.lines.LineAnswer.{LineAnswer}
use Rattle.cap_report.specs.declared.lines.LineRefusal.{LineRefusal}

-- X are categories, T the tables that they are over
pub record World (X T O M : Type 0) : Type 1 where
  pub offered : X → OfferData O M
  pub object_cells : O → ℕ
  pub morphism_cells : M → ℕ
  -- the table of a block, or why it has none
  pub block_is : Block → Result T LineRefusal → Type 0
  -- what the block's line says of its table
  pub block_line : T → LineAnswer M
  -- the category over a prime, or over a table
  pub category_is : Over → Option T → X → Type 0
  -- the object and the morphism of a literal, or why there is none
  pub object_is : X → CheckedObj → Result O LineRefusal → Type 0
  pub morphism_is : X → O → O → MorLit → Result M LineRefusal → Type 0
