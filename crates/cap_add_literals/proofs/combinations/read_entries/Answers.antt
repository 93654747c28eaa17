use Rattle.std.proofs.Common.{rules, List, ℕ, sym, subst}
use Rattle.cap_add_laws.specs.Closure.{AreObjects}
use Rattle.cap_lincat.specs.Tables.{table_in}
use Rattle.cap_offer.specs.Literals.{Gives}
use Rattle.cap_add_literals.specs.Literals.{entries_between}
use Rattle.cap_add_literals.proofs.Given.{table-objects, answer-arrow}
use Rattle.cap_add_literals.proofs.combinations.read_entries.Goals as goal

pub read_rows-requires-clause-from : goal.read_rows-requires-clause-from
read_rows-requires-clause-from c =
    let T = table_in c.args.table.now in
    subst (λ (xs : List ℕ). AreObjects T xs) (sym c.parts.ensures.value) (table-objects T c.args.a.now c.requires.source)

pub read_rows-requires-clause-to : goal.read_rows-requires-clause-to
read_rows-requires-clause-to c =
    let T = table_in c.args.table.now in
    subst (λ (xs : List ℕ). AreObjects T xs) (sym c.parts-in-Rows.ensures.value) (table-objects T c.args.b.now c.requires.target)

pub returns-clause-arrow : goal.returns-clause-arrow
returns-clause-arrow c =
    let T = table_in c.args.table.now in
    let gives : Gives (entries_between T c.args.a.now c.args.b.now c.args.lit.now) c.read_rows.result = search rules in
    answer-arrow T c.args.a.now c.args.b.now c.args.lit.now c.read_rows.result c.requires.source c.requires.target gives
