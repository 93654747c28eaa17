-- Legal histories are right, and so are those of a report that accounts for its script.
use Rattle.std.specs.Prelude.{List}
use Rattle.std.specs.List.{AllZip}
use Rattle.cap_checked.specs.declared.tree.Checked.{Checked}
use Rattle.cap_rules.specs.Table.{rule_table}
use Rattle.cap_data.specs.declared.data.ObjData.{ObjData}
use Rattle.cap_data.specs.declared.data.MorData.{MorData}
use Rattle.cap_data.specs.Counts.{cells_in_object, cells_in_morphism}
use Rattle.cap_offer.specs.Labels.{Label, any_offer}
use Rattle.cap_history.specs.declared.entries.Entry.{Entry}
use Rattle.cap_legal.specs.Legal.{Legal}
use Rattle.cap_desk.specs.Books.{frame}
use Rattle.cap_report.specs.declared.report.History.{History}
use Rattle.cap_report.specs.declared.report.Report.{Report}
use Rattle.cap_report.specs.declared.situation.Made.{Made}
use Rattle.cap_accounts.specs.Accounts.{Accounts}
use Rattle.cap_commands.specs.Kinds.{kinds}
use Rattle.cap_right_laws.specs.Right.{IsRight}

-- a legal history of a category of any kind is right
abbrev pub LegalIsRight : Type 0
LegalIsRight = (x : Label) (entries : List (Entry ObjData MorData)) → Legal (frame (any_offer x) cells_in_object cells_in_morphism) entries → IsRight (any_offer x) entries

-- the histories of a report that accounts for its script are right, each in its category
abbrev pub AccountsAreRight : Type 0
AccountsAreRight = (form : Checked) (r : Report ObjData MorData) (a : Accounts kinds rule_table form r)
    → AllZip (λ (m : Made Label) (h : History ObjData MorData). IsRight (any_offer m.category) h.entries) a.behind.categories r.histories
