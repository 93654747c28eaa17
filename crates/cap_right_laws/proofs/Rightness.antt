-- Legal histories are right.
use Rattle.std.proofs.Common.{List, [], ◌∷◌}
use Rattle.std.specs.List.{AllZip}
use Rattle.cap_rules.specs.Table.{rule_table}
use Rattle.cap_ops.specs.declared.keys.Key.{Key}
use Rattle.cap_ops.specs.declared.keys.Value.{Value as Answer}
use Rattle.cap_data.specs.declared.data.ObjData.{ObjData}
use Rattle.cap_data.specs.declared.data.MorData.{MorData}
use Rattle.cap_data.specs.Counts.{cells_in_object, cells_in_morphism}
use Rattle.cap_offer.specs.Labels.{Label, any_offer}
use Rattle.cap_offer.specs.Members.{any_plain, any_linear, any_means}
use Rattle.cap_offer.proofs.Offers.{rules_hold}
use Rattle.cap_history.specs.declared.entries.Entry.{Entry}
use Rattle.cap_legal.specs.Good.{IsGoodValue}
use Rattle.cap_legal.proofs.Histories.{legal-good}
use Rattle.cap_call_laws.proofs.Values.{rules_are, values_mean}
use Rattle.cap_right_laws.specs.Right.{IsRightValue}
use Rattle.cap_right_laws.specs.Laws.{LegalIsRight, AccountsAreRight}

module _ (x : Label) where
  right-value : (entries : List (Entry ObjData MorData)) (key : Key MorData) (v : Answer MorData) → IsGoodValue (any_offer x) rule_table entries key v → IsRightValue (any_offer x) entries key v
  right-value entries key v g = record {
    value = g;
    meaning = values_mean (any_offer x) (any_linear x) (any_plain x) (any_means x) (rules_hold x) g.p g.is_plan _ key.op.0 g.good.fits.operation key.args v g.good;
  }

pub legal-right : LegalIsRight
legal-right x entries legal =
    let good = legal-good (any_offer x) rule_table cells_in_object cells_in_morphism rules_are entries legal in
    record { good = good; right = λ place key v at. right-value x entries key v (good.right place key v at) }

each-zip : {A B : Type 0} (R Q : A → B → Type 0) → ((a : A) (b : B) → R a b → Q a b) → (xs : List A) (ys : List B) → AllZip R xs ys → AllZip Q xs ys
each-zip R Q f [] [] all = tt
each-zip R Q f [] (y ∷ ys) all = absurd all
each-zip R Q f (x ∷ xs) [] all = absurd all
each-zip R Q f (x ∷ xs) (y ∷ ys) all = (f x y all.0, each-zip R Q f xs ys all.1)

pub accounts-right : AccountsAreRight
accounts-right form r a = each-zip _ _ (λ m h is. legal-right m.category h.entries is.legal) a.behind.categories r.histories a.histories
