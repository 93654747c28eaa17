-- A command's events and its answer are determined by what stands before it and by the histories so far, but for the size that a refusal names.
use Rattle.std.proofs.Common.{◌≡◌, ℕ, Bool, true, false, List, [], ◌∷◌, ◌++◌, Option, Some, None, length, refl, sym, ap, subst, ◌∙◌, map}
use Rattle.std.specs.Prelude.{◌==◌, if◌then◌else◌}
use Rattle.std.specs.List.{cons_option}
use Rattle.std.proofs.lemmas.Bool.{eq-eqb}
use Rattle.std.proofs.lemmas.List.{append-nil}
use Rattle.cap_names.specs.declared.identifiers.CatNo.{CatNo}
use Rattle.cap_names.specs.declared.identifiers.SessionNo.{SessionNo}
use Rattle.cap_names.specs.declared.literals.MorLit.{MorLit}
use Rattle.cap_grammar.specs.declared.tree.Command.{Command}
use Rattle.cap_grammar.specs.declared.tree.Command.TheVariants.{Register, Finalise, Plan, Object, Src, Tgt, Let, Call}
use Rattle.cap_checked.specs.declared.tree.CheckedObj.{CheckedObj}
use Rattle.cap_ops.specs.Told.{told_in}
use Rattle.cap_ops.proofs.Places.{some_inner}
use Rattle.cap_rules.specs.Table.{rule_table}
use Rattle.cap_data.specs.declared.data.ObjData.{ObjData}
use Rattle.cap_data.specs.declared.data.MorData.{MorData}
use Rattle.cap_data.specs.Counts.{cells_in_object, cells_in_morphism}
use Rattle.cap_offer.specs.Labels.{Label, any_offer}
use Rattle.cap_history.specs.Reading.{objects, cells}
use Rattle.cap_history.specs.Replies.{IsFull}
use Rattle.cap_legal.specs.Legal.{Legal}
use Rattle.cap_desk.specs.Books.{frame}
use Rattle.cap_report.specs.declared.lines.LineAnswer.TheVariants as line
use Rattle.cap_report.specs.declared.lines.LineRefusal.TheVariants as refusal
use Rattle.cap_report.specs.declared.report.History.{History}
use Rattle.cap_report.specs.declared.situation.Made.{Made}
use Rattle.cap_report.specs.Histories.{history_of}
use Rattle.cap_report.specs.Named.{category_name}
use Rattle.cap_accounts.specs.Commands.{category_of, lacking, DoesIn}
use Rattle.cap_accounts.specs.Accounts.{of_category, InCategory, DoesAll, DoesOrLacks, IsFullOf}
use Rattle.cap_commands.specs.Agreement.{Standing}
use Rattle.cap_commands.specs.Kinds.{kinds}
use Rattle.cap_commands.specs.Seats.{OfData}
use Rattle.cap_one_report.specs.Sizes.{answer_without_size}
use Rattle.cap_one_report.proofs.Doing.{Line, IsFullWith, FullLine, TellsEnds, does-one}

abbrev pub Events : Type 0
Events = List (CatNo × OfData)

abbrev pub Histories : Type 0
Histories = List (History ObjData MorData)

-- entries under the number of one category
one-number : (b : Bool) (e : OfData) (es : List OfData) → b ≡ true → cons_option (if b then Some e else None) es ≡ e ∷ es
one-number true e es t = refl
one-number false e es t = absurd cc

no-number : (b : Bool) (e : OfData) (es : List OfData) → b ≡ false → cons_option (if b then Some e else None) es ≡ es
no-number true e es t = absurd cc
no-number false e es t = refl

abbrev numbered : CatNo → List OfData → Events
numbered number entries = map (λ e. (number, e)) entries

pub own-category : (number : CatNo) (entries : List OfData) → of_category number.0 (numbered number entries) ≡ entries
own-category number [] = refl
own-category number (e ∷ es) = one-number (number.0 == number.0) e (of_category number.0 (numbered number es)) (eq-eqb number.0 number.0 refl) ∙ ap (λ es. e ∷ es) (own-category number es)

abbrev pub LegalIn : Made Label → List OfData → Type 0
LegalIn m entries = Legal (frame (any_offer m.category) cells_in_object cells_in_morphism) entries

-- a command in the histories of a report: its events stand behind what is done, and these come later
pub record CommandSide (session : SessionNo) (H : Histories) (S : Standing) (c : Command CheckedObj MorLit) (done : ℕ → List OfData) (first : Events) (later : ℕ → List OfData) (a : Line) : Type 0 where
  pub whole : (n : ℕ) → history_of H n ≡ done n ++ (of_category n first ++ later n)
  pub legal : (name : List ℕ) (m : Made Label) → category_of S name ≡ Some m → LegalIn m (history_of H m.number.0)
  pub full : (name : List ℕ) (m : Made Label) → category_name c ≡ Some name → category_of S name ≡ Some m → FullLine (done m.number.0 ++ of_category m.number.0 first) a
  pub does : DoesOrLacks kinds rule_table H (lacking S c) session S c first a

-- where a refusal tells a full history, nothing comes later there
abbrev pub EndsThere : Histories → Standing → Command CheckedObj MorLit → (ℕ → List OfData) → Line → Type 0
EndsThere H S c later (line.Refused (refusal.Full n k)) = (category : CatNo) × IsFullOf kinds rule_table H S c category n k × (later category.0 ≡ [])
EndsThere H S c later a = Unit {0}

module _ (H : Histories) (S : Standing) (c : Command CheckedObj MorLit) (done : ℕ → List OfData) (first : Events) (later : ℕ → List OfData) (whole : (n : ℕ) → history_of H n ≡ done n ++ (of_category n first ++ later n)) where
  full-whole : (i n k : ℕ) (entries : List OfData) → history_of H i ≡ entries → n ≡ length (history_of H i) → k ≡ cells cells_in_object cells_in_morphism (history_of H i) → IsFull cells_in_object cells_in_morphism (history_of H i) → IsFullWith entries n k
  full-whole i n k entries e p q f = record { entries_are = p ∙ ap length e; cells_are = q ∙ ap (cells cells_in_object cells_in_morphism) e; full = subst (IsFull cells_in_object cells_in_morphism) e f }

  pub full-line : (a : Line) → EndsThere H S c later a → (name : List ℕ) (m : Made Label) → category_name c ≡ Some name → category_of S name ≡ Some m → FullLine (done m.number.0 ++ of_category m.number.0 first) a
  full-line (line.Refused (refusal.Full n k)) (category, F, none) name m named is =
      let names : F.name ≡ name = some_inner (sym F.named ∙ named) in
      let made : F.made ≡ m = some_inner (sym F.is ∙ ap (category_of S) names ∙ is) in
      let number : category.0 ≡ m.number.0 = ap (λ (x : CatNo). x.0) (sym F.number) ∙ ap (λ (x : Made Label). x.number.0) made in
      let e : history_of H category.0 ≡ done category.0 ++ of_category category.0 first = whole category.0 ∙ ap (λ y. done category.0 ++ (of_category category.0 first ++ y)) none ∙ ap (λ y. done category.0 ++ y) (append-nil (of_category category.0 first)) in
      let g = full-whole category.0 n k (done category.0 ++ of_category category.0 first) e F.entries F.cells_are F.full in
      subst (λ i. IsFullWith (done i ++ of_category i first) n k) number g
  full-line _ t name m named is = tt

module _ (session : SessionNo) (S : Standing) (done : ℕ → List OfData) (first first' : Events) (H H' : Histories) (later later' : ℕ → List OfData) (a a' : Line) where
  -- the same events, and the same answer but for a size
  abbrev pub SameCommand : Type 0
  SameCommand = (first ≡ first') × (answer_without_size a ≡ answer_without_size a')

  -- ends that a command needs were told in its category
  abbrev pub KnowsEnds : Command CheckedObj MorLit → Type 0
  KnowsEnds c = (name : List ℕ) (m : Made Label) → category_name c ≡ Some name → category_of S name ≡ Some m → TellsEnds (done m.number.0) S c

  in-one : (c : Command CheckedObj MorLit) → CommandSide session H S c done first later a → CommandSide session H' S c done first' later' a' → KnowsEnds c
      → InCategory kinds rule_table H session S c first a → InCategory kinds rule_table H' session S c first' a' → SameCommand
  in-one c A B knows X X' =
      let names : X.name ≡ X'.name = some_inner (sym X.named ∙ X'.named) in
      let made : X.made ≡ X'.made = some_inner (sym X.is ∙ ap (category_of S) names ∙ X'.is) in
      let i = X.made.number.0 in
      let D : List OfData = done X.made.number.0 in
      let events' : first' ≡ numbered X.made.number X'.entries = subst (λ (m : Made Label). first' ≡ numbered m.number X'.entries) (sym made) X'.events_are in
      let own : of_category i first ≡ X.entries = ap (of_category i) X.events_are ∙ own-category X.made.number X.entries in
      let own' : of_category i first' ≡ X'.entries = ap (of_category i) events' ∙ own-category X.made.number X'.entries in
      let w : history_of H i ≡ D ++ (X.entries ++ later i) = A.whole i ∙ ap (λ y. D ++ (y ++ later i)) own in
      let w' : history_of H' i ≡ D ++ (X'.entries ++ later' i) = B.whole i ∙ ap (λ y. D ++ (y ++ later' i)) own' in
      let l : LegalIn X.made (D ++ (X.entries ++ later i)) = subst (LegalIn X.made) w (A.legal X.name X.made X.is) in
      let l' : LegalIn X.made (D ++ (X'.entries ++ later' i)) = subst (LegalIn X.made) w' (B.legal X.name X.made X.is) in
      let does : DoesIn kinds rule_table session S X.made (told_in (objects (D ++ (X.entries ++ later i)))) c X.entries a = subst (λ y. DoesIn kinds rule_table session S X.made (told_in (objects y)) c X.entries a) w X.does in
      let moved : DoesIn kinds rule_table session S X.made (told_in (objects (history_of H' i))) c X'.entries a'
      = subst (λ (m : Made Label). DoesIn kinds rule_table session S m (told_in (objects (history_of H' m.number.0))) c X'.entries a') (sym made) X'.does in
      let does' : DoesIn kinds rule_table session S X.made (told_in (objects (D ++ (X'.entries ++ later' i)))) c X'.entries a' = subst (λ y. DoesIn kinds rule_table session S X.made (told_in (objects y)) c X'.entries a') w' moved in
      let F = subst (λ y. FullLine (D ++ y) a) own (A.full X.name X.made X.named X.is) in
      let F' = subst (λ y. FullLine (D ++ y) a') own' (B.full X.name X.made X.named X.is) in
      let R = does-one session X.made.category D X.entries X'.entries (later i) (later' i) l l' S X.made refl c a a' F F' (knows X.name X.made X.named X.is) does does' in
      (X.events_are ∙ ap (numbered X.made.number) R.0 ∙ sym events', R.1)

  all-one : (c : Command CheckedObj MorLit) → CommandSide session H S c done first later a → CommandSide session H' S c done first' later' a' → KnowsEnds c
      → DoesAll kinds rule_table H session S c first a → DoesAll kinds rule_table H' session S c first' a' → SameCommand
  all-one (Src x r) A B knows X X' = (X.0 ∙ sym X'.0, ap answer_without_size (some_inner (sym X.1 ∙ X'.1)))
  all-one (Tgt x r) A B knows X X' = (X.0 ∙ sym X'.0, ap answer_without_size (some_inner (sym X.1 ∙ X'.1)))
  all-one (Register cat op weight) A B knows X X' = in-one (Register cat op weight) A B knows X X'
  all-one (Finalise cat) A B knows X X' = in-one (Finalise cat) A B knows X X'
  all-one (Plan cat) A B knows X X' = in-one (Plan cat) A B knows X X'
  all-one (Object cat x lit) A B knows X X' = in-one (Object cat x lit) A B knows X X'
  all-one (Let x cat src tgt lit) A B knows X X' = in-one (Let x cat src tgt lit) A B knows X X'
  all-one (Call x cat op args) A B knows X X' = in-one (Call x cat op args) A B knows X X'

  pub command-one : (c : Command CheckedObj MorLit) → CommandSide session H S c done first later a → CommandSide session H' S c done first' later' a' → KnowsEnds c → SameCommand
  command-one c A B knows = go (lacking S c) A.does B.does
    where
      go : (o : Option (List ℕ)) → DoesOrLacks kinds rule_table H o session S c first a → DoesOrLacks kinds rule_table H' o session S c first' a' → SameCommand
      go (Some name) X X' = (X.0 ∙ sym X'.0, ap answer_without_size (X.1 ∙ sym X'.1))
      go None X X' = all-one c A B knows X X'
