-- A category that is made behind the parts of a prelude.
use Rattle.std.proofs.Common.{◌≡◌, ◌⊎◌, inl, inr, ℕ, Bool, true, false, cond, List, [], ◌∷◌, ◌++◌, length, Option, Some, None, refl, sym, ap, ◌∙◌, subst, slice_get, find}
use Rattle.std.specs.Prelude.{option_and_then}
use Rattle.std.specs.Option.{option_or}
use Rattle.std.specs.List.{AllZip}
use Rattle.std.proofs.lemmas.List.Folds.{find-append}
use Rattle.cap_grammar.specs.declared.tree.Item.TheVariants as top
use Rattle.cap_grammar.specs.declared.tree.Over.{Over}
use Rattle.cap_grammar.specs.declared.tree.Over.TheVariants.{Vec}
use Rattle.cap_block_faults.specs.Names.{same}
use Rattle.cap_check.specs.Unbuilt.{CheckedPart}
use Rattle.cap_faults.specs.declared.values.Value.{Value}
use Rattle.cap_fitting.specs.Categories.{category_over, is_category_named, over_in}
use Rattle.cap_ops.proofs.Places.{none≢some, some_inner}
use Rattle.cap_ops.specs.Told.{StaysTold}
use Rattle.cap_data.specs.declared.data.MorData.{MorData}
use Rattle.cap_data.specs.Counts.{cells_in_object, cells_in_morphism}
use Rattle.cap_offer.specs.Labels.{Label, vec, any_offer}
use Rattle.cap_seat.specs.Seats.{Holds}
use Rattle.cap_report.specs.declared.situation.Bound.{Bound}
use Rattle.cap_report.specs.declared.situation.Made.{Made}
use Rattle.cap_accounts.specs.Commands.{category_of}
use Rattle.cap_commands.specs.Kinds.{CategoryIs}
use Rattle.cap_commands.specs.Agreement.{Standing, Telling, Stands, IsMadeOver}
use Rattle.cap_commands.specs.Seats.{AtSeat, IsSeat, AreNumbered, AreSeats, told_or_none, telling}
use Rattle.cap_traces.specs.Runs.{prelude_session, new_seat}
use Rattle.cap_session.proofs.Parts.{slice-last, slice-front, zip-push, found-first, found-none, none-apart}
use Rattle.cap_session.proofs.Staying.{stands-stays}

abbrev pub is_named : List ℕ → CheckedPart → Bool
is_named cat p = is_category_named cat p.node

-- where no part is a category of a name, none of that name is made
abbrev pub NoOthers : List CheckedPart → Standing → Type 0
NoOthers before S = (cat : List ℕ) → find (is_named cat) before ≡ None → category_of S cat ≡ None

-- a part that is no category of the name changes nothing for it
or-nothing : {X : Type 0} (o : Option X) → option_or o None ≡ o
or-nothing None = refl
or-nothing (Some x) = refl

find-one : {X : Type 0} (p : X → Bool) (x : X) → p x ≡ false → find p (x ∷ []) ≡ None
find-one p x e = ap (λ b. cond b (Some x) None) e

pub over-beside : (before : List CheckedPart) (p : CheckedPart) (cat : List ℕ) → is_named cat p ≡ false → category_over (before ++ p ∷ []) cat ≡ category_over before cat
over-beside before p cat e =
    ap (option_and_then (λ (q : CheckedPart). over_in q.node)) (find-append (is_named cat) before (p ∷ []) ∙ ap (option_or (find (is_named cat) before)) (find-one (is_named cat) p e) ∙ or-nothing (find (is_named cat) before))

-- what a category is over was known before, or it is the last part
over-cases : (o : Option CheckedPart) (rest : Option CheckedPart) (over : Over) → option_and_then (λ (q : CheckedPart). over_in q.node) (option_or o rest) ≡ Some over
    → (option_and_then (λ (q : CheckedPart). over_in q.node) o ≡ Some over) ⊎ ((o ≡ None) × (option_and_then (λ (q : CheckedPart). over_in q.node) rest ≡ Some over))
over-cases None rest over e = inr (refl, e)
over-cases (Some q) rest over e = inl e

pub over-last : (before : List CheckedPart) (p : CheckedPart) (cat : List ℕ) (over : Over) → category_over (before ++ p ∷ []) cat ≡ Some over
    → (category_over before cat ≡ Some over) ⊎ ((find (is_named cat) before ≡ None) × (category_over (p ∷ []) cat ≡ Some over))
over-last before p cat over e =
    over-cases (find (is_named cat) before) (find (is_named cat) (p ∷ [])) over (sym (ap (option_and_then (λ (q : CheckedPart). over_in q.node)) (find-append (is_named cat) before (p ∷ []))) ∙ e)

-- a seat before a category in which nothing has happened holds
new-holds : (x : Label) → Holds (any_offer x) cells_in_object cells_in_morphism (new_seat x)
new-holds x = record {
  legal = tt;
  told = λ h o e. absurd (none≢some e);
  plan = λ e. absurd (cc);
  objects = λ h o e. absurd (none≢some e);
}

module _ (S : Standing) (name : List ℕ) (prime : ℕ) (made : Made Label) (named : made.name ≡ name) (category : made.category ≡ vec prime) where
  abbrev pub more : Standing
  more = record S { categories = S.categories ++ made ∷ [] }

  pub category-stays : (cat : List ℕ) (m : Made Label) → category_of S cat ≡ Some m → category_of more cat ≡ Some m
  category-stays cat m e = found-first (λ (m : Made Label). same m.name cat) S.categories (made ∷ []) m e

  made-there : (b : Bool) (over : Over) (cat : List ℕ) → (b ≡ true → same made.name cat ≡ true) → category_of S cat ≡ None → cond b (Some (Vec prime)) None ≡ Some over → IsMadeOver more cat over
  made-there true over cat k none e = record {
    made = made;
    is = found-none (λ (m : Made Label). same m.name cat) S.categories (made ∷ []) none ∙ ap (λ b. cond b (Some made) None) (k refl);
    category = subst (λ o. CategoryIs o None made.category) (some_inner e) category;
  }
  made-there false over cat k none e = absurd (none≢some e)

  over-one : (b : Bool) (p : CheckedPart) → over_in p.node ≡ Some (Vec prime) → option_and_then (λ (q : CheckedPart). over_in q.node) (cond b (Some p) None) ≡ cond b (Some (Vec prime)) None
  over-one true p e = e
  over-one false p e = refl

  is-known : (before : List CheckedPart) (p : CheckedPart) (cat : List ℕ) (over : Over) → p.node ≡ top.Category name (Vec prime) → NoOthers before S
      → ((cat : List ℕ) (over : Over) → category_over before cat ≡ Some over → IsMadeOver S cat over) → (category_over before cat ≡ Some over) ⊎ ((find (is_named cat) before ≡ None) × (category_over (p ∷ []) cat ≡ Some over)) → IsMadeOver more cat over
  is-known before p cat over node others known (inl e) =
      let m = known cat over e in
      record { made = m.made; is = category-stays cat m.made m.is; category = m.category }
  is-known before p cat over node others known (inr e) =
      let here : is_named cat p ≡ same name cat = ap (is_category_named cat) node in
      let last : cond (is_named cat p) (Some (Vec prime)) None ≡ Some over = sym (over-one (is_named cat p) p (ap over_in node)) ∙ e.1 in
      made-there (is_named cat p) over cat (λ t. ap (λ n. same n cat) named ∙ sym here ∙ t) (others cat e.0) last

  pub all-made : (before : List CheckedPart) (p : CheckedPart) → p.node ≡ top.Category name (Vec prime) → NoOthers before S
      → ((cat : List ℕ) (over : Over) → category_over before cat ≡ Some over → IsMadeOver S cat over) → (cat : List ℕ) (over : Over) → category_over (before ++ p ∷ []) cat ≡ Some over → IsMadeOver more cat over
  all-made before p node others known cat over e = is-known before p cat over node others known (over-last before p cat over e)

  none-one : {X : Type 0} (b : Bool) (x : X) → cond b (Some x) None ≡ None → b ≡ false
  none-one true x e = absurd (none≢some (sym e))
  none-one false x e = refl

  pub no-others : (before : List CheckedPart) (p : CheckedPart) → p.node ≡ top.Category name (Vec prime) → NoOthers before S → NoOthers (before ++ p ∷ []) more
  no-others before p node others cat e =
      let apart = none-apart (is_named cat) before (p ∷ []) e in
      let here : is_named cat p ≡ same name cat = ap (is_category_named cat) node in
      let other : same made.name cat ≡ false = ap (λ n. same n cat) named ∙ sym here ∙ none-one (is_named cat p) p apart.1 in
      found-none (λ (m : Made Label). same m.name cat) S.categories (made ∷ []) (others cat apart.0) ∙ ap (λ b. cond b (Some made) None) other

  -- the names that were bound still stand for what they stood for
  module _ (t t' : Telling) (stays : (n : ℕ) → StaysTold (t n) (t' n)) where
    stands-more : (v : Value) (b : Bound MorData) → Stands S t v b → Stands more t' v b
    stands-more v b s =
        let later = stands-stays S t t' stays v b s in
        record { name = later.name; sort = later.sort; made = later.made; is = category-stays v.cat later.made later.is; told = later.told }

    pub all-stand : (vs : List Value) (bs : List (Bound MorData)) → AllZip (Stands S t) vs bs → AllZip (Stands more t') vs bs
    all-stand [] [] a = tt
    all-stand [] (b ∷ bs) a = absurd a
    all-stand (v ∷ vs) [] a = absurd a
    all-stand (v ∷ vs) (b ∷ bs) a = (stands-more v b a.0, all-stand vs bs a.1)

  -- the seats, with a new one
  numbered-by : AreNumbered S → made.number.0 ≡ length S.categories → (i : ℕ) (m : Made Label) → (slice_get S.categories i ≡ Some m) ⊎ ((i ≡ length S.categories) × (m ≡ made)) → m.number.0 ≡ i
  numbered-by numbered last i m (inl f) = numbered i m f
  numbered-by numbered last i m (inr f) = ap (λ (m : Made Label). m.number.0) f.1 ∙ last ∙ sym f.0

  pub seats-more : (seats : List AtSeat) → made.number.0 ≡ length S.categories → AreSeats prelude_session S seats → AreSeats prelude_session more (seats ++ new_seat (vec prime) ∷ [])
  seats-more seats last A = record {
    numbered = λ i m e. numbered-by A.numbered last i m (slice-last S.categories made i m e);
    all = zip-push (IsSeat prelude_session) S.categories seats made (new_seat (vec prime)) A.all (record {
      offer = sym category;
      own = refl;
      holds = new-holds (vec prime);
      taken = refl;
    });
  }

-- what the seats tell stays, with a new one
stays-or : (o o' : Option AtSeat) → ((s : AtSeat) → o ≡ Some s → o' ≡ Some s) → StaysTold (told_or_none o) (told_or_none o')
stays-or None o' k h x e = absurd (none≢some e)
stays-or (Some s) o' k h x e = subst (λ o. told_or_none o h ≡ Some x) (sym (k s refl)) e

pub more-stays : (seats : List AtSeat) (s : AtSeat) (n : ℕ) → StaysTold (telling seats n) (telling (seats ++ s ∷ []) n)
more-stays seats s n = stays-or (slice_get seats n) (slice_get (seats ++ s ∷ []) n) (λ x e. slice-front seats (s ∷ []) n x e)
