-- What a command does in its category is determined by what stands before it and by the history so far, but for the size that a refusal names.
use Rattle.std.proofs.Common.{◌≡◌, ℕ, List, [], ◌∷◌, ◌++◌, Option, Some, None, Ok, Err, length, refl, sym, ap, subst, ◌∙◌, inl, inr, true, false, arith}
use Rattle.std.specs.Prelude.{Result, IsSome, unwrap_or}
use Rattle.std.proofs.lemmas.List.{append-nil}
use Rattle.cap_names.specs.declared.identifiers.Handle.{Handle}
use Rattle.cap_names.specs.declared.identifiers.OpId.{OpId}
use Rattle.cap_names.specs.declared.identifiers.SessionNo.{SessionNo}
use Rattle.cap_names.specs.declared.literals.MorLit.{MorLit}
use Rattle.cap_field.proofs.Remainders.{residue_unique}
use Rattle.cap_grammar.specs.declared.tree.ArgTok.{ArgTok}
use Rattle.cap_grammar.specs.declared.tree.ArgTok.TheVariants as argument
use Rattle.cap_grammar.specs.declared.tree.Command.{Command}
use Rattle.cap_grammar.specs.declared.tree.Command.TheVariants.{Register, Finalise, Plan, Object, Src, Tgt, Let, Call}
use Rattle.cap_checked.specs.Checked.{integer}
use Rattle.cap_checked.specs.declared.tree.CheckedObj.{CheckedObj}
use Rattle.cap_checked.specs.declared.tree.CheckedObj.TheVariants as checked
use Rattle.cap_ops.specs.declared.keys.Arg.{Arg}
use Rattle.cap_ops.specs.declared.keys.Arg.TheVariants.{Obj, Mor, Num}
use Rattle.cap_ops.specs.Primitives.{prime_of}
use Rattle.cap_ops.specs.Told.{told_in}
use Rattle.cap_ops.proofs.Places.{none≢some, some_inner}
use Rattle.cap_rules.specs.Table.{rule_table}
use Rattle.cap_seat.proofs.TheRules.{rules-run}
use Rattle.cap_data.specs.declared.data.ObjData.{ObjData}
use Rattle.cap_data.specs.declared.data.MorData.{MorData}
use Rattle.cap_data.specs.Counts.{cells_in_object, cells_in_morphism}
use Rattle.cap_offer.specs.Labels.{Label, any_offer}
use Rattle.cap_offer.specs.Laws.{ReadsOnce}
use Rattle.cap_offer.specs.Literals.{Literal, object_literal, morphism_literal}
use Rattle.cap_offer.specs.Members.{any_one}
use Rattle.cap_offer.proofs.Literals.{literals_are_one}
use Rattle.cap_board.specs.declared.refusals.CallRefusal.{CallRefusal}
use Rattle.cap_board.specs.declared.refusals.CallRefusal.TheVariants as refused
use Rattle.cap_board.specs.Trace.{CallEnd}
use Rattle.cap_history.specs.declared.entries.Event.{Event}
use Rattle.cap_history.specs.declared.entries.Event.TheVariants as event
use Rattle.cap_history.specs.Reading.{objects, cells}
use Rattle.cap_history.specs.Replies.{IsFull, entry}
use Rattle.cap_legal.specs.Legal.{Legal}
use Rattle.cap_legal.proofs.Longer.{told-longer}
use Rattle.cap_desk.specs.Books.{frame}
use Rattle.cap_report.specs.declared.lines.LineAnswer.{LineAnswer}
use Rattle.cap_report.specs.declared.lines.LineAnswer.TheVariants as line
use Rattle.cap_report.specs.declared.lines.LineRefusal.{LineRefusal}
use Rattle.cap_report.specs.declared.lines.LineRefusal.TheVariants as refusal
use Rattle.cap_report.specs.declared.situation.Made.{Made}
use Rattle.cap_accounts.specs.Commands.{object_at, IsArgument, AreArguments, value_line, refusal_line, end_line, reply_line, OneEvent, OneCall, NoEvent, Reads, DoesIn}
use Rattle.cap_commands.specs.Agreement.{Standing}
use Rattle.cap_commands.specs.Kinds.{kinds, ObjectIs, MorphismIs}
use Rattle.cap_commands.specs.Kinds.{Reads as ReadsLiteral}
use Rattle.cap_commands.specs.Seats.{OfData}
use Rattle.cap_one_report.specs.Sizes.{refusal_without_size, answer_without_size}
use Rattle.cap_one_report.proofs.Entries.{legal-entry, no-room, entry-one}
use Rattle.cap_one_report.proofs.Sides.{bare_refusal, bare, FullAt, Side}
use Rattle.cap_one_report.proofs.Traces.{trace-one}

abbrev pub Line : Type 0
Line = LineAnswer MorData

-- literals: what is read is one, or a refusal, never both, and refusals are one but for a size
pub record ReadsOne {A : Type 0} (is : Result A LineRefusal → Type 0) : Type 0 where
  pub one : (a b : A) → is (Ok a) → is (Ok b) → a ≡ b
  pub either : (a : A) (why : LineRefusal) → is (Ok a) → is (Err why) → ⊥
  pub one_refusal : (why why' : LineRefusal) → is (Err why) → is (Err why') → refusal_without_size why ≡ refusal_without_size why'

literal-either : {D : Type 0} (L : Literal D) (x : D) (why : LineRefusal) → ReadsLiteral L (Ok x) → ReadsLiteral L (Err why) → ⊥
literal-either L x (refusal.Shape part) g e = g.shape part e.is
literal-either L x (refusal.TooLarge size) g e = e.names.past (g.within e.names.size e.names.is_met)
literal-either L x _ g e = e

literal-refusal : {D : Type 0} (L : Literal D) (why why' : LineRefusal) → ReadsLiteral L (Err why) → ReadsLiteral L (Err why') → refusal_without_size why ≡ refusal_without_size why'
literal-refusal L (refusal.Shape part) (refusal.Shape other) e f = let le = e.least other f.is in let ge = f.least part e.is in let same : part ≡ other = omega arith in ap refusal.Shape same
literal-refusal L (refusal.Shape part) (refusal.TooLarge size) e f = absurd (f.shape part e.is)
literal-refusal L (refusal.TooLarge size) (refusal.Shape part) e f = absurd (e.shape part f.is)
literal-refusal L (refusal.TooLarge size) (refusal.TooLarge other) e f = refl
literal-refusal L (refusal.Shape part) _ e f = absurd f
literal-refusal L (refusal.TooLarge size) _ e f = absurd f
literal-refusal L _ _ e f = absurd e

literal-one : {D : Type 0} (L : Literal D) → ReadsOnce L → ReadsOne (ReadsLiteral L)
literal-one L one = record { one = λ a b g h. one a b g.reads h.reads; either = literal-either L; one_refusal = literal-refusal L }

objects-one : (x : Label) (lit : CheckedObj) → ReadsOne (ObjectIs x lit)
objects-one x (checked.Lit lit) = let one = literal-one (object_literal x lit) (literals_are_one.objects x lit) in record { one = one.one; either = one.either; one_refusal = one.one_refusal }
objects-one x (checked.Paths dims maps) = record { one = λ a b g h. absurd g; either = λ a why g h. g; one_refusal = λ why why' g h. absurd g }

morphisms-one : (x : Label) (a b : ObjData) (lit : MorLit) → ReadsOne (MorphismIs x a b lit)
morphisms-one x a b lit = let one = literal-one (morphism_literal x a b lit) (literals_are_one.morphisms x a b lit) in record { one = one.one; either = one.either; one_refusal = one.one_refusal }

-- arguments are one
module _ (S : Standing) (p : ℕ) where
  argument-one : (t : ArgTok) (a b : Arg MorData) → IsArgument S p t a → IsArgument S p t b → a ≡ b
  argument-one (argument.Ref r) a b f g = some_inner (sym f ∙ g)
  argument-one (argument.Int n) (Num k) (Num j) f g = ap Num (residue_unique p (integer n) k j f g)
  argument-one (argument.Int n) (Num k) (Obj j) f g = absurd g
  argument-one (argument.Int n) (Num k) (Mor j) f g = absurd g
  argument-one (argument.Int n) (Obj k) b f g = absurd f
  argument-one (argument.Int n) (Mor k) b f g = absurd f

  arguments-one : (ts : List ArgTok) (xs ys : List (Arg MorData)) → AreArguments S p ts xs → AreArguments S p ts ys → xs ≡ ys
  arguments-one [] [] [] f g = refl
  arguments-one [] [] (y ∷ ys) f g = absurd g
  arguments-one [] (x ∷ xs) ys f g = absurd f
  arguments-one (t ∷ ts) [] ys f g = absurd f
  arguments-one (t ∷ ts) (x ∷ xs) [] f g = absurd g
  arguments-one (t ∷ ts) (x ∷ xs) (y ∷ ys) f g = rw (argument-one t x y f.0 g.0, arguments-one ts xs ys f.1 g.1) refl

-- a line that is refused since a history is full tells the numbers of this history, which is full
pub record IsFullWith (entries : List OfData) (n k : ℕ) : Type 0 where
  pub entries_are : n ≡ length entries
  pub cells_are : k ≡ cells cells_in_object cells_in_morphism entries
  pub full : IsFull cells_in_object cells_in_morphism entries

abbrev pub FullLine : List OfData → Line → Type 0
FullLine entries (line.Refused (refusal.Full n k)) = IsFullWith entries n k
FullLine entries answer = Unit {0}

abbrev full_line : ℕ → ℕ → Line
full_line n k = line.Refused (refusal.Full n k)

numbers-one : (entries : List OfData) (n k m j : ℕ) → IsFullWith entries n k → IsFullWith entries m j → full_line n k ≡ full_line m j
numbers-one entries n k m j F G = ap (λ x. full_line x k) (F.entries_are ∙ sym G.entries_are) ∙ ap (full_line m) (F.cells_are ∙ sym G.cells_are)

-- the lines of ends that are alike
module _ (entries : List OfData) where
  refusals-alike : (e f : CallRefusal) (a b : Line) → bare_refusal e ≡ bare_refusal f → refusal_line e ≡ Some a → refusal_line f ≡ Some b → FullLine entries a → FullLine entries b → answer_without_size a ≡ answer_without_size b
  refusals-alike (refused.Full n k) (refused.Full m j) a b q h i F G =
      let F2 : IsFullWith entries n k = subst (FullLine entries) (sym (some_inner h)) F in
      let G2 : IsFullWith entries m j = subst (FullLine entries) (sym (some_inner i)) G in
      ap answer_without_size (sym (some_inner h)) ∙ (numbers-one entries n k m j F2 G2 ∙ ap answer_without_size (some_inner i))
  refusals-alike (refused.TooLarge t) (refused.TooLarge u) a b q h i F G = ap answer_without_size (sym (some_inner h)) ∙ ap answer_without_size (some_inner i)
  refusals-alike (refused.Mismatch m) (refused.Mismatch n) a b q h i F G = let e : m ≡ n = cc in ap answer_without_size (some_inner (sym h ∙ ap (λ x. Some (line.Refused (refusal.Mismatch x))) e ∙ i))
  refusals-alike refused.NotFinal refused.NotFinal a b q h i F G = ap answer_without_size (some_inner (sym h ∙ i))
  refusals-alike (refused.Missing o) (refused.Missing u) a b q h i F G = let e : o ≡ u = cc in ap answer_without_size (some_inner (sym h ∙ ap (λ x. Some (line.Refused (refusal.Missing x))) e ∙ i))
  refusals-alike refused.NoMemory f a b q h i F G = absurd (none≢some h)
  refusals-alike (refused.Full n k) _ a b q h i F G = absurd (cc)
  refusals-alike (refused.TooLarge t) _ a b q h i F G = absurd (cc)
  refusals-alike (refused.Mismatch m) _ a b q h i F G = absurd (cc)
  refusals-alike refused.NotFinal _ a b q h i F G = absurd (cc)
  refusals-alike (refused.Missing o) _ a b q h i F G = absurd (cc)

  lines-alike : (e f : CallEnd MorData) (a b : Line) → bare e ≡ bare f → end_line e ≡ Some a → end_line f ≡ Some b → FullLine entries a → FullLine entries b → answer_without_size a ≡ answer_without_size b
  lines-alike (Ok v) (Ok w) a b q h i F G = let e : v ≡ w = cc in ap answer_without_size (some_inner (sym h ∙ ap (λ x. Some (value_line x)) e ∙ i))
  lines-alike (Err e) (Err f) a b q h i F G = refusals-alike e f a b (inner (bare_refusal e) (bare_refusal f) q) h i F G
    where
      inner : (x y : CallRefusal) → ◌≡◌ {A = CallEnd MorData} (Err x) (Err y) → x ≡ y
      inner x y q = cc
  lines-alike (Ok v) (Err f) a b q h i F G = absurd (cc)
  lines-alike (Err e) (Ok w) a b q h i F G = absurd (cc)

  -- an end by which the history is full
  full-end : (x : Label) (s : SessionNo) (e : CallEnd MorData) (a : Line) → end_line e ≡ Some a → FullLine entries a → FullAt (frame (any_offer x) cells_in_object cells_in_morphism) s entries e
  full-end x s (Err (refused.Full n k)) a h F = let G : IsFullWith entries n k = subst (FullLine entries) (sym (some_inner h)) F in G.full
  full-end x s (Ok v) a h F = tt
  full-end x s (Err (refused.Mismatch m)) a h F = tt
  full-end x s (Err refused.NotFinal) a h F = tt
  full-end x s (Err (refused.Missing o)) a h F = tt
  full-end x s (Err (refused.TooLarge t)) a h F = tt
  full-end x s (Err refused.NoMemory) a h F = tt

-- the objects at the ends of a morphism literal were told before
abbrev pub TellsEnds : List OfData → Standing → Command CheckedObj MorLit → Type 0
TellsEnds done S (Let y cat src tgt lit) = ((h : Handle) → object_at S src ≡ Some h → IsSome (told_in (objects done) h)) × ((h : Handle) → object_at S tgt ≡ Some h → IsSome (told_in (objects done) h))
TellsEnds done S c = Unit {0}

module _ (session : SessionNo) (x : Label) (done : List OfData) where
  -- what stands in a legal history behind what is done, and the objects that the whole tells
  abbrev told_behind : List OfData → List OfData → Handle → Option ObjData
  told_behind es later = told_in (objects (done ++ (es ++ later)))

  module _ (es es' later later' : List OfData) (legal : Legal (frame (any_offer x) cells_in_object cells_in_morphism) (done ++ (es ++ later))) (legal' : Legal (frame (any_offer x) cells_in_object cells_in_morphism) (done ++ (es' ++ later'))) where
    -- the same entries, and the same line but for a size
    abbrev pub SameDone : Line → Line → Type 0
    SameDone a a' = (es ≡ es') × (answer_without_size a ≡ answer_without_size a')

    nothing-done : (a a' : Line) → es ≡ [] → es' ≡ [] → answer_without_size a ≡ answer_without_size a' → SameDone a a'
    nothing-done a a' e e' q = (e ∙ sym e', q)

    no-line : (ev : Event ObjData MorData) (a : Line) (own : List OfData) → own ≡ [] → FullLine (done ++ own) a → (n k : ℕ) → a ≡ full_line n k → IsFullWith done n k
    no-line ev a own e F n k f = subst (λ y. IsFullWith y n k) (ap (λ y. done ++ y) e ∙ append-nil done) (subst (FullLine (done ++ own)) f F)

    clash : {X : Type 0} (own later : List OfData) (e : OfData) → Legal (frame (any_offer x) cells_in_object cells_in_morphism) (done ++ (own ++ later)) → own ≡ e ∷ [] → IsFull cells_in_object cells_in_morphism done → X
    clash own later e l is full = absurd (no-room (frame (any_offer x) cells_in_object cells_in_morphism) done full (legal-entry (frame (any_offer x) cells_in_object cells_in_morphism) done e later (subst (λ y. Legal (frame (any_offer x) cells_in_object cells_in_morphism) (done ++ (y ++ later))) is l)).room)

    event-one : (ev : Event ObjData MorData) (a a' : Line) → FullLine (done ++ es) a → FullLine (done ++ es') a' → OneEvent kinds rule_table session ev es a → OneEvent kinds rule_table session ev es' a' → SameDone a a'
    event-one ev a a' F F' (inl h) (inl k) =
        let one = subst (λ y. Legal (frame (any_offer x) cells_in_object cells_in_morphism) (done ++ (y ++ later))) h.1 legal in
        let one' = subst (λ y. Legal (frame (any_offer x) cells_in_object cells_in_morphism) (done ++ (y ++ later'))) k.1 legal' in
        let same = entry-one (frame (any_offer x) cells_in_object cells_in_morphism) rules-run done (entry session ev h.0) (entry session ev k.0) later later' one one' refl refl in
        (h.1 ∙ ap (λ e. e ∷ []) same ∙ sym k.1, ap answer_without_size (some_inner (sym h.2 ∙ ap (λ e. reply_line ev e.reply) same ∙ k.2)))
    event-one ev a a' F F' (inl h) (inr k) = clash es later (entry session ev h.0) legal h.1 (no-line ev a' es' k.2 F' k.0 k.1 k.3).full
    event-one ev a a' F F' (inr h) (inl k) = clash es' later' (entry session ev k.0) legal' k.1 (no-line ev a es h.2 F h.0 h.1 h.3).full
    event-one ev a a' F F' (inr h) (inr k) =
        let same = numbers-one done h.0 h.1 k.0 k.1 (no-line ev a es h.2 F h.0 h.1 h.3) (no-line ev a' es' k.2 F' k.0 k.1 k.3) in
        nothing-done a a' h.2 k.2 (ap answer_without_size (h.3 ∙ same ∙ sym k.3))

    -- what was read, and what follows
    reads-one : {A : Type 0} (is : Result A LineRefusal → Type 0) → ReadsOne is → (K : A → List OfData → Line → Type 0) (a a' : Line) → ((y : A) → K y es a → K y es' a' → SameDone a a')
        → Reads kinds rule_table session is K es a → Reads kinds rule_table session is K es' a' → SameDone a a'
    reads-one is one K a a' next (inl h) (inl k) =
        nothing-done a a' h.2.0 k.2.0 (ap answer_without_size h.2.1 ∙ (ap (λ y. line.Refused y) (one.one_refusal h.0 k.0 h.1 k.1) ∙ ap answer_without_size (sym k.2.1)))
    reads-one is one K a a' next (inl h) (inr k) = absurd (one.either k.0 h.0 k.1 h.1)
    reads-one is one K a a' next (inr h) (inl k) = absurd (one.either h.0 k.0 h.1 k.1)
    reads-one is one K a a' next (inr h) (inr k) = next k.0 (subst (λ y. K y es a) (one.one h.0 k.0 h.1 k.1) h.2) k.2

    call-one : (op : OpId) (args : List (Arg MorData)) (a a' : Line) → FullLine (done ++ es) a → FullLine (done ++ es') a' → OneCall kinds rule_table session x (told_behind es later) op args es a
        → OneCall kinds rule_table session x (told_behind es' later') op args es' a' → SameDone a a'
    call-one op args a a' F F' C C' =
        let A : Side (frame (any_offer x) cells_in_object cells_in_morphism) session (told_behind es later) done C.events es later C.end
        = record { legal = legal; stays = λ h o e. e; recorded = C.recorded; full = full-end (done ++ es) x session C.end a C.answered F } in
        let A' : Side (frame (any_offer x) cells_in_object cells_in_morphism) session (told_behind es' later') done C'.events es' later' C'.end
        = record { legal = legal'; stays = λ h o e. e; recorded = C'.recorded; full = full-end (done ++ es') x session C'.end a' C'.answered F' } in
        let R = trace-one (frame (any_offer x) cells_in_object cells_in_morphism) (any_one x) rules-run session (told_behind es later) (told_behind es' later') C.depth C'.depth op.0 args done C.events C'.events es es' later later' C.end C'.end A A' C.trace C'.trace in
        (R.0, lines-alike (done ++ es') C.end C'.end a a' R.1 C.answered C'.answered (subst (λ y. FullLine (done ++ y) a) R.0 F) F')

    end-one : (h k : Handle) (from from' : ObjData) (o : Option ObjData) → h ≡ k → told_in (objects done) h ≡ o → IsSome o → told_behind es later h ≡ Some from → told_behind es' later' k ≡ Some from' → from ≡ from'
    end-one h k from from' None e w s t u = absurd (let g : false ≡ true = s in cc)
    end-one h k from from' (Some o) e w s t u =
        let a : told_behind es later h ≡ Some o = told-longer done (es ++ later) h o w in
        let b : told_behind es' later' h ≡ Some o = told-longer done (es' ++ later') h o w in
        some_inner (sym t ∙ a) ∙ some_inner (sym b ∙ (ap (told_behind es' later') e ∙ u))

    pub does-one : (S : Standing) (m : Made Label) → m.category ≡ x → (c : Command CheckedObj MorLit) (a a' : Line) → FullLine (done ++ es) a → FullLine (done ++ es') a' → TellsEnds done S c
        → DoesIn kinds rule_table session S m (told_behind es later) c es a → DoesIn kinds rule_table session S m (told_behind es' later') c es' a' → SameDone a a'
    does-one S m q (Register cat op weight) a a' F F' T h k = event-one (event.Register op (unwrap_or weight (unwrap_or ((any_offer m.category).weight op.0) 1))) a a' F F' h k
    does-one S m q (Finalise cat) a a' F F' T h k = event-one event.Finalise a a' F F' h k
    does-one S m q (Plan cat) a a' F F' T h k = event-one event.PlanOf a a' F F' h k
    does-one S m q (Object cat y lit) a a' F F' T h k =
        reads-one (ObjectIs m.category lit) (objects-one m.category lit) (λ object. OneEvent kinds rule_table session (event.Declare y object)) a a' (λ object u v. event-one (event.Declare y object) a a' F F' u v) h k
    does-one S m q (Src y r) a a' F F' T h k = absurd h
    does-one S m q (Tgt y r) a a' F F' T h k = absurd h
    does-one S m q (Let y cat src tgt lit) a a' F F' T (f, g, from, to, is, it, source, target, reads) (f', g', from', to', is', it', source', target', reads') =
        let ef : f ≡ f' = some_inner (sym is ∙ is') in
        let eg : g ≡ g' = some_inner (sym it ∙ it') in
        let d : from ≡ from' = end-one f f' from from' (told_in (objects done) f) ef refl (T.0 f is) source source' in
        let e : to ≡ to' = end-one g g' to to' (told_in (objects done) g) eg refl (T.1 g it) target target' in
        let K : Handle → Handle → MorData → List OfData → Line → Type 0 = λ u v w es l. NoEvent kinds rule_table session es l (line.Morphism (record { src = u; tgt = v; value = w })) in
        let again : Reads kinds rule_table session (MorphismIs m.category from to lit) (K f g) es' a'
        = subst (λ u. Reads kinds rule_table session (MorphismIs m.category from to lit) (K u g) es' a') (sym ef)
        (subst (λ v. Reads kinds rule_table session (MorphismIs m.category from to lit) (K f' v) es' a') (sym eg)
        (subst (λ o. Reads kinds rule_table session (MorphismIs m.category o to lit) (K f' g') es' a') (sym d)
        (subst (λ o. Reads kinds rule_table session (MorphismIs m.category from' o lit) (K f' g') es' a') (sym e) reads'))) in
        reads-one (MorphismIs m.category from to lit) (morphisms-one m.category from to lit) (K f g) a a' (λ w u v. nothing-done a a' u.0 v.0 (ap answer_without_size (u.1 ∙ sym v.1))) reads again
    does-one S m q (Call y cat op args) a a' F F' T (given, are, call) (given', are', call') =
        let same = arguments-one S (prime_of (any_offer m.category)) args given given' are are' in
        let call2 = subst (λ g. OneCall kinds rule_table session m.category (told_behind es' later') op g es' a') (sym same) call' in
        call-one op given a a' F F' (subst (λ y. OneCall kinds rule_table session y (told_behind es later) op given es a) q call) (subst (λ y. OneCall kinds rule_table session y (told_behind es' later') op given es' a') q call2)
