-- The names that a script has bound stand for answers whose objects their categories have told.
use Rattle.std.proofs.Common.{◌≡◌, ℕ, ◌-◌, Bool, true, false, List, [], ◌∷◌, ◌++◌, Option, Some, None, Ok, Err, append_assoc, refl, sym, ap, subst, ◌∙◌, inl, inr, cond}
use Rattle.std.specs.Prelude.{IsSome, find, option_map, option_and_then, option_to_list, unwrap_or}
use Rattle.std.specs.List.{AllZip}
use Rattle.std.proofs.lemmas.List.{append-nil}
use Rattle.std.proofs.lemmas.List.Elements.{All-head}
use Rattle.cap_names.specs.declared.identifiers.Handle.{Handle}
use Rattle.cap_names.specs.declared.identifiers.OpId.{OpId}
use Rattle.cap_names.specs.declared.identifiers.SessionNo.{SessionNo}
use Rattle.cap_names.specs.declared.literals.MorLit.{MorLit}
use Rattle.cap_grammar.specs.declared.tree.Command.{Command}
use Rattle.cap_grammar.specs.declared.tree.Command.TheVariants.{Register, Finalise, Plan, Object, Src, Tgt, Let, Call}
use Rattle.cap_grammar.specs.declared.tree.RefTok.{RefTok}
use Rattle.cap_block_faults.specs.Names.{same}
use Rattle.cap_faults.specs.declared.values.Value.{Value}
use Rattle.cap_faults.specs.Commands.{value_of, end_of}
use Rattle.cap_fitting.specs.Commands.{Scope, CommandFits}
use Rattle.cap_fitting.specs.Values.{bound_by}
use Rattle.cap_checked.specs.declared.tree.CheckedObj.{CheckedObj}
use Rattle.cap_ops.specs.declared.arrows.Arrow.{Arrow}
use Rattle.cap_ops.specs.declared.keys.Arg.{Arg}
use Rattle.cap_ops.specs.Told.{told_in, StaysTold}
use Rattle.cap_ops.proofs.Places.{none≢some, some_inner}
use Rattle.cap_rules.specs.Table.{rule_table}
use Rattle.cap_seat.proofs.Holding.{told-new}
use Rattle.cap_seat.proofs.TheRules.{rules-run}
use Rattle.cap_data.specs.declared.data.ObjData.{ObjData}
use Rattle.cap_data.specs.declared.data.MorData.{MorData}
use Rattle.cap_data.specs.Counts.{cells_in_object, cells_in_morphism}
use Rattle.cap_offer.specs.Labels.{Label, any_offer}
use Rattle.cap_board.specs.declared.refusals.CallRefusal.{CallRefusal}
use Rattle.cap_board.specs.declared.refusals.CallRefusal.TheVariants as refused
use Rattle.cap_board.specs.Trace.{CallEnd}
use Rattle.cap_history.specs.declared.entries.Event.{Event}
use Rattle.cap_history.specs.declared.entries.Event.TheVariants as event
use Rattle.cap_history.specs.declared.entries.Reply.{Reply}
use Rattle.cap_history.specs.declared.entries.Reply.TheVariants as reply
use Rattle.cap_history.specs.Reading.{objects}
use Rattle.cap_history.specs.Replies.{entry}
use Rattle.cap_legal.specs.Legal.{Legal}
use Rattle.cap_legal.proofs.Longer.{told-longer, legal-front}
use Rattle.cap_desk.specs.Books.{frame}
use Rattle.cap_report.specs.declared.lines.LineAnswer.TheVariants as line
use Rattle.cap_report.specs.declared.lines.LineRefusal.TheVariants as refusal
use Rattle.cap_report.specs.declared.situation.Bound.{Bound}
use Rattle.cap_report.specs.declared.situation.Made.{Made}
use Rattle.cap_report.specs.Histories.{history_of}
use Rattle.cap_report.specs.Named.{category_name, bound_name}
use Rattle.cap_accounts.specs.Commands.{category_of, answer_of, object_in, arrow_in, object_at, arrow_at, lacking, refusal_line, end_line, reply_line, value_line, OneEvent, OneCall, DoesIn}
use Rattle.cap_accounts.specs.Accounts.{with_bound, of_category, InCategory, DoesAll, DoesOrLacks}
use Rattle.cap_commands.specs.Agreement.{Standing}
use Rattle.cap_commands.specs.Kinds.{kinds}
use Rattle.cap_commands.specs.Seats.{OfData}
use Rattle.cap_one_report.proofs.Entries.{legal-entry}
use Rattle.cap_one_report.proofs.Sides.{key_of}
use Rattle.cap_one_report.proofs.Told.{LineTold, part-told, stays-told, line-stays, trace-told, value-line-told}
use Rattle.cap_one_report.proofs.Doing.{Line, TellsEnds}
use Rattle.cap_one_report.proofs.Commands.{Events, Histories, own-category, LegalIn, CommandSide}

-- an answer under a name of a category: where it names objects, the category is made, and has told them
pub record IsNamed (S : Standing) (done : ℕ → List OfData) (cat : List ℕ) (a : Line) : Type 0 where
  pub made : Made Label
  pub is : category_of S cat ≡ Some made
  pub told : LineTold (told_in (objects (done made.number.0))) a

abbrev pub ToldAs : Standing → (ℕ → List OfData) → List ℕ → Line → Type 0
ToldAs S done cat (line.Object h) = IsNamed S done cat (line.Object h)
ToldAs S done cat (line.Morphism f) = IsNamed S done cat (line.Morphism f)
ToldAs S done cat (line.Tuple fs) = IsNamed S done cat (line.Tuple fs)
ToldAs S done cat a = Unit {0}

pub told-as : (S : Standing) (done : ℕ → List OfData) (cat : List ℕ) (a : Line) → IsNamed S done cat a → ToldAs S done cat a
told-as S done cat (line.Object h) n = n
told-as S done cat (line.Morphism f) n = n
told-as S done cat (line.Tuple fs) n = n
told-as S done cat line.Category n = tt
told-as S done cat (line.Registered op weight) n = tt
told-as S done cat line.Final n = tt
told-as S done cat (line.Plan p) n = tt
told-as S done cat (line.Truth b) n = tt
told-as S done cat line.Nothing n = tt
told-as S done cat (line.Refused why) n = tt

pub record StandsTold (S : Standing) (done : ℕ → List OfData) (v : Value) (b : Bound MorData) : Type 0 where
  pub name : v.name ≡ b.name
  pub told : ToldAs S done v.cat b.answer

abbrev pub AgreeTold : Standing → (ℕ → List OfData) → List Value → Type 0
AgreeTold S done values = AllZip (StandsTold S done) values S.bound

-- what stands told stands so in longer histories, and where more categories are made
module _ (S T : Standing) (done behind : ℕ → List OfData) (kept : (cat : List ℕ) (m : Made Label) → category_of S cat ≡ Some m → category_of T cat ≡ Some m) (stays : (n : ℕ) → StaysTold (told_in (objects (done n))) (told_in (objects (behind n)))) where
  named-longer : (cat : List ℕ) (a : Line) → IsNamed S done cat a → IsNamed T behind cat a
  named-longer cat a n = record {
    made = n.made;
    is = kept cat n.made n.is;
    told = line-stays (told_in (objects (done n.made.number.0))) (told_in (objects (behind n.made.number.0))) (stays n.made.number.0) a n.told;
  }

  as-longer : (cat : List ℕ) (a : Line) → ToldAs S done cat a → ToldAs T behind cat a
  as-longer cat (line.Object h) n = named-longer cat (line.Object h) n
  as-longer cat (line.Morphism f) n = named-longer cat (line.Morphism f) n
  as-longer cat (line.Tuple fs) n = named-longer cat (line.Tuple fs) n
  as-longer cat line.Category n = tt
  as-longer cat (line.Registered op weight) n = tt
  as-longer cat line.Final n = tt
  as-longer cat (line.Plan p) n = tt
  as-longer cat (line.Truth b) n = tt
  as-longer cat line.Nothing n = tt
  as-longer cat (line.Refused why) n = tt

  pub stand-longer : (values : List Value) (bound : List (Bound MorData)) → AllZip (StandsTold S done) values bound → AllZip (StandsTold T behind) values bound
  stand-longer [] [] z = tt
  stand-longer [] (b ∷ bound) z = absurd z
  stand-longer (v ∷ values) [] z = absurd z
  stand-longer (v ∷ values) (b ∷ bound) z = (record { name = z.0.name; told = as-longer v.cat b.answer z.0.told }, stand-longer values bound z.1)

zip-push : {A B : Type 0} (R : A → B → Type 0) (xs : List A) (ys : List B) (x : A) (y : B) → AllZip R xs ys → R x y → AllZip R (xs ++ x ∷ []) (ys ++ y ∷ [])
zip-push R [] [] x y z r = (r, tt)
zip-push R [] (b ∷ ys) x y z r = absurd z
zip-push R (a ∷ xs) [] x y z r = absurd z
zip-push R (a ∷ xs) (b ∷ ys) x y z r = (z.0, zip-push R xs ys x y z.1 r)

-- a value of the script has an answer, which was told
module _ (S : Standing) (done : ℕ → List OfData) where
  abbrev FoundAs : Value → Option Line → Type 0
  FoundAs v None = ⊥
  FoundAs v (Some a) = ToldAs S done v.cat a

  found-in : (values : List Value) (bound : List (Bound MorData)) (name : List ℕ) (v : Value) → AllZip (StandsTold S done) values bound → value_of values name ≡ Some v → FoundAs v (option_map (λ (b : Bound MorData). b.answer) (find (λ b. same b.name name) bound))
  found-in [] bound name v z e = absurd (none≢some e)
  found-in (w ∷ values) [] name v z e = absurd z
  found-in (w ∷ values) (b ∷ bound) name v z e = subst (λ n. FoundAs v (option_map (λ (b : Bound MorData). b.answer) (cond (same n name) (Some b) (find (λ b. same b.name name) bound)))) z.0.name (go (λ f. found-in values bound name v z.1 f) (same w.name name) e)
    where
      go : (value_of values name ≡ Some v → FoundAs v (option_map (λ (b : Bound MorData). b.answer) (find (λ b. same b.name name) bound))) → (t : Bool) → cond t (Some w) (value_of values name) ≡ Some v → FoundAs v (option_map (λ (b : Bound MorData). b.answer) (cond t (Some b) (find (λ b. same b.name name) bound)))
      go more true e = subst (λ (u : Value). ToldAs S done u.cat b.answer) (some_inner e) z.0.told
      go more false e = more e

  found : (values : List Value) (name : List ℕ) (v : Value) → AgreeTold S done values → value_of values name ≡ Some v → FoundAs v (answer_of S name)
  found values name v z e = found-in values S.bound name v z e

  -- the object or the arrow of a reference
  object-named : (v : Value) (o : Option Line) (h : Handle) → FoundAs v o → option_and_then (object_in S) o ≡ Some h → IsNamed S done v.cat (line.Object h)
  object-named v None h f e = absurd f
  object-named v (Some (line.Object k)) h f e = subst (λ h. IsNamed S done v.cat (line.Object h)) (some_inner e) f
  object-named v (Some _) h f e = absurd (none≢some e)

  ends-named : (v : Value) (part : Option ℕ) (o : Option Line) (f : Arrow MorData) → FoundAs v o → option_and_then (arrow_in S part) o ≡ Some f → IsNamed S done v.cat (line.Object f.src) × IsNamed S done v.cat (line.Object f.tgt)
  ends-named v part None f z e = absurd z
  ends-named v None (Some (line.Morphism g)) f z e = subst (λ (f : Arrow MorData). IsNamed S done v.cat (line.Object f.src) × IsNamed S done v.cat (line.Object f.tgt)) (some_inner e) (record { made = z.made; is = z.is; told = z.told.0 }, record { made = z.made; is = z.is; told = z.told.1 })
  ends-named v (Some n) (Some (line.Tuple fs)) f z e =
      let p = part-told (told_in (objects (done z.made.number.0))) fs (n - 1) f z.told e in
      (record { made = z.made; is = z.is; told = p.0 }, record { made = z.made; is = z.is; told = p.1 })
  ends-named v None (Some _) f z e = absurd (none≢some e)
  ends-named v (Some n) (Some _) f z e = absurd (none≢some e)

-- what the line of a command in its category names is told behind it
module _ (session : SessionNo) (x : Label) (done es : List OfData) (legal : Legal (frame (any_offer x) cells_in_object cells_in_morphism) (done ++ es)) where
  abbrev TellsLine : Line → Type 0
  TellsLine a = LineTold (told_in (objects (done ++ es))) a

  plain-told : (a b : Line) → TellsLine b → Some b ≡ Some a → TellsLine a
  plain-told a b t e = subst TellsLine (some_inner e) t

  reply-told : (ev : Event ObjData MorData) (r : Reply ObjData MorData) (a : Line) → es ≡ entry session ev r ∷ [] → reply_line ev r ≡ Some a → TellsLine a
  reply-told (event.Register op weight) reply.Done a e h = plain-told a (line.Registered op weight) tt h
  reply-told (event.Register op weight) (reply.AlreadyFinal at) a e h = plain-told a (line.Refused (refusal.AlreadyFinal at)) tt h
  reply-told (event.Register op weight) reply.NotOffered a e h = plain-told a (line.Refused (refusal.NotOffered op)) tt h
  reply-told (event.Register op weight) (reply.Twice w) a e h = plain-told a (line.Refused (refusal.Twice w)) tt h
  reply-told event.Finalise (reply.Final p) a e h = plain-told a line.Final tt h
  reply-told event.Finalise (reply.AlreadyFinal at) a e h = plain-told a (line.Refused (refusal.AlreadyFinal at)) tt h
  reply-told (event.Declare name object) (reply.Object k) a e h = plain-told a (line.Object k) there h
    where
      there : IsSome (told_in (objects (done ++ es)) k)
      there =
          let one : OfData = entry session (event.Declare name object) (reply.Object k) in
          let l : Legal (frame (any_offer x) cells_in_object cells_in_morphism) (done ++ one ∷ []) = subst (λ y. Legal (frame (any_offer x) cells_in_object cells_in_morphism) (done ++ y)) e legal in
          let r = (legal-entry (frame (any_offer x) cells_in_object cells_in_morphism) done one [] l).replies in
          let P : Handle × ObjData → Type 0 = λ y. told_in (objects (done ++ one ∷ [])) y.0 ≡ Some y.1 in
          let t : told_in (objects (done ++ one ∷ [])) k ≡ Some object = All-head P (k, object) [] (told-new (any_offer x) cells_in_object cells_in_morphism done session (event.Declare name object) (reply.Object k) r) in
          subst (λ y. IsSome (told_in (objects (done ++ y)) k)) (sym e) (subst IsSome (sym t) refl)
  reply-told (event.Declare name object) (reply.NameTaken k other) a e h = plain-told a (line.Refused (refusal.NameTaken k)) tt h
  reply-told event.PlanOf (reply.PlanIs p) a e h = plain-told a (line.Plan p) tt h
  reply-told event.PlanOf reply.NotFinal a e h = plain-told a (line.Refused refusal.NotFinal) tt h
  reply-told _ _ a e h = absurd (none≢some h)

  event-told : (ev : Event ObjData MorData) (a : Line) → OneEvent kinds rule_table session ev es a → TellsLine a
  event-told ev a (inl h) = reply-told ev h.0 a h.1 h.2
  event-told ev a (inr h) = subst TellsLine (sym h.3) tt

  refusal-told : (e : CallRefusal) (a : Line) → refusal_line e ≡ Some a → TellsLine a
  refusal-told (refused.Mismatch m) a h = plain-told a (line.Refused (refusal.Mismatch m)) tt h
  refusal-told refused.NotFinal a h = plain-told a (line.Refused refusal.NotFinal) tt h
  refusal-told (refused.Missing o) a h = plain-told a (line.Refused (refusal.Missing o)) tt h
  refusal-told (refused.TooLarge t) a h = plain-told a (line.Refused (refusal.TooLarge t)) tt h
  refusal-told (refused.Full n k) a h = plain-told a (line.Refused (refusal.Full n k)) tt h
  refusal-told refused.NoMemory a h = absurd (none≢some h)

  call-told : (told : Handle → Option ObjData) (op : OpId) (args : List (Arg MorData)) (a : Line) → OneCall kinds rule_table session x told op args es a → TellsLine a
  call-told told op args a C = go C.end refl
    where
      go : (end : CallEnd MorData) → end ≡ C.end → TellsLine a
      go (Ok v) e =
          let t = trace-told session op.0 args v (any_offer x) rule_table told C.depth C.events es C.end e C.trace C.recorded in
          plain-told a (value_line v) (value-line-told (frame (any_offer x) cells_in_object cells_in_morphism) rules-run done es (key_of op.0 args) v legal t) (ap end_line e ∙ C.answered)
      go (Err r) e = refusal-told r a (ap end_line e ∙ C.answered)

  done-longer : (h : Handle) → IsSome (told_in (objects done) h) → IsSome (told_in (objects (done ++ es)) h)
  done-longer h is = stays-told (told_in (objects done)) (told_in (objects (done ++ es))) (told-longer done es) h is

  does-told : (S : Standing) (m : Made Label) → m.category ≡ x → (told : Handle → Option ObjData) (c : Command CheckedObj MorLit) (a : Line) → TellsEnds done S c → DoesIn kinds rule_table session S m told c es a → TellsLine a
  does-told S m q told (Register cat op weight) a T h = event-told (event.Register op (unwrap_or weight (unwrap_or ((any_offer m.category).weight op.0) 1))) a h
  does-told S m q told (Finalise cat) a T h = event-told event.Finalise a h
  does-told S m q told (Plan cat) a T h = event-told event.PlanOf a h
  does-told S m q told (Object cat y lit) a T (inl h) = subst TellsLine (sym h.2.1) tt
  does-told S m q told (Object cat y lit) a T (inr h) = event-told (event.Declare y h.0) a h.2
  does-told S m q told (Src y r) a T h = absurd h
  does-told S m q told (Tgt y r) a T h = absurd h
  does-told S m q told (Let y cat src tgt lit) a T (f, g, from, to, is, it, source, target, inl h) = subst TellsLine (sym h.2.1) tt
  does-told S m q told (Let y cat src tgt lit) a T (f, g, from, to, is, it, source, target, inr h) = subst TellsLine (sym h.2.1) (done-longer f (T.0 f is), done-longer g (T.1 g it), tt)
  does-told S m q told (Call y cat op args) a T (given, are, call) = call-told told op given a (subst (λ y. OneCall kinds rule_table session y told op given es a) q call)

abbrev object_line : (Arrow MorData → Handle) → Arrow MorData → Line
object_line end f = line.Object (end f)

-- what stands told behind a command that fits
module _ (session : SessionNo) (H : Histories) (S : Standing) (done : ℕ → List OfData) (first : Events) (later : ℕ → List OfData) (a : Line) where
  abbrev behind : ℕ → List OfData
  behind n = done n ++ of_category n first

  in-told : (c : Command CheckedObj MorLit) (cat : List ℕ) → category_name c ≡ Some cat → CommandSide session H S c done first later a
      → ((name : List ℕ) (m : Made Label) → category_name c ≡ Some name → category_of S name ≡ Some m → TellsEnds (done m.number.0) S c) → InCategory kinds rule_table H session S c first a → IsNamed S behind cat a
  in-told c cat named A knows X =
      let i = X.made.number.0 in
      let D : List OfData = done X.made.number.0 in
      let own : of_category i first ≡ X.entries = ap (of_category i) X.events_are ∙ own-category X.made.number X.entries in
      let w : history_of H i ≡ (D ++ X.entries) ++ later i = A.whole i ∙ ap (λ y. D ++ (y ++ later i)) own ∙ sym (append_assoc D X.entries (later i)) in
      let l : LegalIn X.made (D ++ X.entries) = legal-front (frame (any_offer X.made.category) cells_in_object cells_in_morphism) (D ++ X.entries) (later i) (subst (LegalIn X.made) w (A.legal X.name X.made X.is)) in
      let t = does-told session X.made.category D X.entries l S X.made refl (told_in (objects (history_of H i))) c a (knows X.name X.made X.named X.is) X.does in
      let name : X.name ≡ cat = some_inner (sym X.named ∙ named) in
      record { made = X.made; is = subst (λ n. category_of S n ≡ Some X.made) name X.is; told = subst (λ y. LineTold (told_in (objects (D ++ y))) a) (sym own) t }

  -- a reference of a command that fits was told
  module _ (values : List Value) (agree : AgreeTold S done values) where
    same-made : (m n : Made Label) (cat name : List ℕ) → category_of S cat ≡ Some m → category_of S name ≡ Some n → cat ≡ name → m ≡ n
    same-made m n cat name e f q = some_inner (sym e ∙ ap (category_of S) q ∙ f)

    told-here : (v : Value) (cat : List ℕ) (m : Made Label) (r : RefTok) (h : Handle) → value_of values r.name ≡ Some v → v.cat ≡ cat → category_of S cat ≡ Some m → object_at S r ≡ Some h → IsSome (told_in (objects (done m.number.0)) h)
    told-here v cat m r h bound same is e =
        let n = object-named S done v (answer_of S r.name) h (found S done values r.name v agree bound) e in
        subst (λ (m : Made Label). IsSome (told_in (objects (done m.number.0)) h)) (same-made n.made m v.cat cat n.is is same) n.told

    pub knows-ends : (scope : Scope) → scope.values ≡ values → (c : Command CheckedObj MorLit) → CommandFits scope c → (name : List ℕ) (m : Made Label) → category_name c ≡ Some name → category_of S name ≡ Some m → TellsEnds (done m.number.0) S c
    knows-ends scope e (Let y cat src tgt lit) fits name m named is =
        let c : cat ≡ name = some_inner named in
        let s : value_of values src.name ≡ Some fits.source.value = ap (λ vs. value_of vs src.name) (sym e) ∙ fits.source.bound in
        let t : value_of values tgt.name ≡ Some fits.target.value = ap (λ vs. value_of vs tgt.name) (sym e) ∙ fits.target.bound in
        (λ h q. told-here fits.source.value name m src h s (fits.source.category ∙ c) is q, λ h q. told-here fits.target.value name m tgt h t (fits.target.category ∙ c) is q)
    knows-ends scope e (Register cat op weight) fits name m named is = tt
    knows-ends scope e (Finalise cat) fits name m named is = tt
    knows-ends scope e (Plan cat) fits name m named is = tt
    knows-ends scope e (Object cat y lit) fits name m named is = tt
    knows-ends scope e (Src y r) fits name m named is = tt
    knows-ends scope e (Tgt y r) fits name m named is = tt
    knows-ends scope e (Call y cat op args) fits name m named is = tt

    -- the name that a command binds stands for what was told
    longer : AllZip (StandsTold S behind) values S.bound
    longer = stand-longer S S done behind (λ cat m e. e) (λ n. told-longer (done n) (of_category n first)) values S.bound agree

    abbrev bound_to : List ℕ → Bound MorData
    bound_to name = record { name = name; answer = a }

    one-more : (v : Value) (name : List ℕ) → v.name ≡ name → ToldAs S behind v.cat a → AllZip (StandsTold (with_bound S (Some name) a) behind) (values ++ v ∷ []) (S.bound ++ bound_to name ∷ [])
    one-more v name e t =
        let T : Standing = with_bound S (Some name) a in
        let all = stand-again values S.bound longer in
        zip-push (StandsTold T behind) values S.bound v (bound_to name) all (record { name = e; told = again v.cat a t })
      where
        again : (cat : List ℕ) (b : Line) → ToldAs S behind cat b → ToldAs (with_bound S (Some name) a) behind cat b
        again cat (line.Object h) n = record { made = n.made; is = n.is; told = n.told }
        again cat (line.Morphism f) n = record { made = n.made; is = n.is; told = n.told }
        again cat (line.Tuple fs) n = record { made = n.made; is = n.is; told = n.told }
        again cat line.Category n = tt
        again cat (line.Registered op weight) n = tt
        again cat line.Final n = tt
        again cat (line.Plan p) n = tt
        again cat (line.Truth b) n = tt
        again cat line.Nothing n = tt
        again cat (line.Refused why) n = tt

        stand-again : (values : List Value) (bound : List (Bound MorData)) → AllZip (StandsTold S behind) values bound → AllZip (StandsTold (with_bound S (Some name) a) behind) values bound
        stand-again [] [] z = tt
        stand-again [] (b ∷ bound) z = absurd z
        stand-again (v ∷ values) [] z = absurd z
        stand-again (v ∷ values) (b ∷ bound) z = (record { name = z.0.name; told = again v.cat b.answer z.0.told }, stand-again values bound z.1)

    -- an answer in its category, or a refusal of what is lacking
    answer-told : (c : Command CheckedObj MorLit) (cat : List ℕ) → category_name c ≡ Some cat → CommandSide session H S c done first later a
        → ((name : List ℕ) (m : Made Label) → category_name c ≡ Some name → category_of S name ≡ Some m → TellsEnds (done m.number.0) S c)
        → (DoesAll kinds rule_table H session S c first a → InCategory kinds rule_table H session S c first a) → ToldAs S behind cat a
    answer-told c cat named A knows into = go (lacking S c) A.does
      where
        go : (o : Option (List ℕ)) → DoesOrLacks kinds rule_table H o session S c first a → ToldAs S behind cat a
        go (Some name) X = subst (ToldAs S behind cat) (sym X.1) tt
        go None X = told-as S behind cat a (in-told c cat named A knows (into X))

    end-told : (c : Command CheckedObj MorLit) (v : Value) → CommandSide session H S c done first later a
        → (DoesAll kinds rule_table H session S c first a → (h : Handle) × (a ≡ line.Object h) × IsNamed S done v.cat (line.Object h)) → ToldAs S behind v.cat a
    end-told c v A into = go (lacking S c) A.does
      where
        go : (o : Option (List ℕ)) → DoesOrLacks kinds rule_table H o session S c first a → ToldAs S behind v.cat a
        go (Some name) X = subst (ToldAs S behind v.cat) (sym X.1) tt
        go None X =
            let n = into X in
            subst (ToldAs S behind v.cat) (sym n.1) (record { made = n.2.made; is = n.2.is; told = stays-told (told_in (objects (done n.2.made.number.0))) (told_in (objects (behind n.2.made.number.0))) (told-longer (done n.2.made.number.0) (of_category n.2.made.number.0 first)) n.0 n.2.told })

    none-more : AllZip (StandsTold S behind) (values ++ []) S.bound
    none-more = subst (λ vs. AllZip (StandsTold S behind) vs S.bound) (sym (append-nil values)) longer

    arrow-end : (v : Value) (r : RefTok) (end : Arrow MorData → Handle) → value_of values r.name ≡ Some v → (o : Option (Arrow MorData)) → arrow_at S r ≡ o → option_map (object_line end) o ≡ Some a
        → ((f : Arrow MorData) → arrow_at S r ≡ Some f → IsNamed S done v.cat (line.Object (end f))) → (h : Handle) × (a ≡ line.Object h) × IsNamed S done v.cat (line.Object h)
    arrow-end v r end bound None e h named = absurd (none≢some h)
    arrow-end v r end bound (Some f) e h named = (end f, sym (some_inner h), named f e)

    pub agree-next : (scope : Scope) → scope.values ≡ values → (c : Command CheckedObj MorLit) → CommandFits scope c → CommandSide session H S c done first later a → AgreeTold (with_bound S (bound_name c) a) behind (values ++ bound_by values c)
    agree-next scope e (Register cat op weight) fits A = none-more
    agree-next scope e (Finalise cat) fits A = none-more
    agree-next scope e (Plan cat) fits A = none-more
    agree-next scope e (Object cat y lit) fits A = one-more _ y refl (answer-told (Object cat y lit) cat refl A (knows-ends scope e (Object cat y lit) fits) (λ d. d))
    agree-next scope e (Let y cat src tgt lit) fits A = one-more _ y refl (answer-told (Let y cat src tgt lit) cat refl A (knows-ends scope e (Let y cat src tgt lit) fits) (λ d. d))
    agree-next scope e (Call y cat op args) fits A = one-more _ y refl (answer-told (Call y cat op args) cat refl A (knows-ends scope e (Call y cat op args) fits) (λ d. d))
    agree-next scope e (Src y r) fits A =
        let v = fits.morphism.value in
        let bound : value_of values r.name ≡ Some v = ap (λ vs. value_of vs r.name) (sym e) ∙ fits.morphism.bound in
        let t = end-told (Src y r) v A (λ d. arrow-end v r (λ f. f.src) bound (arrow_at S r) refl d.1 (λ f q. (ends-named S done v r.part (answer_of S r.name) f (found S done values r.name v agree bound) q).0)) in
        subst (λ o. AllZip (StandsTold (with_bound S (Some y) a) behind) (values ++ option_to_list (option_map (end_of y) o)) (S.bound ++ bound_to y ∷ [])) (sym bound) (one-more (end_of y v) y refl t)
    agree-next scope e (Tgt y r) fits A =
        let v = fits.morphism.value in
        let bound : value_of values r.name ≡ Some v = ap (λ vs. value_of vs r.name) (sym e) ∙ fits.morphism.bound in
        let t = end-told (Tgt y r) v A (λ d. arrow-end v r (λ f. f.tgt) bound (arrow_at S r) refl d.1 (λ f q. (ends-named S done v r.part (answer_of S r.name) f (found S done values r.name v agree bound) q).1)) in
        subst (λ o. AllZip (StandsTold (with_bound S (Some y) a) behind) (values ++ option_to_list (option_map (end_of y) o)) (S.bound ++ bound_to y ∷ [])) (sym bound) (one-more (end_of y v) y refl t)
