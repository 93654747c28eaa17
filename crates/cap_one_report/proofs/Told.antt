-- What the answers of commands name was told in the histories of their categories.
use Rattle.std.proofs.Common.{◌≡◌, ℕ, zero, suc, ◌+◌, true, false, List, [], ◌∷◌, ◌++◌, Option, Some, None, Ok, Err, length, append_assoc, refl, sym, ap, subst, ◌∙◌, inl, inr, slice_get, arith}
use Rattle.std.specs.Prelude.{IsSome, map}
use Rattle.cap_names.specs.declared.identifiers.Handle.{Handle}
use Rattle.cap_names.specs.declared.identifiers.SessionNo.{SessionNo}
use Rattle.cap_ops.specs.declared.arrows.Arrow.{Arrow}
use Rattle.cap_ops.specs.declared.keys.Arg.{Arg}
use Rattle.cap_ops.specs.declared.keys.PrimOut.{PrimOut}
use Rattle.cap_ops.specs.declared.keys.Key.{Key}
use Rattle.cap_ops.specs.declared.keys.Value.{Value as Answer}
use Rattle.cap_ops.specs.declared.keys.Value.TheVariants as answer
use Rattle.cap_ops.specs.declared.plans.Choice.TheVariants.{Prim, Rule as ByRule, Missing}
use Rattle.cap_ops.specs.Arrows.{ValueOver, between, tuple}
use Rattle.cap_ops.specs.Arrows.{value_of as datum_of}
use Rattle.cap_ops.specs.Primitives.{OfferData, prime_of}
use Rattle.cap_ops.specs.Told.{Tells, told_in}
use Rattle.cap_ops.specs.Values.{morphism, two, four}
use Rattle.cap_ops.proofs.Places.{none≢some, some_inner, get-behind}
use Rattle.cap_terms.specs.declared.body.Rule.{Rule}
use Rattle.cap_run.specs.Plans.{AreRules, rule_at}
use Rattle.cap_board.specs.declared.answers.Asked.{Asked}
use Rattle.cap_board.specs.declared.answers.Asked.TheVariants.{Hit, Miss, NotFinal, Full}
use Rattle.cap_board.specs.declared.answers.PutAnswer.TheVariants.{Entry as PutEntry, Full as PutFull}
use Rattle.cap_board.specs.declared.refusals.CallRefusal.{CallRefusal}
use Rattle.cap_board.specs.Board.{asked, kept}
use Rattle.cap_board.specs.Board.{Event as BoardEvent}
use Rattle.cap_board.specs.Trace.{CallEnd, Tracer, PutTrace, RuleTrace, AfterAsk, TraceWithin}
use Rattle.cap_history.specs.declared.entries.Event.{Event}
use Rattle.cap_history.specs.declared.entries.Event.TheVariants as event
use Rattle.cap_history.specs.declared.entries.Reply.{Reply}
use Rattle.cap_history.specs.declared.entries.Reply.TheVariants as reply
use Rattle.cap_history.specs.declared.entries.Entry.{Entry}
use Rattle.cap_history.specs.Reading.{objects}
use Rattle.cap_legal.specs.Legal.{Frame, Legal}
use Rattle.cap_legal.specs.Good.{TellsValue}
use Rattle.cap_legal.proofs.Histories.{legal-good}
use Rattle.cap_accounts.specs.Commands.{board_event, Recorded, value_line}
use Rattle.cap_report.specs.declared.lines.LineAnswer.{LineAnswer}
use Rattle.cap_report.specs.declared.lines.LineAnswer.TheVariants as line
use Rattle.cap_one_report.proofs.Sides.{key_of, recorded-parts}

is-there : {O : Type 0} (look : Handle → Option O) (h : Handle) (o : O) → look h ≡ Some o → IsSome (look h)
is-there look h o e = subst IsSome (sym e) refl

module _ {O M : Type 0} (look : Handle → Option O) where
  -- the objects that a line names are told
  abbrev pub AreTold : List (Arrow M) → Type 0
  AreTold [] = Unit {0}
  AreTold (f ∷ fs) = IsSome (look f.src) × IsSome (look f.tgt) × AreTold fs

  abbrev pub LineTold : LineAnswer M → Type 0
  LineTold (line.Object h) = IsSome (look h)
  LineTold (line.Morphism f) = AreTold (f ∷ [])
  LineTold (line.Tuple fs) = AreTold fs
  LineTold a = Unit {0}

  arrow-told : (f : Arrow M) (d : ValueOver O M) → Tells look (morphism (between f)) d → AreTold (f ∷ [])
  arrow-told f (morphism g) t = (is-there look f.src g.src t.src, is-there look f.tgt g.tgt t.tgt, tt)
  arrow-told f _ t = absurd t

  tuple-told : (fs : List (Arrow M)) (w : ValueOver Handle M) (d : ValueOver O M) → tuple (map between fs) ≡ Some w → Tells look w d → AreTold fs
  tuple-told [] w d e t = absurd (none≢some e)
  tuple-told (f ∷ []) w d e t = absurd (none≢some e)
  tuple-told (f ∷ g ∷ []) w d e t = go d (subst (λ w. Tells look w d) (sym (some_inner e)) t)
    where
      go : (d : ValueOver O M) → Tells look (two (between f) (between g)) d → AreTold (f ∷ g ∷ [])
      go (two x y) t = (is-there look f.src x.src t.0.src, is-there look f.tgt x.tgt t.0.tgt, (is-there look g.src y.src t.1.src, is-there look g.tgt y.tgt t.1.tgt, tt))
      go _ t = absurd t
  tuple-told (f ∷ g ∷ h ∷ []) w d e t = absurd (none≢some e)
  tuple-told (f ∷ g ∷ h ∷ k ∷ []) w d e t = go d (subst (λ w. Tells look w d) (sym (some_inner e)) t)
    where
      go : (d : ValueOver O M) → Tells look (four (between f) (between g) (between h) (between k)) d → AreTold (f ∷ g ∷ h ∷ k ∷ [])
      go (four x y z u) t = (
        is-there look f.src x.src t.0.src,
        is-there look f.tgt x.tgt t.0.tgt,
        (
          is-there look g.src y.src t.1.src,
          is-there look g.tgt y.tgt t.1.tgt,
          (is-there look h.src z.src t.2.src, is-there look h.tgt z.tgt t.2.tgt, (is-there look k.src u.src t.3.src, is-there look k.tgt u.tgt t.3.tgt, tt)),
        ),
      )
      go _ t = absurd t
  tuple-told (f ∷ g ∷ h ∷ k ∷ m ∷ fs) w d e t = absurd (none≢some e)

  value-told : (v : Answer M) (w : ValueOver Handle M) (d : ValueOver O M) → datum_of v ≡ Some w → Tells look w d → LineTold (value_line v)
  value-told (answer.One f) w d e t = arrow-told f d (subst (λ w. Tells look w d) (sym (some_inner e)) t)
  value-told (answer.Many fs) w d e t = tuple-told fs w d e t
  value-told (answer.Truth b) w d e t = tt
  value-told answer.Nothing w d e t = tt

  pub part-told : (fs : List (Arrow M)) (i : ℕ) (f : Arrow M) → AreTold fs → slice_get fs i ≡ Some f → IsSome (look f.src) × IsSome (look f.tgt)
  part-told [] i f a e = absurd (none≢some e)
  part-told (g ∷ fs) zero f a e = subst (λ f. IsSome (look f.src) × IsSome (look f.tgt)) (some_inner e) (a.0, a.1)
  part-told (g ∷ fs) (suc i) f a e = part-told fs i f a.2 e

-- what is told stays told
module _ {O : Type 0} (look look' : Handle → Option O) (stays : (h : Handle) (o : O) → look h ≡ Some o → look' h ≡ Some o) where
  some-stays : (h : Handle) (o : Option O) → look h ≡ o → IsSome o → IsSome (look' h)
  some-stays h None e is = absurd (let g : false ≡ true = is in cc)
  some-stays h (Some o) e is = subst IsSome (sym (stays h o e)) refl

  pub stays-told : (h : Handle) → IsSome (look h) → IsSome (look' h)
  stays-told h is = some-stays h (look h) refl is

module _ {O M : Type 0} (look look' : Handle → Option O) (stays : (h : Handle) (o : O) → look h ≡ Some o → look' h ≡ Some o) where
  arrows-stay : (fs : List (Arrow M)) → AreTold look fs → AreTold look' fs
  arrows-stay [] a = tt
  arrows-stay (f ∷ fs) a = (stays-told look look' stays f.src a.0, stays-told look look' stays f.tgt a.1, arrows-stay fs a.2)

  pub line-stays : (a : LineAnswer M) → LineTold look a → LineTold look' a
  line-stays (line.Object h) t = stays-told look look' stays h t
  line-stays (line.Morphism f) t = arrows-stay (f ∷ []) t
  line-stays (line.Tuple fs) t = arrows-stay fs t
  line-stays line.Category t = tt
  line-stays (line.Registered op weight) t = tt
  line-stays line.Final t = tt
  line-stays (line.Plan p) t = tt
  line-stays (line.Truth b) t = tt
  line-stays line.Nothing t = tt
  line-stays (line.Refused why) t = tt

module _ {M : Type 0} where
  ok-one : (v w : Answer M) → ◌≡◌ {A = CallEnd M} (Ok v) (Ok w) → v ≡ w
  ok-one v w e = cc

  ok-not : {X : Type 0} (v : Answer M) (e : CallRefusal) → ◌≡◌ {A = CallEnd M} (Ok v) (Err e) → X
  ok-not v e q = absurd cc

  same-key : (key : Key M) (op : ℕ) (args : List (Arg M)) → key.op.0 ≡ op → key.args ≡ args → key ≡ key_of op args
  same-key key op args e f = ap (λ o. key_of o key.args) e ∙ ap (key_of op) f

-- the value of a call is told by one of its entries
module _ {O M : Type 0} where
  pub record ToldBy (es : List (Entry O M)) (key : Key M) (v : Answer M) : Type 0 where
    pub front : List (Entry O M)
    pub told : Entry O M
    pub back : List (Entry O M)
    pub splits : es ≡ front ++ told ∷ back
    pub tells : TellsValue told.event told.reply key v

  told-behind : (front es : List (Entry O M)) (key : Key M) (v : Answer M) → ToldBy es key v → ToldBy (front ++ es) key v
  told-behind front es key v t = record { front = front ++ t.front; told = t.told; back = t.back; splits = ap (λ y. front ++ y) t.splits ∙ sym (append_assoc front t.front (t.told ∷ t.back)); tells = t.tells }

  hit-inner : (op op' : ℕ) (args args' : List (Arg M)) (v w : Answer M) → ◌≡◌ {A = BoardEvent O M} (asked op args (Hit v)) (asked op' args' (Hit w)) → (op ≡ op') × (args ≡ args') × (v ≡ w)
  hit-inner op op' args args' v w e = (cc, cc, cc)

  put-inner : (op op' : ℕ) (args args' : List (Arg M)) (given given' : PrimOut O M) (v w : Answer M) → ◌≡◌ {A = BoardEvent O M} (kept op args given (PutEntry v)) (kept op' args' given' (PutEntry w)) → (op ≡ op') × (args ≡ args') × (v ≡ w)
  put-inner op op' args args' given given' v w e = (cc, cc, cc)

  hit-tells : (ev : Event O M) (re : Reply O M) (op : ℕ) (args : List (Arg M)) (v : Answer M) → board_event ev re ≡ Some (asked op args (Hit v)) → TellsValue ev re (key_of op args) v
  hit-tells (event.Ask key) (reply.Hit t) op args v e = let i = hit-inner key.op.0 op key.args args t.value v (some_inner e) in (same-key key op args i.0 i.1, i.2)
  hit-tells (event.Ask key) (reply.Miss c) op args v e = absurd (let f = some_inner e in cc)
  hit-tells (event.Ask key) reply.NotFinal op args v e = absurd (let f = some_inner e in cc)
  hit-tells (event.Put key out) (reply.Kept t) op args v e = absurd (let f = some_inner e in cc)
  hit-tells (event.Put key out) (reply.Found t) op args v e = absurd (let f = some_inner e in cc)
  hit-tells _ _ op args v e = absurd (none≢some e)

  put-tells : (ev : Event O M) (re : Reply O M) (op : ℕ) (args : List (Arg M)) (given : PrimOut O M) (v : Answer M) → board_event ev re ≡ Some (kept op args given (PutEntry v)) → TellsValue ev re (key_of op args) v
  put-tells (event.Put key out) (reply.Kept t) op args given v e = let i = put-inner key.op.0 op key.args args out given t.value v (some_inner e) in (same-key key op args i.0 i.1, i.2)
  put-tells (event.Put key out) (reply.Found t) op args given v e = let i = put-inner key.op.0 op key.args args out given t.value v (some_inner e) in (same-key key op args i.0 i.1, i.2)
  put-tells (event.Ask key) (reply.Hit t) op args given v e = absurd (let f = some_inner e in cc)
  put-tells (event.Ask key) (reply.Miss c) op args given v e = absurd (let f = some_inner e in cc)
  put-tells (event.Ask key) reply.NotFinal op args given v e = absurd (let f = some_inner e in cc)
  put-tells _ _ op args given v e = absurd (none≢some e)

  module _ (session : SessionNo) (op : ℕ) (args : List (Arg M)) (v : Answer M) where
    put-told : (given : PrimOut O M) (bs : List (BoardEvent O M)) (es : List (Entry O M)) (end : CallEnd M) → Ok v ≡ end → PutTrace op args given bs end → Recorded session bs es → ToldBy es (key_of op args) v
    put-told given bs es end q (PutEntry w, e, f) r = go es (subst (λ y. Recorded session y es) e r)
      where
        go : (es : List (Entry O M)) → Recorded session (kept op args given (PutEntry w) ∷ []) es → ToldBy es (key_of op args) v
        go [] r = absurd r
        go (e ∷ es) r = record { front = []; told = e; back = es; splits = refl; tells = put-tells e.event e.reply op args given v (r.1 ∙ ap (λ y. Some (kept op args given (PutEntry y))) (sym (ok-one v w (q ∙ f)))) }
    put-told given bs es end q (PutFull n k, e, f) r = ok-not v _ (q ∙ f)

    rule-told : (p : ℕ) (T : Tracer O M) (r : Option Rule) (bs : List (BoardEvent O M)) (es : List (Entry O M)) (end : CallEnd M) → Ok v ≡ end → RuleTrace p T r op args bs end → Recorded session bs es → ToldBy es (key_of op args) v
    rule-told p T None bs es end q h r = absurd h
    rule-told p T (Some rule) bs es end q (body, Err e, h, k) r = ok-not v e (q ∙ k.1)
    rule-told p T (Some rule) bs es end q (body, Ok w, h, (given, more, fresh, out, e, put)) r =
        let P = recorded-parts session body more es (subst (λ y. Recorded session y es) e r) in
        let t = told-behind P.0 P.1 (key_of op args) v (put-told given more P.1 end q put P.4) in
        subst (λ y. ToldBy y (key_of op args) v) (sym P.2) t

    module _ (D : OfferData O M) (rules : List Rule) (told : Handle → Option O) where
      after-told : (T : Tracer O M) (a : Asked M) (more : List (BoardEvent O M)) (e : Entry O M) (es : List (Entry O M)) (end : CallEnd M) → Ok v ≡ end → AfterAsk D rules told T op args a more end
          → board_event e.event e.reply ≡ Some (asked op args a) → Recorded session more es → ToldBy (e ∷ es) (key_of op args) v
      after-told T (Hit w) more e es end q h is r = record { front = []; told = e; back = es; splits = refl; tells = hit-tells e.event e.reply op args v (is ∙ ap (λ y. Some (asked op args (Hit y))) (sym (ok-one v w (q ∙ h.1)))) }
      after-told T NotFinal more e es end q h is r = ok-not v _ (q ∙ h.1)
      after-told T (Full n k) more e es end q h is r = ok-not v _ (q ∙ h.1)
      after-told T (Miss Missing) more e es end q h is r = ok-not v _ (q ∙ h.1)
      after-told T (Miss Prim) more e es end q (inl h) is r = ok-not v _ (q ∙ h.4)
      after-told T (Miss Prim) more e es end q (inr h) is r = told-behind (e ∷ []) es (key_of op args) v (put-told h.0 more es end q h.2 r)
      after-told T (Miss (ByRule k)) more e es end q h is r = told-behind (e ∷ []) es (key_of op args) v (rule-told (prime_of D) T (rule_at rules k) more es end q h r)

      refused-not : {X : Type 0} (T : Tracer O M) (a : Asked M) (more : List (BoardEvent O M)) (end : CallEnd M) → Ok v ≡ end → AfterAsk D rules told T op args a more end → Recorded {O = O} session (asked op args a ∷ more) [] → X
      refused-not T (Full n k) more end q h r = ok-not v _ (q ∙ h.1)
      refused-not T (Hit w) [] end q h r = absurd r
      refused-not T (Hit w) (b ∷ more) end q h r = absurd r
      refused-not T (Miss c) [] end q h r = absurd r
      refused-not T (Miss c) (b ∷ more) end q h r = absurd r
      refused-not T NotFinal [] end q h r = absurd r
      refused-not T NotFinal (b ∷ more) end q h r = absurd r

      pub trace-told : (n : ℕ) (bs : List (BoardEvent O M)) (es : List (Entry O M)) (end : CallEnd M) → Ok v ≡ end → TraceWithin D rules told n op args bs end → Recorded session bs es → ToldBy es (key_of op args) v
      trace-told zero bs es end q h r = absurd h
      trace-told (suc n) bs es end q (inl h) r = ok-not v _ (q ∙ h.3)
      trace-told (suc n) bs es end q (inr (fits, a, more, e, after)) r = go es (subst (λ y. Recorded session y es) e r)
        where
          go : (es : List (Entry O M)) → Recorded session (asked op args a ∷ more) es → ToldBy es (key_of op args) v
          go [] r = refused-not (TraceWithin D rules told n) a more end q after r
          go (x ∷ es) r = after-told (TraceWithin D rules told n) a more x es end q after r.1 r.2

  -- and so are the objects that it names, in a legal history
  pub value-line-told : (F : Frame O M) → AreRules F.rules → (done es : List (Entry O M)) (key : Key M) (v : Answer M) → Legal F (done ++ es) → ToldBy es key v → LineTold (told_in (objects (done ++ es))) (value_line v)
  value-line-told F are done es key v l t =
      let whole : done ++ es ≡ (done ++ t.front) ++ (t.told ∷ t.back) = ap (λ y. done ++ y) t.splits ∙ sym (append_assoc done t.front (t.told ∷ t.back)) in
      let there : slice_get (done ++ es) (length (done ++ t.front)) ≡ Some t.told =
      ap (λ y. slice_get y (length (done ++ t.front))) whole ∙ get-behind (done ++ t.front) (t.told ∷ t.back) (length (done ++ t.front)) 0 (plus-none (length (done ++ t.front))) in
      let good = (legal-good F.offer F.rules F.object_cells F.morphism_cells are (done ++ es) l).right (length (done ++ t.front)) key v (record { entry = t.told; is = there; tells = t.tells }) in
      value-told (told_in (objects (done ++ es))) v good.good.value good.good.out good.good.is_value good.good.tells
    where
      plus-none : (n : ℕ) → n ≡ n + 0
      plus-none n = omega arith
