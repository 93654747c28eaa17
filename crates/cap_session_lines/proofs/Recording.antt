-- The entries of what a seat tried record the events of its board, and where a history was full it is whole.
use Rattle.std.proofs.Common.{◌≡◌, ℕ, zero, suc, arith, true, false, List, [], ◌∷◌, ◌++◌, Option, Some, None, Err, length, sym, subst, ap, ◌∙◌, refl, append_assoc}
use Rattle.std.specs.Prelude.{IsSome}
use Rattle.std.specs.List.{All, Contains, filter_map, cons_option}
use Rattle.std.proofs.lemmas.List.{append-nil}
use Rattle.std.proofs.lemmas.List.Elements.{All-head, All-tail, All-contains, Contains-push, Contains-append_right}
use Rattle.cap_names.specs.declared.identifiers.SessionNo.{SessionNo}
use Rattle.cap_ops.proofs.Places.{none≢some, some_inner}
use Rattle.cap_board.specs.declared.answers.Asked.TheVariants as asks
use Rattle.cap_board.specs.declared.answers.PutAnswer.TheVariants as puts
use Rattle.cap_board.specs.declared.refusals.CallRefusal.TheVariants.{Full as FullRefusal}
use Rattle.cap_board.specs.Board.{asked, kept}
use Rattle.cap_board.specs.Board.{Event as BoardEvent}
use Rattle.cap_board.specs.Trace.{CallEnd}
use Rattle.cap_history.specs.declared.entries.Event.{Event}
use Rattle.cap_history.specs.declared.entries.Event.TheVariants.{Ask, Put}
use Rattle.cap_history.specs.declared.entries.Reply.{Reply}
use Rattle.cap_history.specs.declared.entries.Reply.TheVariants.{Hit, Miss, Kept, Found, NotFinal}
use Rattle.cap_history.specs.declared.entries.Entry.{Entry}
use Rattle.cap_history.specs.Reading.{cells}
use Rattle.cap_history.specs.Replies.{IsFull}
use Rattle.cap_legal.specs.Legal.{Frame, Legal}
use Rattle.cap_legal.proofs.Longer.{full-whole}
use Rattle.cap_accounts.specs.Commands as accounts
use Rattle.cap_accounts.specs.Commands.{IsRefusedEvent, Recorded}
use Rattle.cap_seat.specs.declared.tries.Try.{Try}
use Rattle.cap_seat.specs.declared.tries.Try.TheVariants.{Entered, Full}
use Rattle.cap_seat.specs.Events.{board_event, full_event, try_event, entered, IsCallTry, HasFullFront, IsRefusedByFull}
use Rattle.cap_session_lines.proofs.Refused.{IsFullEvent, IsClean, AreClean, FullLast, Ends}

module _ {O M : Type 0} where
  -- the events that entries are read as
  same-event : (e : Event O M) (r : Reply O M) → board_event e r ≡ accounts.board_event e r
  same-event (Ask key) (Hit t) = refl
  same-event (Ask key) (Miss c) = refl
  same-event (Ask key) NotFinal = refl
  same-event (Put key out) (Kept t) = refl
  same-event (Put key out) (Found t) = refl
  same-event _ _ = refl

  -- only the last event can be a refused one
  abbrev RefusedLast : List (BoardEvent O M) → Type 0
  RefusedLast [] = Unit {0}
  RefusedLast (b ∷ bs) = (IsRefusedEvent b → bs ≡ []) × RefusedLast bs

  refused-full : (b : BoardEvent O M) → IsRefusedEvent b → IsClean b → ⊥
  refused-full (asked op args (asks.Full n k)) r c = c n k (refl, refl)
  refused-full (kept op args out (puts.Full n k)) r c = c n k (refl, refl)
  refused-full (asked op args _) r c = absurd r
  refused-full (kept op args out _) r c = absurd r

  clean-last : (bs : List (BoardEvent O M)) → AreClean bs → RefusedLast bs
  clean-last [] c = tt
  clean-last (b ∷ bs) c = ((λ r. absurd (refused-full b r c.0)), clean-last bs c.1)

  front-last : (front : List (BoardEvent O M)) (b : BoardEvent O M) → AreClean front → RefusedLast (front ++ b ∷ [])
  front-last [] b c = ((λ r. refl), tt)
  front-last (x ∷ front) b c = ((λ r. absurd (refused-full x r c.0)), front-last front b c.1)

  pub ends-last : (bs : List (BoardEvent O M)) (end : CallEnd M) → Ends bs end → RefusedLast bs
  ends-last bs (Err (FullRefusal n k)) e = subst RefusedLast (sym e.splits) (front-last e.front e.last e.clean)
  ends-last bs _ e = clean-last bs e

  some-there : (o : Option (BoardEvent O M)) (bs : List (BoardEvent O M)) → IsSome o → cons_option o bs ≡ [] → ⊥
  some-there (Some b) bs is f = absurd cc
  some-there None bs is f = let g : false ≡ true = is in absurd cc

  none-tried : (session : SessionNo) (ts : List (Try O M)) → All (IsCallTry session) ts → filter_map try_event ts ≡ [] → ts ≡ []
  none-tried session [] are e = refl
  none-tried session (t ∷ ts) are e = absurd (some-there (try_event t) (filter_map try_event ts) (All-head (IsCallTry session) t ts are).is e)

  recorded-first : (session : SessionNo) (e : Entry O M) (o : Option (BoardEvent O M)) (bs : List (BoardEvent O M)) (es : List (Entry O M)) → e.session ≡ session → accounts.board_event e.event e.reply ≡ o → IsSome o → RefusedLast (cons_option o bs) → (RefusedLast bs → Recorded session bs es) → Recorded session (cons_option o bs) (e ∷ es)
  recorded-first session e (Some b) bs es own is some last rest = (own, is, rest last.1)
  recorded-first session e None bs es own is some last rest = let g : false ≡ true = some in absurd cc

  recorded-full : (session : SessionNo) (event : Event O M) (n k : ℕ) (ts : List (Try O M)) → All (IsCallTry session) ts → IsSome (full_event event n k) → RefusedLast (cons_option (full_event event n k) (filter_map try_event ts)) → Recorded session (cons_option (full_event event n k) (filter_map try_event ts)) (filter_map entered ts)
  recorded-full session (Ask key) n k ts are some last = let none : ts ≡ [] = none-tried session ts are (last.0 tt) in subst (λ xs. Recorded session (asked key.op.0 key.args (asks.Full n k) ∷ filter_map try_event xs) (filter_map entered xs)) (sym none) tt
  recorded-full session (Put key out) n k ts are some last = let none : ts ≡ [] = none-tried session ts are (last.0 tt) in subst (λ xs. Recorded session (kept key.op.0 key.args out (puts.Full n k) ∷ filter_map try_event xs) (filter_map entered xs)) (sym none) tt
  recorded-full session _ n k ts are some last = let g : false ≡ true = some in absurd cc

  -- what was tried in a call is recorded by its entries
  pub recorded : (session : SessionNo) (ts : List (Try O M)) → All (IsCallTry session) ts → RefusedLast (filter_map try_event ts) → Recorded session (filter_map try_event ts) (filter_map entered ts)
  recorded session [] are last = tt
  recorded session (Entered e ∷ ts) are last =
      let first = All-head (IsCallTry session) (Entered e) ts are in
      recorded-first session e (board_event e.event e.reply) (filter_map try_event ts) (filter_map entered ts) first.sessions (sym (same-event e.event e.reply)) first.is last (recorded session ts (All-tail (IsCallTry session) (Entered e) ts are))
  recorded session (Full event n k ∷ ts) are last = recorded-full session event n k ts (All-tail (IsCallTry session) (Full event n k) ts are) (All-head (IsCallTry session) (Full event n k) ts are).is last

  -- the try of an event
  tried-option : (o : Option (BoardEvent O M)) (t : Try O M) (ts : List (Try O M)) (b : BoardEvent O M) → try_event t ≡ o → Contains (cons_option o (filter_map try_event ts)) b → (Contains (filter_map try_event ts) b → (x : Try O M) × Contains ts x × (try_event x ≡ Some b)) → (x : Try O M) × Contains (t ∷ ts) x × (try_event x ≡ Some b)
  tried-option None t ts b is c later = let x = later c in (x.0, Contains-append_right (t ∷ []) ts x.0 x.1, x.2)
  tried-option (Some a) t ts b is (zero, l, e) later = (t, (0, omega arith, refl), is ∙ ap Some e)
  tried-option (Some a) t ts b is (suc n, l, e) later = let x = later (n, omega (arith, l), e) in (x.0, Contains-append_right (t ∷ []) ts x.0 x.1, x.2)

  tried-there : (ts : List (Try O M)) (b : BoardEvent O M) → Contains (filter_map try_event ts) b → (x : Try O M) × Contains ts x × (try_event x ≡ Some b)
  tried-there [] b c = absurd (omega (arith, c.1))
  tried-there (t ∷ ts) b c = tried-option (try_event t) t ts b refl c (tried-there ts b)

  no-full-entry : (e : Event O M) (r : Reply O M) (b : BoardEvent O M) (n k : ℕ) → board_event e r ≡ Some b → IsFullEvent b n k → ⊥
  no-full-entry (Ask key) (Hit t) b n k is full = subst (λ x. IsFullEvent x n k) (sym (some_inner is)) full
  no-full-entry (Ask key) (Miss c) b n k is full = subst (λ x. IsFullEvent x n k) (sym (some_inner is)) full
  no-full-entry (Ask key) NotFinal b n k is full = subst (λ x. IsFullEvent x n k) (sym (some_inner is)) full
  no-full-entry (Put key out) (Kept t) b n k is full = subst (λ x. IsFullEvent x n k) (sym (some_inner is)) full
  no-full-entry (Put key out) (Found t) b n k is full = subst (λ x. IsFullEvent x n k) (sym (some_inner is)) full
  no-full-entry _ _ b n k is full = absurd (none≢some is)

  module _ (object_cells : O → ℕ) (morphism_cells : M → ℕ) (seen : List (Entry O M)) where
    abbrev Front : ℕ → ℕ → Type 0
    Front n k = HasFullFront object_cells morphism_cells seen n k

    front-as : (m j n k : ℕ) → (m ≡ n) × (j ≡ k) → Front m j → Front n k
    front-as m j n k e f = subst (λ x. Front x k) e.0 (subst (λ y. Front m y) e.1 f)

    full-front : (event : Event O M) (m j n k : ℕ) (b : BoardEvent O M) → full_event event m j ≡ Some b → IsFullEvent b n k → Front m j → Front n k
    full-front (Ask key) m j n k b is full f = front-as m j n k (subst (λ x. IsFullEvent x n k) (sym (some_inner is)) full) f
    full-front (Put key out) m j n k b is full f = front-as m j n k (subst (λ x. IsFullEvent x n k) (sym (some_inner is)) full) f
    full-front _ m j n k b is full f = absurd (none≢some is)

    try-front : (t : Try O M) (b : BoardEvent O M) (n k : ℕ) → try_event t ≡ Some b → IsFullEvent b n k → IsRefusedByFull object_cells morphism_cells seen t → Front n k
    try-front (Entered e) b n k is full r = absurd (no-full-entry e.event e.reply b n k is full)
    try-front (Full event m j) b n k is full r = full-front event m j n k b is full r

    -- a call that a full history refused was refused by a front of what was seen
    pub refused-front : (ts : List (Try O M)) (n k : ℕ) → All (IsRefusedByFull object_cells morphism_cells seen) ts → FullLast (filter_map try_event ts) n k → Front n k
    refused-front ts n k are e =
        let there = tried-there ts e.last (subst (λ bs. Contains bs e.last) (sym e.splits) (Contains-push e.front e.last)) in
        try-front there.0 e.last n k there.2 e.full (All-contains (IsRefusedByFull object_cells morphism_cells seen) ts there.0 are there.1)

-- a category's whole history is the front that was full
pub record IsWhole {O M : Type 0} (object_cells : O → ℕ) (morphism_cells : M → ℕ) (whole : List (Entry O M)) (n k : ℕ) : Type 0 where
  pub full : IsFull object_cells morphism_cells whole
  pub count_is : n ≡ length whole
  pub weight_is : k ≡ cells object_cells morphism_cells whole

back-none : {A : Type 0} (xs ys : List A) → xs ++ ys ≡ [] → ys ≡ []
back-none [] ys e = e
back-none (x ∷ xs) ys e = absurd cc

-- what is behind a full front is nothing, and its numbers are those of the whole
pub whole-front : {O M : Type 0} (F : Frame O M) (seen later : List (Entry O M)) (n k : ℕ) → Legal F (seen ++ later) → HasFullFront F.object_cells F.morphism_cells seen n k → (later ≡ []) × IsWhole F.object_cells F.morphism_cells (seen ++ later) n k
whole-front F seen later n k legal f =
    let split : seen ++ later ≡ f.front ++ (f.rest ++ later) = ap (λ es. es ++ later) f.splits ∙ append_assoc f.front f.rest later in
    let none : f.rest ++ later ≡ [] = full-whole F f.front (f.rest ++ later) (subst (Legal F) split legal) f.full in
    let same : seen ++ later ≡ f.front = split ∙ (ap (λ es. f.front ++ es) none ∙ append-nil f.front) in
    (back-none f.rest later none, subst (λ es. IsWhole F.object_cells F.morphism_cells es n k) (sym same) (record { full = f.full; count_is = f.count_is; weight_is = f.weight_is }))
