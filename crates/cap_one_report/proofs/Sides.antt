-- A walk through a legal history: what stands before it, the entries that some asks and puts made, and what comes later.
use Rattle.std.proofs.Common.{◌≡◌, ℕ, List, [], ◌∷◌, ◌++◌, Option, Some, Ok, Err, append_assoc, refl, sym, ap, subst, ◌∙◌}
use Rattle.std.specs.Prelude.{Result}
use Rattle.cap_names.specs.declared.identifiers.Handle.{Handle}
use Rattle.cap_names.specs.declared.identifiers.SessionNo.{SessionNo}
use Rattle.cap_ops.specs.declared.keys.Arg.{Arg}
use Rattle.cap_ops.specs.declared.keys.Key.{Key}
use Rattle.cap_ops.specs.declared.keys.PrimOut.{PrimOut}
use Rattle.cap_ops.specs.Told.{StaysTold, told_in}
use Rattle.cap_ops.proofs.Places.{none≢some, some_inner}
use Rattle.cap_board.specs.declared.answers.Asked.{Asked}
use Rattle.cap_board.specs.declared.answers.PutAnswer.{PutAnswer}
use Rattle.cap_board.specs.declared.refusals.CallRefusal.{CallRefusal}
use Rattle.cap_board.specs.declared.refusals.CallRefusal.TheVariants.{TooLarge, Full}
use Rattle.cap_board.specs.Board.{asked, kept}
use Rattle.cap_board.specs.Board.{Event as BoardEvent}
use Rattle.cap_board.specs.Trace.{too_large}
use Rattle.cap_history.specs.declared.entries.Event.{Event}
use Rattle.cap_history.specs.declared.entries.Event.TheVariants.{Ask, Put}
use Rattle.cap_history.specs.declared.entries.Reply.{Reply}
use Rattle.cap_history.specs.declared.entries.Reply.TheVariants.{Hit, Miss, Kept, Found, NotFinal}
use Rattle.cap_history.specs.declared.entries.Entry.{Entry}
use Rattle.cap_history.specs.Reading.{objects}
use Rattle.cap_history.specs.Replies.{IsFull}
use Rattle.cap_legal.specs.Legal.{Frame, Legal}
use Rattle.cap_accounts.specs.Commands.{board_event, IsRefusedEvent, Recorded}

-- a refusal without the size of what is too large, and without the numbers of a full history
abbrev pub bare_refusal : CallRefusal → CallRefusal
bare_refusal (TooLarge t) = TooLarge (too_large 0 0)
bare_refusal (Full n k) = Full 0 0
bare_refusal e = e

abbrev pub bare : {A : Type 0} → Result A CallRefusal → Result A CallRefusal
bare (Ok a) = Ok a
bare (Err e) = Err (bare_refusal e)

module _ {M : Type 0} where
  abbrev pub key_of : ℕ → List (Arg M) → Key M
  key_of op args = record { op = record { 0 = op }; args = args }

  same-key : (key : Key M) (op : ℕ) (args : List (Arg M)) → key.op.0 ≡ op → key.args ≡ args → key ≡ key_of op args
  same-key key op args e f = ap (λ o. key_of o key.args) e ∙ ap (key_of op) f

module _ {O M : Type 0} where
  asked-key : (key : Key M) (op : ℕ) (args : List (Arg M)) (a b : Asked M) → ◌≡◌ {A = BoardEvent O M} (asked key.op.0 key.args b) (asked op args a) → ◌≡◌ {A = Event O M} (Ask key) (Ask (key_of op args))
  asked-key key op args a b e = let f : key.op.0 ≡ op = cc in let g : key.args ≡ args = cc in ap Ask (same-key key op args f g)

  kept-key : (key : Key M) (given out : PrimOut O M) (op : ℕ) (args : List (Arg M)) (a b : PutAnswer M) → ◌≡◌ {A = BoardEvent O M} (kept key.op.0 key.args out b) (kept op args given a) → ◌≡◌ {A = Event O M} (Put key out) (Put (key_of op args) given)
  kept-key key given out op args a b e =
      let f : key.op.0 ≡ op = cc in
      let g : key.args ≡ args = cc in
      let h : out ≡ given = cc in
      ap (λ k. Put k out) (same-key key op args f g) ∙ ap (Put (key_of op args)) h

  not-asked : (op : ℕ) (args : List (Arg M)) (out : PrimOut O M) (b : PutAnswer M) (op' : ℕ) (args' : List (Arg M)) (a : Asked M) → ◌≡◌ {A = BoardEvent O M} (kept op args out b) (asked op' args' a) → ⊥
  not-asked op args out b op' args' a e = cc

  -- the event of an entry that is an ask, or a put
  pub asked-event : (ev : Event O M) (re : Reply O M) (op : ℕ) (args : List (Arg M)) (a : Asked M) → board_event ev re ≡ Some (asked op args a) → ev ≡ Ask (key_of op args)
  asked-event (Ask key) (Hit t) op args a e = asked-key key op args a _ (some_inner e)
  asked-event (Ask key) (Miss c) op args a e = asked-key key op args a _ (some_inner e)
  asked-event (Ask key) NotFinal op args a e = asked-key key op args a _ (some_inner e)
  asked-event (Put key out) (Kept t) op args a e = absurd (not-asked _ _ _ _ op args a (some_inner e))
  asked-event (Put key out) (Found t) op args a e = absurd (not-asked _ _ _ _ op args a (some_inner e))
  asked-event _ _ op args a e = absurd (none≢some e)

  pub kept-event : (ev : Event O M) (re : Reply O M) (op : ℕ) (args : List (Arg M)) (given : PrimOut O M) (a : PutAnswer M) → board_event ev re ≡ Some (kept op args given a) → ev ≡ Put (key_of op args) given
  kept-event (Ask key) (Hit t) op args given a e = absurd (not-asked op args given a _ _ _ (sym (some_inner e)))
  kept-event (Ask key) (Miss c) op args given a e = absurd (not-asked op args given a _ _ _ (sym (some_inner e)))
  kept-event (Ask key) NotFinal op args given a e = absurd (not-asked op args given a _ _ _ (sym (some_inner e)))
  kept-event (Put key out) (Kept t) op args given a e = kept-key key given out op args a _ (some_inner e)
  kept-event (Put key out) (Found t) op args given a e = kept-key key given out op args a _ (some_inner e)
  kept-event _ _ op args given a e = absurd (none≢some e)

  -- entries of asks and puts, in two parts
  pub recorded-parts : (s : SessionNo) (first more : List (BoardEvent O M)) (es : List (Entry O M)) → Recorded s (first ++ more) es → (front : List (Entry O M)) × (back : List (Entry O M)) × (es ≡ front ++ back) × Recorded s first front × Recorded s more back
  recorded-parts s [] more es r = ([], es, refl, tt, r)
  recorded-parts s (b ∷ first) more (e ∷ es) r = let p = recorded-parts s first more es r.2 in (e ∷ p.0, p.1, ap (λ x. e ∷ x) p.2, (r.0, r.1, p.3), p.4)
  recorded-parts s (b ∷ []) [] [] r = ([], [], refl, r, tt)
  recorded-parts s (b ∷ []) (c ∷ more) [] r = absurd r
  recorded-parts s (b ∷ c ∷ first) more [] r = absurd r

  none-recorded : (s : SessionNo) (es : List (Entry O M)) → Recorded s [] es → es ≡ []
  none-recorded s [] r = refl
  none-recorded s (e ∷ es) r = absurd r

  pub no-entry : (s : SessionNo) (bs : List (BoardEvent O M)) (es : List (Entry O M)) → bs ≡ [] → Recorded s bs es → es ≡ []
  no-entry s bs es e r = none-recorded s es (subst (λ x. Recorded s x es) e r)

  -- where no entry is made, the one event was refused
  pub refused : (s : SessionNo) (b : BoardEvent O M) (bs : List (BoardEvent O M)) → Recorded s (b ∷ bs) [] → IsRefusedEvent b
  refused s b [] r = r
  refused s b (c ∷ bs) r = absurd r

module _ {O M : Type 0} (F : Frame O M) (session : SessionNo) where
  -- an end by which a history is full comes where it is
  abbrev pub FullAt : {A : Type 0} → List (Entry O M) → Result A CallRefusal → Type 0
  FullAt es (Err (Full n k)) = IsFull F.object_cells F.morphism_cells es
  FullAt es end = Unit {0}

  -- asks and puts whose entries stand in a legal history behind these, and what then comes of them
  pub record Side {A : Type 0} (told : Handle → Option O) (before : List (Entry O M)) (bs : List (BoardEvent O M)) (es later : List (Entry O M)) (end : Result A CallRefusal) : Type 0 where
    pub legal : Legal F (before ++ (es ++ later))
    pub stays : StaysTold (told_in (objects (before ++ (es ++ later)))) told
    pub recorded : Recorded session bs es
    pub full : FullAt (before ++ es) end

  -- the first of two parts, where its own end is known
  pub first-side : {A B : Type 0} (told : Handle → Option O) (before : List (Entry O M)) (bs first : List (BoardEvent O M)) (es front back later : List (Entry O M)) (end : Result A CallRefusal) (w : Result B CallRefusal)
      → Side told before bs es later end → es ≡ front ++ back → Recorded session first front → FullAt (before ++ front) w → Side told before first front (back ++ later) w
  first-side told before bs first es front back later end w S e r f =
      let whole : before ++ (es ++ later) ≡ before ++ (front ++ (back ++ later)) = ap (λ x. before ++ (x ++ later)) e ∙ ap (λ x. before ++ x) (append_assoc front back later) in
      record {
        legal = subst (Legal F) whole S.legal;
        stays = subst (λ x. StaysTold (told_in (objects x)) told) whole S.stays;
        recorded = r;
        full = f;
      }

  -- the second, behind the first
  pub second-side : {A : Type 0} (told : Handle → Option O) (before : List (Entry O M)) (bs more : List (BoardEvent O M)) (es front back later : List (Entry O M)) (end : Result A CallRefusal)
      → Side told before bs es later end → es ≡ front ++ back → Recorded session more back → Side told (before ++ front) more back later end
  second-side told before bs more es front back later end S e r =
      let whole : before ++ (es ++ later) ≡ (before ++ front) ++ (back ++ later) =
      ap (λ x. before ++ (x ++ later)) e ∙ ap (λ x. before ++ x) (append_assoc front back later) ∙ sym (append_assoc before front (back ++ later)) in
      let own : before ++ es ≡ (before ++ front) ++ back = ap (λ x. before ++ x) e ∙ sym (append_assoc before front back) in
      record {
        legal = subst (Legal F) whole S.legal;
        stays = subst (λ x. StaysTold (told_in (objects x)) told) whole S.stays;
        recorded = r;
        full = subst (λ x. FullAt x end) own S.full;
      }
