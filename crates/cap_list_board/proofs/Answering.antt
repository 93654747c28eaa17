-- The lists' answers are a board's.
use Rattle.std.proofs.Common.{◌≡◌, ℕ, List, [], ◌∷◌, ◌++◌, Result, Ok, Err, length, sym, subst, ◌∙◌, ap, refl, inl, inr}
use Rattle.std.specs.Prelude.{Some, slice_get, IfOk, OnErr}
use Rattle.cap_ops.specs.declared.keys.Key.{Key}
use Rattle.cap_ops.specs.declared.keys.PrimOut.{PrimOut}
use Rattle.cap_ops.specs.declared.keys.Value.{Value as Answer}
use Rattle.cap_ops.specs.Told.{told_in}
use Rattle.cap_ops.specs.Primitives.{OfferData}
use Rattle.cap_ops.proofs.Places.{get-more}
use Rattle.cap_board.specs.declared.answers.Asked.{Asked}
use Rattle.cap_board.specs.declared.answers.Asked.TheVariants.{Hit, Miss, NotFinal, Full}
use Rattle.cap_board.specs.declared.answers.PutAnswer.{PutAnswer}
use Rattle.cap_board.specs.declared.answers.PutAnswer.TheVariants.{Entry as Kept, Full as PutFull}
use Rattle.cap_run.specs.Puts.{Good}
use Rattle.cap_run.proofs.Puts.{put-good}
use Rattle.cap_board.specs.Board.{AskSays, Asks, Puts, MayPut}
use Rattle.cap_settle.specs.Settled.{settled}
use Rattle.cap_settle.proofs.Fitting.{told-more}
use Rattle.cap_list_board.specs.declared.entries.Entry.{Entry}
use Rattle.cap_list_board.specs.declared.entries.Seen.{Seen}
use Rattle.cap_list_board.specs.declared.entries.Seen.TheVariants.{Ask, Put}
use Rattle.cap_list_board.specs.Lists.{Lists, state_of, event_of, IsKept, IsNew}
use Rattle.cap_list_board.specs.Answers.{AskAnswer, ListAsks, HasRoom, HasNoRoom, with_entry, PutAnswers, ListPuts}
use Rattle.cap_list_board.specs.Holds.{Holds}
use Rattle.cap_list_board.specs.Onward.{GoesOn, goes-on-none, goes-on-more}
use Rattle.cap_list_board.proofs.InLists.{map-snoc}
use Rattle.cap_list_board.proofs.Growing.{more-holds, entry-holds}

pub ok-then : {A E : Type 0} (P Q : A → Type 0) (r : Result A E) → IfOk r P → ((a : A) → P a → Q a) → IfOk r Q
ok-then P Q (Ok a) h f = f a h
ok-then P Q (Err e) h f = tt

pub either-way : {A E : Type 0} (P : A → Type 0) (Q R : Type 0) (r : Result A E) → IfOk r P → OnErr r Q → ((a : A) → P a → R) → (Q → R) → R
either-way P Q R (Ok a) h k f g = f a h
either-way P Q R (Err e) h k f g = g k

module _ {X O M : Type 0} (D : OfferData O M) where
  -- what was seen changes nothing that holds
  seen-holds : (s : Lists X O M) (seen : List (Seen O M)) → Holds D s → Holds D (record s { seen = seen })
  seen-holds s seen H = record {
    planned = H.planned;
    handles = H.handles;
    objects = H.objects;
    entries = λ place e is. let G = H.entries place e is in record { p = G.p; planned = G.planned; is = G.is };
    few = H.few;
    once = H.once;
  }

  module _ (s : Lists X O M) (key : Key M) (H : Holds D s) where
    ask-says : (a : Asked M) → AskAnswer s key a → AskSays D s.rules s.plan (told_in s.objects) key.op.0 key.args a
    ask-says (Hit v) A = let G = H.entries A.place (record { key = key; value = v }) A.is in (G.p, G.planned, G.is)
    ask-says (Miss c) A = (A.2.0, record { is = A.2.1; is_plan = H.planned A.2.0 A.2.1 }, A.2.2)
    ask-says NotFinal A = tt
    ask-says (Full entries cells) A = tt

    asks-after : (a : Asked M) → AskAnswer s key a → Asks D (state_of s) (told_in s.objects) key.op.0 key.args a (state_of (record s { seen = s.seen ++ Ask key a ∷ [] })) (told_in s.objects)
    asks-after a A = record {
      grows = record { offer = refl; rules = refl; stays = λ h o e. e; plan = λ p e. e };
      events = map-snoc event_of s.seen (Ask key a);
      says = ask-says a A;
    }

    pub list-asks : (a : Asked M) (s' : Lists X O M) → ListAsks s key a s' → Asks D (state_of s) (told_in s.objects) key.op.0 key.args a (state_of s') (told_in s'.objects)
    list-asks a s' L = subst (λ t. Asks D (state_of s) (told_in s.objects) key.op.0 key.args a (state_of t) (told_in t.objects)) (sym L.added) (asks-after a L.answer)

    pub list-asks-hold : (a : Asked M) (s' : Lists X O M) → ListAsks s key a s' → Holds D s'
    list-asks-hold a s' L = subst (Holds D) (sym L.added) (seen-holds s (s.seen ++ Ask key a ∷ []) H)

    module _ (out : PrimOut O M) (may : MayPut D (state_of s) (told_in s.objects) key.op.0 key.args out) where
      new-good : Good D s.rules may.p (told_in (s.objects ++ out.fresh)) key.op.0 key.args (settled (length s.objects) out.out)
      new-good = put-good D s.rules may.p s.objects key.op.0 key.args out may.is

      with-entry-holds : IsNew s.entries key → HasRoom s out → Holds D (with_entry s key out)
      with-entry-holds new room =
          let more : Lists X O M = record s { objects = s.objects ++ out.fresh } in
          let entry : Entry M = record { key = key; value = settled (length s.objects) out.out } in
          entry-holds D more (more-holds D s H out.fresh room.handles may.is.fresh_objects) entry (record { p = may.p; planned = record { is = may.planned.is; is_plan = may.planned.is_plan }; is = new-good }) new room.entries

      after-holds : (a : PutAnswer M) (t : Lists X O M) → PutAnswers s key out a t → Holds D t
      after-holds (Kept v) t A = elim A [
        | inl k ↦ subst (Holds D) (sym k.1) H
        | inr k ↦ subst (Holds D) (sym k.3) (with-entry-holds k.0 k.1)
      ]
      after-holds (PutFull entries cells) t A = subst (Holds D) (sym A.3) H

      -- the board after a put is the lists after it, whose seen ones have one more
      PutsTo : PutAnswer M → Lists X O M → Type 0
      PutsTo a t = Puts D (state_of s) (told_in s.objects) key.op.0 key.args out a (state_of (record t { seen = s.seen ++ Put key out a ∷ [] })) (told_in t.objects)

      kept-puts : (v : Answer M) → IsKept s.entries key v → PutsTo (Kept v) s
      unfolding PutsTo
      kept-puts v A = record {
        grows = record { offer = refl; rules = refl; stays = λ h o e. e; plan = λ p e. e };
        events = map-snoc event_of s.seen (Put key out (Kept v));
        says = let G = H.entries A.place (record { key = key; value = v }) A.is in (G.p, G.planned, G.is);
      }

      full-puts : (entries cells : ℕ) → PutsTo (PutFull entries cells) s
      unfolding PutsTo
      full-puts entries cells = record {
        grows = record { offer = refl; rules = refl; stays = λ h o e. e; plan = λ p e. e };
        events = map-snoc event_of s.seen (Put key out (PutFull entries cells));
        says = tt;
      }

      new-puts : (v : Answer M) → v ≡ settled (length s.objects) out.out → PutsTo (Kept v) (with_entry s key out)
      unfolding PutsTo
      new-puts v e = record {
        grows = record { offer = refl; rules = refl; stays = told-more s.objects out.fresh; plan = λ p e. e };
        events = map-snoc event_of s.seen (Put key out (Kept v));
        says = (may.p, record { is = may.planned.is; is_plan = may.planned.is_plan }, subst (Good D s.rules may.p (told_in (s.objects ++ out.fresh)) key.op.0 key.args) (sym e) new-good);
      }

      puts-after : (a : PutAnswer M) (t : Lists X O M) → PutAnswers s key out a t → PutsTo a t
      puts-after (Kept v) t A = elim A [
        | inl k ↦ subst (PutsTo (Kept v)) (sym k.1) (kept-puts v k.0)
        | inr k ↦ subst (PutsTo (Kept v)) (sym k.3) (new-puts v k.2)
      ]
      puts-after (PutFull entries cells) t A = subst (PutsTo (PutFull entries cells)) (sym A.3) (full-puts entries cells)

      pub list-puts : (a : PutAnswer M) (s' : Lists X O M) → ListPuts s key out a s' → Puts D (state_of s) (told_in s.objects) key.op.0 key.args out a (state_of s') (told_in s'.objects)
      unfolding PutsTo
      list-puts a s' L = subst (λ t. Puts D (state_of s) (told_in s.objects) key.op.0 key.args out a (state_of t) (told_in t.objects)) (sym L.added) (puts-after a L.after L.answer)

      pub list-puts-hold : (a : PutAnswer M) (s' : Lists X O M) → ListPuts s key out a s' → Holds D s'
      list-puts-hold a s' L = subst (Holds D) (sym L.added) (seen-holds L.after (s.seen ++ Put key out a ∷ []) (after-holds a L.after L.answer))

-- the lists go on
module _ {X O M : Type 0} (s : Lists X O M) (key : Key M) where
  seen-onward : (t : Lists X O M) (one : Seen O M) → t.seen ≡ s.seen → GoesOn t (record t { seen = s.seen ++ one ∷ [] })
  seen-onward t one same = record { limit = refl; objects = λ i x e. e; entries = λ i x e. e; seen = λ i x e. get-more s.seen (one ∷ []) i x (subst (λ xs. slice_get xs i ≡ Some x) same e) }

  pub asks-onward : (a : Asked M) (s' : Lists X O M) → ListAsks s key a s' → GoesOn s s'
  asks-onward a s' L = subst (GoesOn s) (sym L.added) (seen-onward s (Ask key a) refl)

  entry-onward : (out : PrimOut O M) → GoesOn s (with_entry s key out)
  entry-onward out = record { limit = refl; objects = λ i x e. get-more s.objects out.fresh i x e; entries = λ i x e. get-more s.entries (record { key = key; value = settled (length s.objects) out.out } ∷ []) i x e; seen = λ i x e. e }

  after-onward : (out : PrimOut O M) (a : PutAnswer M) (t : Lists X O M) → PutAnswers s key out a t → GoesOn s t
  after-onward out (Kept v) t A = elim A [ inl k ↦ subst (GoesOn s) (sym k.1) (goes-on-none s) | inr k ↦ subst (GoesOn s) (sym k.3) (entry-onward out) ]
  after-onward out (PutFull entries cells) t A = subst (GoesOn s) (sym A.3) (goes-on-none s)

  after-seen : (out : PrimOut O M) (a : PutAnswer M) (t : Lists X O M) → PutAnswers s key out a t → t.seen ≡ s.seen
  after-seen out (Kept v) t A = elim A [ inl k ↦ ap (λ x. x.seen) k.1 | inr k ↦ ap (λ x. x.seen) k.3 ]
  after-seen out (PutFull entries cells) t A = ap (λ x. x.seen) A.3

  pub puts-onward : (out : PrimOut O M) (a : PutAnswer M) (s' : Lists X O M) → ListPuts s key out a s' → GoesOn s s'
  puts-onward out a s' L = subst (GoesOn s) (sym L.added) (goes-on-more s L.after (record L.after { seen = s.seen ++ Put key out a ∷ [] }) (after-onward out a L.after L.answer) (seen-onward L.after (Put key out a) (after-seen out a L.after L.answer)))

  pub same-onward : (s' : Lists X O M) → s' ≡ s → GoesOn s s'
  same-onward s' e = subst (GoesOn s) (sym e) (goes-on-none s)

-- the offer stays
module _ {X O M : Type 0} (s : Lists X O M) (key : Key M) where
  pub asks-offer : (a : Asked M) (s' : Lists X O M) → ListAsks s key a s' → s'.offer ≡ s.offer
  asks-offer a s' L = ap (λ t. t.offer) L.added

  after-offer : (out : PrimOut O M) (a : PutAnswer M) (t : Lists X O M) → PutAnswers s key out a t → t.offer ≡ s.offer
  after-offer out (Kept v) t A = elim A [ inl k ↦ ap (λ x. x.offer) k.1 | inr k ↦ ap (λ x. x.offer) k.3 ]
  after-offer out (PutFull entries cells) t A = ap (λ x. x.offer) A.3

  pub puts-offer : (out : PrimOut O M) (a : PutAnswer M) (s' : Lists X O M) → ListPuts s key out a s' → s'.offer ≡ s.offer
  puts-offer out a s' L = ap (λ x. x.offer) L.added ∙ after-offer out a L.after L.answer

-- what the list answers to a put
module _ {X O M : Type 0} (s : Lists X O M) (key : Key M) (out : PrimOut O M) (s' : Lists X O M) where
  pub found-answers : (v w : Answer M) → IsKept s.entries key v → w ≡ v → s' ≡ record s { seen = s.seen ++ Put key out (Kept w) ∷ [] } → ListPuts s key out (Kept v) s'
  found-answers v w is same added = record { after = s; answer = inl (is, refl); added = subst (λ x. s' ≡ record s { seen = s.seen ++ Put key out (Kept x) ∷ [] }) same added }

  pub new-answers : (a : PutAnswer M) → IsNew s.entries key → HasRoom s out → a ≡ Kept (settled (length s.objects) out.out) → s' ≡ record (with_entry s key out) { seen = s.seen ++ Put key out a ∷ [] } → ListPuts s key out a s'
  new-answers a new room is added = record { after = with_entry s key out; answer = subst (λ x. PutAnswers s key out x (with_entry s key out)) (sym is) (inr (new, room, refl, refl)); added = added }

  pub full-answers : (entries : ℕ) → IsNew s.entries key → HasNoRoom s out → entries ≡ length s.entries → s' ≡ record s { seen = s.seen ++ Put key out (PutFull entries 0) ∷ [] } → ListPuts s key out (PutFull entries 0) s'
  full-answers entries new room is added = record { after = s; answer = (new, room, is, refl, refl); added = added }
