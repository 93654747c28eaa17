-- Asks and puts of a seat let it go on, and so does a want of memory.
use Rattle.std.proofs.Common.{◌≡◌, ℕ, List, [], ◌∷◌, ◌++◌, length, sym, ap, ◌∙◌, refl}
use Rattle.std.specs.List.{filter_map}
use Rattle.std.proofs.lemmas.List.{append-nil}
use Rattle.std.proofs.lemmas.List.Elements.{All-nil, All-cons}
use Rattle.cap_ops.specs.declared.keys.Key.{Key}
use Rattle.cap_ops.specs.declared.keys.PrimOut.{PrimOut}
use Rattle.cap_ops.specs.Primitives.{OfferData}
use Rattle.cap_board.specs.declared.answers.Asked.{Asked}
use Rattle.cap_board.specs.declared.answers.PutAnswer.{PutAnswer}
use Rattle.cap_history.specs.declared.entries.Event.{Event}
use Rattle.cap_history.specs.declared.entries.Event.TheVariants.{Ask, Put}
use Rattle.cap_history.specs.declared.entries.Reply.TheVariants.{Hit, Miss, Kept, Found, NotFinal}
use Rattle.cap_history.specs.declared.entries.Entry.{Entry}
use Rattle.cap_history.specs.Replies.{entry}
use Rattle.cap_desk.specs.Hands.{with_more}
use Rattle.cap_desk.specs.Woven.{IsWoven, AreOthers}
use Rattle.cap_desk.proofs.Handing.{more-none}
use Rattle.cap_seat.specs.declared.tries.Tried.{Tried}
use Rattle.cap_seat.specs.declared.tries.Tried.TheVariants.{Replied, Full as TriedFull}
use Rattle.cap_seat.specs.Events.{try_of, entered, IsCallTry, IsRefusedByFull}
use Rattle.cap_seat.specs.Seats.{Sitting, Tries, Waits, SeatAsks, SeatPuts}
use Rattle.cap_seat.specs.Onward.{GoesOn}

module _ {O M : Type 0} (D : OfferData O M) (object_cells : O → ℕ) (morphism_cells : M → ℕ) (others : List (Entry O M) → Type 0) (are : AreOthers others) {X : Type 0} (s s' : Sitting X O M) where
  tried-woven : (event : Event O M) (a : Tried O M) → Tries D object_cells morphism_cells others s event a s' → IsWoven others s.seen (filter_map entered (try_of s.session event a ∷ [])) s'.seen
  tried-woven event (Replied r) T = (T.steps.between, T.steps.allowed, ([], are.nothing, T.steps.steps.1.is ∙ sym (append-nil (s.seen ++ T.steps.between ++ entry s.session event r ∷ []))))
  tried-woven event (TriedFull n k) T = (T.steps.between, T.steps.allowed, ap (λ l. l.entries) T.steps.steps.3)

  tried-refused : (event : Event O M) (a : Tried O M) → Tries D object_cells morphism_cells others s event a s' → IsRefusedByFull object_cells morphism_cells s'.seen (try_of s.session event a)
  tried-refused event (Replied r) T = tt
  tried-refused event (TriedFull n k) T = record {
    front = s.seen ++ T.steps.between;
    rest = [];
    splits = ap (λ l. l.entries) T.steps.steps.3 ∙ sym (append-nil (s.seen ++ T.steps.between));
    full = T.steps.steps.0;
    count_is = T.steps.steps.1;
    weight_is = T.steps.steps.2;
  }

  tried-hand : (event : Event O M) (a : Tried O M) → Tries D object_cells morphism_cells others s event a s' → s'.hand ≡ with_more s.hand (length (filter_map entered (try_of s.session event a ∷ [])))
  tried-hand event (Replied r) T = ap (λ (x : Sitting X O M). x.hand) T.is
  tried-hand event (TriedFull n k) T = ap (λ (x : Sitting X O M). x.hand) T.is ∙ more-none s.hand

  -- an event that is an ask or a put
  tried-on : (event : Event O M) (a : Tried O M) → IsCallTry s.session (try_of s.session event a) → Tries D object_cells morphism_cells others s event a s' → GoesOn object_cells morphism_cells others s s'
  tried-on event a is T =
      let t = try_of s.session event a in
      record {
        offer = ap (λ (x : Sitting X O M). x.offer) T.is;
        session = ap (λ (x : Sitting X O M). x.session) T.is;
        more = t ∷ [];
        tries = ap (λ (x : Sitting X O M). x.tries) T.is;
        calls = All-cons (IsCallTry s.session) t [] is (All-nil (IsCallTry s.session));
        woven = tried-woven event a T;
        hand = tried-hand event a T;
        refused = All-cons (IsRefusedByFull object_cells morphism_cells s'.seen) t [] (tried-refused event a T) (All-nil (IsRefusedByFull object_cells morphism_cells s'.seen));
      }

  ask-is : (key : Key M) (a : Tried O M) → Tries D object_cells morphism_cells others s (Ask key) a s' → IsCallTry s.session (try_of s.session (Ask key) a)
  ask-is key (Replied (Hit t)) T = record { sessions = refl; is = refl }
  ask-is key (Replied (Miss c)) T = record { sessions = refl; is = refl }
  ask-is key (Replied NotFinal) T = record { sessions = refl; is = refl }
  ask-is key (Replied r) T = absurd T.steps.steps.1.replies
  ask-is key (TriedFull n k) T = record { sessions = tt; is = refl }

  put-is : (key : Key M) (out : PrimOut O M) (a : Tried O M) → Tries D object_cells morphism_cells others s (Put key out) a s' → IsCallTry s.session (try_of s.session (Put key out) a)
  put-is key out (Replied (Kept t)) T = record { sessions = refl; is = refl }
  put-is key out (Replied (Found t)) T = record { sessions = refl; is = refl }
  put-is key out (Replied r) T = absurd T.steps.steps.1.replies
  put-is key out (TriedFull n k) T = record { sessions = tt; is = refl }

  pub asks-on : (key : Key M) (a : Asked M) → SeatAsks D object_cells morphism_cells others s key a s' → GoesOn object_cells morphism_cells others s s'
  asks-on key a A = tried-on (Ask key) A.tried (ask-is key A.tried A.tries) A.tries

  pub puts-on : (key : Key M) (out : PrimOut O M) (a : PutAnswer M) → SeatPuts D object_cells morphism_cells others s key out a s' → GoesOn object_cells morphism_cells others s s'
  puts-on key out a P = tried-on (Put key out) P.tried (put-is key out P.tried P.tries) P.tries

  pub waits-on : Waits others s s' → GoesOn object_cells morphism_cells others s s'
  waits-on W = record {
    offer = ap (λ (x : Sitting X O M). x.offer) W.is;
    session = ap (λ (x : Sitting X O M). x.session) W.is;
    more = [];
    tries = ap (λ (x : Sitting X O M). x.tries) W.is ∙ sym (append-nil s.tries);
    calls = All-nil (IsCallTry s.session);
    woven = (W.sees.between, W.sees.allowed, W.sees.is);
    hand = ap (λ (x : Sitting X O M). x.hand) W.is ∙ more-none s.hand;
    refused = All-nil (IsRefusedByFull object_cells morphism_cells s'.seen);
  }
