-- What a seat's calls ensure, whether they answer or want memory.
use Rattle.std.proofs.Common.{◌≡◌, ℕ, true, List, Result, Ok, Err, sym, subst, ap}
use Rattle.std.specs.Prelude.{IfOk, OnErr}
use Rattle.cap_names.specs.declared.faults.NoMemory.{NoMemory}
use Rattle.cap_ops.specs.declared.keys.Key.{Key}
use Rattle.cap_ops.specs.declared.keys.PrimOut.{PrimOut}
use Rattle.cap_ops.specs.Arrows.{arguments}
use Rattle.cap_ops.specs.Primitives.{OfferData}
use Rattle.cap_ops.specs.Told.{Known}
use Rattle.cap_board.specs.declared.answers.Asked.{Asked}
use Rattle.cap_board.specs.declared.answers.PutAnswer.{PutAnswer}
use Rattle.cap_board.specs.Board.{Asks, Puts}
use Rattle.cap_history.specs.declared.entries.Event.{Event}
use Rattle.cap_history.specs.declared.entries.Event.TheVariants.{Ask, Put}
use Rattle.cap_history.specs.declared.entries.Entry.{Entry}
use Rattle.cap_legal.specs.Legal.{Legal}
use Rattle.cap_desk.specs.Books.{frame}
use Rattle.cap_desk.specs.Woven.{AreOthers}
use Rattle.cap_seat.specs.declared.tries.Tried.{Tried}
use Rattle.cap_seat.specs.Seats.{Sitting, told_at, state_of, Holds, Tries, Waits, SeatAsks, SeatPuts}
use Rattle.cap_seat.specs.Onward.{GoesOn}
use Rattle.cap_seat.proofs.Holding.{tries-hold, waits-hold}
use Rattle.cap_seat.proofs.Answering.{seat-asks, seat-puts, waits-same}
use Rattle.cap_seat.proofs.GoingOn.{asks-on, puts-on, waits-on}

module _ {X O M : Type 0} (offered : X → OfferData O M) (object_cells : O → ℕ) (morphism_cells : M → ℕ) (others : List (Entry O M) → Type 0) (s s' : Sitting X O M) (H : Holds (offered s.offer) object_cells morphism_cells s) (legal : Legal (frame (offered s.offer) object_cells morphism_cells) s'.seen) where
  at-offer : s'.offer ≡ s.offer → Holds (offered s.offer) object_cells morphism_cells s' → Holds (offered s'.offer) object_cells morphism_cells s'
  at-offer e h = subst (λ x. Holds (offered x) object_cells morphism_cells s') (sym e) h

  tried-held : (event : Event O M) (a : Tried O M) → Tries (offered s.offer) object_cells morphism_cells others s event a s' → Holds (offered s.offer) object_cells morphism_cells s'
  tried-held event a T = tries-hold (offered s.offer) object_cells morphism_cells others s s' H legal event a T

  waits-held : Waits others s s' → Holds (offered s.offer) object_cells morphism_cells s'
  waits-held W = waits-hold (offered s.offer) object_cells morphism_cells others s s' H legal W

  tried-holds : (event : Event O M) (a : Tried O M) → Tries (offered s.offer) object_cells morphism_cells others s event a s' → Holds (offered s'.offer) object_cells morphism_cells s'
  tried-holds event a T = at-offer (ap (λ (x : Sitting X O M). x.offer) T.is) (tried-held event a T)

  waits-holds : Waits others s s' → Holds (offered s'.offer) object_cells morphism_cells s'
  waits-holds W = at-offer (ap (λ (x : Sitting X O M). x.offer) W.is) (waits-held W)

  pub event-holds : (event : Event O M) (r : Result (Tried O M) NoMemory) → IfOk r (λ a. Tries (offered s.offer) object_cells morphism_cells others s event a s') → OnErr r (Waits others s s') → Holds (offered s'.offer) object_cells morphism_cells s'
  event-holds event (Ok a) T W = tried-holds event a T
  event-holds event (Err e) T W = waits-holds W

  module _ (are : AreOthers others) (key : Key M) where
    abbrev IsAsked : Result (Asked M) NoMemory → Type 0
    IsAsked r = IfOk r (λ a. SeatAsks (offered s.offer) object_cells morphism_cells others s key a s')

    pub ask-holds : (r : Result (Asked M) NoMemory) → IsAsked r → OnErr r (Waits others s s') → Holds (offered s'.offer) object_cells morphism_cells s'
    ask-holds (Ok a) A W = tried-holds (Ask key) A.tried A.tries
    ask-holds (Err e) A W = waits-holds W

    pub ask-onward : (r : Result (Asked M) NoMemory) → IsAsked r → OnErr r (Waits others s s') → GoesOn object_cells morphism_cells others s s'
    ask-onward (Ok a) A W = asks-on (offered s.offer) object_cells morphism_cells others are s s' key a A
    ask-onward (Err e) A W = waits-on (offered s.offer) object_cells morphism_cells others are s s' W

    pub ask-asks : Known (offered s.offer).category (told_at s) (arguments key.args) → (r : Result (Asked M) NoMemory) → IsAsked r → IfOk r (λ a. Asks (offered s.offer) (state_of s) (told_at s) key.op.0 key.args a (state_of s') (told_at s'))
    ask-asks known (Ok a) A = seat-asks (offered s.offer) object_cells morphism_cells others s s' H legal (tried-held (Ask key) A.tried A.tries) key known a A
    ask-asks known (Err e) A = tt

    pub ask-err : (r : Result (Asked M) NoMemory) → OnErr r (Waits others s s') → OnErr r ((state_of s' ≡ state_of s) × (told_at s' ≡ told_at s))
    ask-err (Ok a) W = tt
    ask-err (Err e) W = waits-same (offered s.offer) object_cells morphism_cells others s s' H legal (waits-held W) W

    module _ (out : PrimOut O M) where
      abbrev IsPut : Result (PutAnswer M) NoMemory → Type 0
      IsPut r = IfOk r (λ a. SeatPuts (offered s.offer) object_cells morphism_cells others s key out a s')

      pub put-holds : (r : Result (PutAnswer M) NoMemory) → IsPut r → OnErr r (Waits others s s') → Holds (offered s'.offer) object_cells morphism_cells s'
      put-holds (Ok a) P W = tried-holds (Put key out) P.tried P.tries
      put-holds (Err e) P W = waits-holds W

      pub put-onward : (r : Result (PutAnswer M) NoMemory) → IsPut r → OnErr r (Waits others s s') → GoesOn object_cells morphism_cells others s s'
      put-onward (Ok a) P W = puts-on (offered s.offer) object_cells morphism_cells others are s s' key out a P
      put-onward (Err e) P W = waits-on (offered s.offer) object_cells morphism_cells others are s s' W

      pub put-puts : Known (offered s.offer).category (told_at s) (arguments key.args) → s.knows ≡ true → (r : Result (PutAnswer M) NoMemory) → IsPut r → IfOk r (λ a. Puts (offered s.offer) (state_of s) (told_at s) key.op.0 key.args out a (state_of s') (told_at s'))
      put-puts known knows (Ok a) P = seat-puts (offered s.offer) object_cells morphism_cells others s s' H legal (tried-held (Put key out) P.tried P.tries) key known out knows a P
      put-puts known knows (Err e) P = tt

      pub put-err : (r : Result (PutAnswer M) NoMemory) → OnErr r (Waits others s s') → OnErr r ((state_of s' ≡ state_of s) × (told_at s' ≡ told_at s))
      put-err (Ok a) W = tt
      put-err (Err e) W = waits-same (offered s.offer) object_cells morphism_cells others s s' H legal (waits-held W) W
