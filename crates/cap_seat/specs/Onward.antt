-- How a seat goes on: what it tries are asks and puts, whose entries stand in what it has seen since, among those of others, and are all that was added at its desk.
use Rattle.std.specs.Prelude.{◌≡◌, ℕ, List, [], ◌++◌, length}
use Rattle.std.specs.List.{All, filter_map}
use Rattle.std.proofs.Common.{refl, ◌∙◌, sym, ap, subst, append_assoc}
use Rattle.std.proofs.lemmas.List.{append-nil}
use Rattle.std.proofs.lemmas.List.Elements.{All-nil, All-append, All-weaker, filter_map-append}
use Rattle.cap_history.specs.declared.entries.Entry.{Entry}
use Rattle.cap_desk.specs.Hands.{with_more}
use Rattle.cap_desk.specs.Woven.{IsWoven, AreOthers}
use Rattle.cap_desk.proofs.Handing.{more-none, more-twice}
use Rattle.cap_desk.proofs.Weaving.{woven-start, woven-on, woven-longer}
use Rattle.cap_seat.specs.declared.tries.Try.{Try}
use Rattle.cap_seat.specs.declared.tries.Try.TheVariants.{Entered, Full}
use Rattle.cap_seat.specs.Events.{entered, IsCallTry, IsRefusedByFull}
use Rattle.cap_seat.specs.Seats.{Sitting}

pub record GoesOn {X O M : Type 0} (object_cells : O → ℕ) (morphism_cells : M → ℕ) (others : List (Entry O M) → Type 0) (s t : Sitting X O M) : Type 0 where
  pub offer : t.offer ≡ s.offer
  pub session : t.session ≡ s.session
  pub more : List (Try O M)
  pub tries : t.tries ≡ s.tries ++ more
  pub calls : All (IsCallTry s.session) more
  pub woven : IsWoven others s.seen (filter_map entered more) t.seen
  pub hand : t.hand ≡ with_more s.hand (length (filter_map entered more))
  pub refused : All (IsRefusedByFull object_cells morphism_cells t.seen) more

module _ {O M : Type 0} (object_cells : O → ℕ) (morphism_cells : M → ℕ) where
  still-refused : (seen more : List (Entry O M)) (t : Try O M) → IsRefusedByFull object_cells morphism_cells seen t → IsRefusedByFull object_cells morphism_cells (seen ++ more) t
  still-refused seen more (Entered e) r = tt
  still-refused seen more (Full event n k) r = record { front = r.front; rest = r.rest ++ more; splits = ap (λ es. es ++ more) r.splits ∙ append_assoc r.front r.rest more; full = r.full; count_is = r.count_is; weight_is = r.weight_is }

module _ {X O M : Type 0} (object_cells : O → ℕ) (morphism_cells : M → ℕ) (others : List (Entry O M) → Type 0) (are : AreOthers others) where
  pub goes-on-none : (s : Sitting X O M) → GoesOn object_cells morphism_cells others s s
  goes-on-none s = record {
    offer = refl;
    session = refl;
    more = [];
    tries = sym (append-nil s.tries);
    calls = All-nil (IsCallTry s.session);
    woven = woven-start others are s.seen;
    hand = more-none s.hand;
    refused = All-nil (IsRefusedByFull object_cells morphism_cells s.seen);
  }

  pub goes-on-more : (s t u : Sitting X O M) → GoesOn object_cells morphism_cells others s t → GoesOn object_cells morphism_cells others t u → GoesOn object_cells morphism_cells others s u
  goes-on-more s t u g h =
      let longer = woven-longer others t.seen (filter_map entered h.more) u.seen h.woven in
      let P : Try O M → Type 0 = IsRefusedByFull object_cells morphism_cells u.seen in
      record {
        offer = h.offer ∙ g.offer;
        session = h.session ∙ g.session;
        more = g.more ++ h.more;
        tries = h.tries ∙ (ap (λ ts. ts ++ h.more) g.tries ∙ append_assoc s.tries g.more h.more);
        calls = All-append (IsCallTry s.session) g.more h.more g.calls (subst (λ x. All (IsCallTry x) h.more) g.session h.calls);
        woven = subst (λ own. IsWoven others s.seen own u.seen) (sym (filter_map-append entered g.more h.more)) (woven-on others are s.seen (filter_map entered g.more) t.seen (filter_map entered h.more) u.seen g.woven h.woven);
        hand = h.hand ∙ ap (λ hand. with_more hand (length (filter_map entered h.more))) g.hand ∙ more-twice s.hand (filter_map entered g.more) (filter_map entered h.more)
            ∙ ap (λ own. with_more s.hand (length own)) (sym (filter_map-append entered g.more h.more));
        refused = All-append P g.more h.more (All-weaker (IsRefusedByFull object_cells morphism_cells t.seen) P (λ x r. subst (λ es. IsRefusedByFull object_cells morphism_cells es x) (sym longer.1) (still-refused object_cells morphism_cells t.seen longer.0 x r)) g.more g.refused) h.refused;
      }
