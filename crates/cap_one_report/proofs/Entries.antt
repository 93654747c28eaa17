-- The next entry of a legal history is determined by the entries before it, its session and its event; and where a history is full there is none.
use Rattle.std.proofs.Common.{◌≡◌, List, [], ◌∷◌, ◌++◌, append_assoc, sym, ap, subst, ◌∙◌, inl, inr, arith}
use Rattle.std.proofs.lemmas.List.{append-nil}
use Rattle.cap_names.specs.declared.identifiers.SessionNo.{SessionNo}
use Rattle.cap_history.specs.declared.entries.Event.{Event}
use Rattle.cap_history.specs.declared.entries.Reply.{Reply}
use Rattle.cap_history.specs.declared.entries.Entry.{Entry}
use Rattle.cap_history.specs.Replies.{IsFull, HasRoom, Replies, entry}
use Rattle.cap_run.specs.Plans.{AreRules}
use Rattle.cap_legal.specs.Legal.{Frame, setup_of, IsLegalNext, LegalBehind, Legal}
use Rattle.cap_legal.proofs.Histories.{legal-sound}
use Rattle.cap_legal.proofs.Longer.{legal-front}
use Rattle.cap_one_report.proofs.Replies.{NamesAreOne, reply-one, names-next, names-none}

module _ {O M : Type 0} (F : Frame O M) where
  next-behind : (before es : List (Entry O M)) (e : Entry O M) (more : List (Entry O M)) → LegalBehind F before (es ++ e ∷ more) → IsLegalNext F (before ++ es) e
  next-behind before [] e more l = subst (λ x. IsLegalNext F x e) (sym (append-nil before)) l.0
  next-behind before (x ∷ es) e more l = subst (λ y. IsLegalNext F y e) (append_assoc before (x ∷ []) es) (next-behind (before ++ x ∷ []) es e more l.1)

  pub legal-entry : (before : List (Entry O M)) (e : Entry O M) (more : List (Entry O M)) → Legal F (before ++ e ∷ more) → IsLegalNext F before e
  legal-entry before e more l = next-behind [] before e more l

  pub no-room : (es : List (Entry O M)) → IsFull F.object_cells F.morphism_cells es → HasRoom F.object_cells F.morphism_cells es → ⊥
  no-room es (inl many) room = let few = room.few in omega arith
  no-room es (inr heavy) room = let light = room.light in omega arith

  names-behind : (before es : List (Entry O M)) → NamesAreOne before → LegalBehind F before es → NamesAreOne (before ++ es)
  names-behind before [] old l = subst NamesAreOne (sym (append-nil before)) old
  names-behind before (e ∷ es) old l =
      subst NamesAreOne (append_assoc before (e ∷ []) es) (names-behind (before ++ e ∷ []) es (names-next (setup_of F.offer F.rules) before e l.0.replies old) l.1)

  pub names-legal : (es : List (Entry O M)) → Legal F es → NamesAreOne es
  names-legal es l = names-behind [] es (names-none O M) l

  same-entry : (s s' : SessionNo) (event : Event O M) (r r' : Reply O M) → s ≡ s' → r ≡ r' → entry s event r ≡ entry s' event r'
  same-entry s s' event r r' e f = ap (λ x. entry x event r) e ∙ ap (entry s' event) f

  pub entry-one : AreRules F.rules → (before : List (Entry O M)) (e e' : Entry O M) (more more' : List (Entry O M)) → Legal F (before ++ e ∷ more) → Legal F (before ++ e' ∷ more') → e.session ≡ e'.session → e.event ≡ e'.event → e ≡ e'
  entry-one are before e e' more more' l k s ev =
      let legal = legal-front F before (e ∷ more) l in
      let replies' : Replies (setup_of F.offer F.rules) before e.event e'.reply = subst (λ x. Replies (setup_of F.offer F.rules) before x e'.reply) (sym ev) (legal-entry before e' more' k).replies in
      let r = reply-one (setup_of F.offer F.rules) before (names-legal before legal) (legal-sound F are before legal).once e.event e.reply e'.reply (legal-entry before e more l).replies replies' in
      ap (λ x. entry e.session x e.reply) ev ∙ same-entry e.session e'.session e'.event e.reply e'.reply s r
