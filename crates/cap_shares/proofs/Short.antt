-- How long a legal history can be.
use Rattle.std.proofs.Common.{◌≤◌, List, [], ◌∷◌, ◌++◌, length, sym, subst, arith, append_assoc, length-append}
use Rattle.std.proofs.lemmas.List.{append-nil}
use Rattle.cap_history.specs.declared.entries.Entry.{Entry}
use Rattle.cap_history.specs.Replies.{most_entries}
use Rattle.cap_legal.specs.Legal.{Frame, LegalBehind, Legal}

module _ {O M : Type 0} (F : Frame O M) where
  -- each entry came where there was room for it
  short-behind : (before es : List (Entry O M)) → length before ≤ most_entries → LegalBehind F before es → length (before ++ es) ≤ most_entries
  short-behind before [] h l = subst (λ x. length x ≤ most_entries) (sym (append-nil before)) h
  short-behind before (e ∷ es) h l =
      let longer : length (before ++ e ∷ []) ≤ most_entries = omega (arith, length-append before (e ∷ []), l.0.room.few) in
      subst (λ x. length x ≤ most_entries) (append_assoc before (e ∷ []) es) (short-behind (before ++ e ∷ []) es longer l.1)

  pub legal-short : (entries : List (Entry O M)) → Legal F entries → length entries ≤ most_entries
  legal-short entries l = short-behind [] entries (omega arith) l
