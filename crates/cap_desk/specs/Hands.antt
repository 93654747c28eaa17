-- What a desk has of the state before it: which state it is, and how many entries were put into it here.
use Rattle.std.specs.Prelude.{ℕ, ◌+◌, List, Result, Ok, Err}
use Rattle.cap_history.specs.declared.entries.Reply.{Reply}
use Rattle.cap_store.specs.declared.refusals.StepRefusal.{StepRefusal}

-- the state's place, by which it is known among others, and the number of entries that were added at this desk
pub record Hand : Type 0 where
  pub place : List ℕ
  pub added : ℕ

-- more entries were added
abbrev pub with_more : Hand → ℕ → Hand
with_more hand n = record { place = hand.place; added = hand.added + n }

-- behind a step: one more, where it has an entry
abbrev pub hand_behind : {O M : Type 0} → Hand → Result (Reply O M) StepRefusal → Hand
hand_behind hand (Ok reply) = with_more hand 1
hand_behind hand (Err why) = hand
