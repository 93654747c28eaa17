-- Events that may be asked of every history, or of every final one.
use Rattle.std.specs.Prelude.{ℕ, List}
use Rattle.cap_ops.specs.declared.plans.Plan.{Plan}
use Rattle.cap_history.specs.declared.entries.Event.{Event}
use Rattle.cap_history.specs.declared.entries.Entry.{Entry}
use Rattle.cap_history.specs.May.{May}
use Rattle.cap_history.specs.Replies.{IsFinal}

abbrev pub IsAlways : {O M : Type 0} → Event O M → Type 0
IsAlways {O} {M} event = (entries : List (Entry O M)) → May entries event

abbrev pub IsOnceFinal : {O M : Type 0} → Event O M → Type 0
IsOnceFinal {O} {M} event = (entries : List (Entry O M)) (at : ℕ) (p : Plan) → IsFinal entries at p → May entries event
