-- Own entries among those of others.
use Rattle.std.proofs.Common.{◌≡◌, ℕ, List, [], ◌∷◌, ◌++◌, refl}
use Rattle.cap_history.specs.declared.entries.Entry.{Entry}
use Rattle.cap_history.specs.declared.entries.Event.TheVariants.{PlanOf}
use Rattle.cap_history.specs.declared.entries.Reply.TheVariants.{NotFinal}
use Rattle.cap_desk.specs.Woven.{IsNothing, IsWoven}

abbrev by : ℕ → Entry ℕ ℕ
by s = record { session = record { 0 = s }; event = PlanOf; reply = NotFinal }

-- alone, two entries behind a start
alone : IsWoven IsNothing (by 0 ∷ []) (by 1 ∷ by 1 ∷ []) (by 0 ∷ by 1 ∷ by 1 ∷ [])
alone = ([], refl, ([], refl, ([], refl, refl)))

-- another session's entry between them, where anything may stand there
among_others : IsWoven (λ (between : List (Entry ℕ ℕ)). Unit {0}) (by 0 ∷ []) (by 1 ∷ by 1 ∷ []) (by 0 ∷ by 1 ∷ by 2 ∷ by 1 ∷ [])
among_others = ([], tt, (by 2 ∷ [], tt, ([], tt, refl)))
