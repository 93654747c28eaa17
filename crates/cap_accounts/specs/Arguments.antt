-- Arguments whose references name objects or morphisms.
use Rattle.std.specs.Prelude.{List, IsSome}
use Rattle.std.specs.List.{All}
use Rattle.cap_grammar.specs.declared.tree.ArgTok.{ArgTok}
use Rattle.cap_grammar.specs.declared.tree.ArgTok.TheVariants.{Ref, Int}
use Rattle.cap_report.specs.declared.situation.Situation.{Situation}
use Rattle.cap_accounts.specs.Commands.{object_at, arrow_at, argument_or}

-- an integer, or a reference to an object or a morphism
abbrev pub HasValue : {X T M : Type 0} → Situation X T M → ArgTok → Type 0
HasValue S (Ref r) = IsSome (argument_or S (object_at S r) (arrow_at S r))
HasValue S (Int n) = Unit {0}

abbrev pub HaveValues : {X T M : Type 0} → Situation X T M → List ArgTok → Type 0
HaveValues S args = All (HasValue S) args
