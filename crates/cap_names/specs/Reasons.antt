-- The words for the faults of a script (this project's own).
use Rattle.std.specs.Prelude.{ℕ, List, codes}
use Rattle.cap_names.specs.declared.reasons.Reason.{Reason}
use Rattle.cap_names.specs.declared.reasons.Reason.TheVariants.{Token, Syntax, Known, Taken, Sort, Prime, Limit}

abbrev pub reason_word : Reason → List ℕ
reason_word Token = codes "token"
reason_word Syntax = codes "syntax"
reason_word Known = codes "known"
reason_word Taken = codes "taken"
reason_word Sort = codes "sort"
reason_word Prime = codes "prime"
reason_word Limit = codes "limit"
