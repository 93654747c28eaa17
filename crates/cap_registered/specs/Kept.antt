-- One registration after others (this project's own script language).
use Rattle.std.specs.Prelude.{ℕ, Option, Some, None, unwrap_or}

-- the weight that an operation has when it is asked for: the one that it had, else the written one or the default of an operation that is offered
abbrev pub kept : Option ℕ → Option ℕ → Option ℕ → Option ℕ
kept (Some before) default written = Some before
kept None None written = None
kept None (Some default) written = Some (unwrap_or written default)
