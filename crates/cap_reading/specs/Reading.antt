-- What a function that reads owes: the answer of its step.
use Rattle.std.specs.Prelude.{◌≡◌, List, Result, Ok, Err}
use Rattle.cap_reading.specs.declared.fault.ReadError.{ReadError}
use Rattle.cap_reading.specs.declared.fault.ReadError.TheVariants as errors

-- The step fails at the items that the error names, unless memory ran out.
abbrev pub Fails : {S Y : Type 0} → ReadError S → Result Y (List S) → Type 0
Fails errors.Memory read = Unit {0}
Fails (errors.Syntax rest) read = read ≡ Err rest.now

-- What a function returned, seen by view, is what the step answers, unless memory ran out.
abbrev pub Gives : {S X Y : Type 0} → (X → Y) → Result X (ReadError S) → Result Y (List S) → Type 0
Gives view (Ok x) read = read ≡ Ok (view x)
Gives view (Err e) read = Fails e read
