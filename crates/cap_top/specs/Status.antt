-- The exit status for each end of a run.
use Rattle.std.specs.Prelude.{ℕ}
use Rattle.cap_top.specs.declared.outcome.Status.{Status}
use Rattle.cap_top.specs.declared.outcome.Status.TheVariants.{Ok, Rejected, Usage, ReadFault, WriteFault, TooLong, BadScript, NoMemory}

abbrev pub status_number : Status → ℕ
status_number Ok = 0
status_number Rejected = 1
status_number Usage = 2
status_number ReadFault = 3
status_number WriteFault = 4
status_number TooLong = 5
status_number BadScript = 6
status_number NoMemory = 7
