-- Sources and sinks over bytes in memory, whose calls fail as a list says.
use Rattle.std.specs.Prelude.{ℕ, ◌-◌, ◌<◌, ◌≤◌, ◌⊎◌, List, ◌++◌, length, take, drop, min, Contains}
use Rattle.cap_io.specs.Faults.{next_count}

-- a source in memory: the bytes left, how many a call moves at most, which calls fail, the number of the next call, and the faults
pub record Feed : Type 0 where
  pub left : List ℕ
  pub piece : ℕ
  pub failing : List ℕ
  pub calls : ℕ
  pub faults : ℕ

-- the source after a call that failed
abbrev pub failed_feed : Feed → Feed
failed_feed f = record f { calls = next_count f.calls; faults = next_count f.faults }

-- how many bytes a call moves into a buffer of this length
abbrev pub feed_count : Feed → ℕ → ℕ
feed_count f room = min (min f.piece room) (length f.left)

-- the source after a call that moved n bytes
abbrev pub fed : Feed → ℕ → Feed
fed f n = record f { left = drop n f.left; calls = next_count f.calls }

-- a sink in memory: the bytes written, how many a call takes at most, how many there is space for, which calls fail, the number of the next call, and the faults
pub record Tray : Type 0 where
  pub written : List ℕ
  pub piece : ℕ
  pub space : ℕ
  pub failing : List ℕ
  pub calls : ℕ
  pub faults : ℕ

-- the next call fails by its number, or finds a sink without space for any byte of its piece
abbrev pub TrayFails : Tray → List ℕ → Type 0
TrayFails t bytes = Contains t.failing t.calls ⊎ ((0 < length bytes) × (t.space ≤ length t.written))

-- the sink after a call that failed
abbrev pub failed_tray : Tray → Tray
failed_tray t = record t { calls = next_count t.calls; faults = next_count t.faults }

-- how many bytes of a piece a call takes
abbrev pub tray_count : Tray → List ℕ → ℕ
tray_count t bytes = min (min t.piece (length bytes)) (t.space - length t.written)

-- the sink after a call that took n bytes of a piece
abbrev pub filled : Tray → ℕ → List ℕ → Tray
filled t n bytes = record t { written = t.written ++ take n bytes; calls = next_count t.calls }
