-- The bytes that a window and a row of records hold.
use Rattle.std.specs.Prelude.{ℕ, List}
use Rattle.sources.specs.Source.{part}
use Rattle.sources.specs.declared.pod.Records.{Records}
use Rattle.sources.specs.declared.read_ref.Window.{Window}

-- A window's bytes: a part of its source's.
abbrev pub window_bytes : {R : Type 0} → (R → List ℕ) → Window R → List ℕ
window_bytes bytes w = part (bytes w.source) w.start w.size

-- The bytes that records stand in, one after another.
abbrev pub records_bytes : {T : Type 0} → Records T → List ℕ
records_bytes r = r.bytes.now
