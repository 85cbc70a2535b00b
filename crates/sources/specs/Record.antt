-- Records of one width, one after another.
use Rattle.std.specs.Prelude.{ℕ, ◌*◌, ◌/◌, List, length}
use Rattle.sources.specs.Source.{part}

-- How many whole records bytes hold.
abbrev pub records : ℕ → List ℕ → ℕ
records width bytes = length bytes / width

-- The bytes of the record at an index.
abbrev pub record_at : ℕ → List ℕ → ℕ → List ℕ
record_at width bytes index = part bytes (index * width) width
