-- Parts of a list of bytes. Sums are sums of natural numbers: nothing wraps.
use Rattle.std.specs.Prelude.{ℕ, ◌+◌, ◌<◌, ◌≤◌, Bool, ◌||◌, List, take, drop, ◌==◌, nat_le}

-- The part of `size` bytes from `offset` on.
abbrev pub part : List ℕ → ℕ → ℕ → List ℕ
part bytes offset size = take size (drop offset bytes)

-- That part lies in a list of `len` bytes. One of size 0 does, at any offset.
abbrev pub Lies : ℕ → ℕ → ℕ → Type 0
Lies len offset size = 0 < size → offset + size ≤ len

-- It does not.
abbrev pub Outside : ℕ → ℕ → ℕ → Type 0
Outside len offset size = (0 < size) × (len < offset + size)

-- The same as a test: true where it lies in the list, false where it does not.
abbrev pub lies : ℕ → ℕ → ℕ → Bool
lies len offset size = size == 0 || nat_le (offset + size) len
