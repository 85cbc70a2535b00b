-- Which bytes of the source the header table and the sections cover.
use Rattle.std.specs.Prelude.{◌≡◌, ℕ, ◌+◌, ◌*◌, ◌<◌, ◌≤◌, List, length, MatchResult, slice_index}
use Rattle.elf.specs.Object.{Object, header, payload}

-- The header table covers the place p.
abbrev pub TableCovers : Object → ℕ → Type 0
TableCovers o p = (o.table ≤ p) × (p < o.table + o.count * o.column.header)

-- The table covers the bytes of its headers and no others, and they are there.
pub record TableCovered (o : Object) : Type 0 where
  pub inside : (i k : ℕ) → i < o.count → k < o.column.header → TableCovers o (o.table + i * o.column.header + k)
  pub whole : (p : ℕ) → TableCovers o p → (i : ℕ) × (k : ℕ) × (p ≡ o.table + i * o.column.header + k) × (i < o.count) × (k < o.column.header)
  pub there : (p : ℕ) → TableCovers o p → p < length o.bytes

-- The section i covers the place p: p is one of the places of its payload. A payload that is a fault covers nothing, and neither
-- does header 0.
abbrev pub Covers : Object → ℕ → ℕ → Type 0
Covers o i p =
    MatchResult (payload o i) (λ bytes. ((header o i).sh_offset ≤ p) × (p < (header o i).sh_offset + length bytes)) (λ _. ⊥)

-- The bytes of a payload are those of the source that its section covers, one for one.
pub record Covered (o : Object) (i : ℕ) (bytes : List ℕ) : Type 0 where
  pub inside : (k : ℕ) → k < length bytes → Covers o i ((header o i).sh_offset + k)
  pub whole : (p : ℕ) → Covers o i p → (k : ℕ) × (p ≡ (header o i).sh_offset + k) × (k < length bytes)
  pub same : (k : ℕ) → k < length bytes → slice_index bytes k ≡ slice_index o.bytes ((header o i).sh_offset + k)
  pub there : (p : ℕ) → Covers o i p → p < length o.bytes

-- A section without a payload covers nothing.
abbrev pub Uncovered : Object → ℕ → Type 0
Uncovered o i = (p : ℕ) → Covers o i p → ⊥
