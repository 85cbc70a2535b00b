-- An object by its bytes: its section headers, and their payloads.
use Rattle.std.specs.Prelude.{ℕ, ◌+◌, ◌*◌, Bool, cond, not, ◌&&◌, ◌||◌, List, [], length, Ok, Err, Result, ◌==◌, nat_lt}
use Rattle.faults.specs.Numbers.{FaultNumbers, direct}
use Rattle.sources.specs.Source.{part, lies}
use Rattle.classes.specs.Column.{Column, decoded}
use Rattle.classes.specs.declared.Header.{Header}

pub record Object : Type 0 where
  pub bytes : List ℕ
  pub column : Column
  pub big : Bool
  -- where the table of section headers starts, and how many it has
  pub table : ℕ
  pub count : ℕ

-- What the i-th header of the table says.
abbrev pub header : Object → ℕ → Header
header o i =
    decoded o.column o.big (part o.bytes (o.table + i * o.column.header) o.column.header)

-- REL, RELA and CREL.
abbrev pub relocates : ℕ → Bool
relocates t = t == 9 || (t == 4 || t == 1073741844)

-- Whether the table lies in the source. A table with no headers does, wherever it starts.
abbrev pub table_lies : Object → Bool
table_lies o = lies (length o.bytes) o.table (o.count * o.column.header)

-- Whether there is a first header, and it is a relocation section's.
abbrev pub first_relocates : Object → Bool
first_relocates o = nat_lt 0 o.count && relocates (header o 0).sh_type

-- What opening answers: the object, or the first refusal in this order.
abbrev pub opening : Object → Result Object FaultNumbers
opening o =
    cond (nat_lt 4294967295 (length o.bytes)) (Err (direct 9))
    (cond (nat_lt 65535 o.count) (Err (direct 2))
    (cond (not (table_lies o)) (Err (direct 1))
    (cond (first_relocates o) (Err (direct 3))
    (Ok o))))

-- The header at an index of the table, 0 too. Fault 1 never comes from an opened object.
abbrev pub header_at : Object → ℕ → Result Header FaultNumbers
header_at o i =
    cond (nat_lt i o.count) (cond (table_lies o) (Ok (header o i)) (Err (direct 1))) (Err (direct 5))

-- The header of a section: header 0 is no section's.
abbrev pub section : Object → ℕ → Result Header FaultNumbers
section o i = cond (i == 0) (Err (direct 5)) (header_at o i)

-- Whether a section has no bytes in the file: NOBITS, or size 0.
abbrev pub bare : Header → Bool
bare h = h.sh_type == 8 || h.sh_size == 0

-- The payload that a header describes.
abbrev pub payload_of : List ℕ → Header → Result (List ℕ) FaultNumbers
payload_of bytes h =
    cond (bare h) (Ok [])
    (cond (lies (length bytes) h.sh_offset h.sh_size) (Ok (part bytes h.sh_offset h.sh_size))
    (Err (direct 12)))

-- one answer from another, faults handed on
abbrev pub and_then : {X Y : Type 0} → Result X FaultNumbers → (X → Result Y FaultNumbers) → Result Y FaultNumbers
and_then (Ok x) f = f x
and_then (Err e) f = Err e

abbrev pub payload : Object → ℕ → Result (List ℕ) FaultNumbers
payload o i = and_then (section o i) (payload_of o.bytes)
