-- The inventory of an object: a row for each header of its table, in order.
use Rattle.std.specs.Prelude.{◌≡◌, ℕ, ◌<◌, true, false, cond, List, map, length, Ok, Err, vec_items, Result, Vec, MatchResult, ◌==◌}
use Rattle.std.specs.List.{range_with_len}
use Rattle.std.specs.declared.alloc.Global.{Global}
use Rattle.endian.specs.Chosen.{is_big}
use Rattle.endian.specs.declared.Endianness.{Endianness}
use Rattle.faults.specs.Numbers.{FaultNumbers, numbers, direct}
use Rattle.classes.specs.Column.{Column, class32, class64}
use Rattle.classes.specs.declared.Header.{Header}
use Rattle.elf.specs.Object.{Object, header, header_at, and_then, table_lies, payload, opening}
use Rattle.elf.specs.Opened.{stated}
use Rattle.elf.specs.declared.file.HeaderTable.{HeaderTable}
use Rattle.inventory.specs.declared.ClassName.{ClassName}
use Rattle.inventory.specs.declared.ClassName.TheVariants.{Class32, Class64}
use Rattle.inventory.specs.declared.Failure.{Failure}
use Rattle.inventory.specs.declared.Failure.TheVariants.{Memory, Refused}
use Rattle.inventory.specs.declared.Row.{Row}
use Rattle.inventory.specs.declared.State.{State}
use Rattle.inventory.specs.declared.State.TheVariants.{Reserved, Read, Damaged}

-- The state of a payload: none, since header 0 is reserved; read, with its length; or damaged, with its fault.
pub data Payload : Type 0 where
  reserved : Payload
  read : ℕ → Payload
  damaged : FaultNumbers → Payload

pub record Listed : Type 0 where
  pub index : ℕ
  pub header : Header
  pub payload : Payload

abbrev pub told : Result (List ℕ) FaultNumbers → Payload
told (Ok bytes) = read (length bytes)
told (Err f) = damaged f

-- The state of the payload at an index of the table.
abbrev pub state_at : Object → ℕ → Payload
state_at o i = cond (i == 0) reserved (told (payload o i))

abbrev pub row : Object → ℕ → Listed
row o i = record { index = i; header = header o i; payload = state_at o i }

abbrev pub rows : Object → List Listed
rows o = map (row o) (range_with_len 0 o.count)

-- The row at an index of the table, or why there is none.
abbrev pub row_at : Object → ℕ → Result Listed FaultNumbers
row_at o i = and_then (header_at o i) (λ _. Ok (row o i))

-- What is seen of a row of the program's.
abbrev pub state : State → Payload
state Reserved = reserved
state (Read n) = read n
state (Damaged f) = damaged (numbers f)

abbrev pub seen : Row → Listed
seen r = record { index = r.index; header = r.header; payload = state r.payload }

-- Why there are no rows: want of memory for one of them, or a table outside the source, which no opened object has.
abbrev pub Fails : Object → Failure → Type 0
Fails o Memory = (table_lies o ≡ true) × (0 < o.count)
Fails o (Refused f) = (table_lies o ≡ false) × (numbers f ≡ direct 1)

-- The inventory of the object that was asked for: its rows, the refusal of its opening, or want of memory for a row.
abbrev pub RefusedBy : Object → Failure → Type 0
RefusedBy o Memory = (opening o ≡ Ok o) × (0 < o.count)
RefusedBy o (Refused f) = opening o ≡ Err (numbers f)

abbrev pub Takes : Object → Result (Vec Row Global) Failure → Type 0
Takes o r = MatchResult r (λ v. (opening o ≡ Ok o) × (map seen (vec_items v) ≡ rows o)) (RefusedBy o)

abbrev pub column_of : ClassName → Column
column_of Class32 = class32
column_of Class64 = class64

-- The object that is asked for by its bytes, and by section headers that are told with the names of its class and order.
abbrev pub asked : List ℕ → HeaderTable ClassName Endianness → Object
asked bytes table = stated bytes (column_of table.class) is_big table
