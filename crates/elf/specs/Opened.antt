-- What an opened object stands for.
use Rattle.std.specs.Prelude.{◌≡◌, ℕ, Bool, true, false, cond, ◌&&◌, List, Some, None, Ok, Err, Option, Result, MatchResult, nat_lt}
use Rattle.classes.specs.Column.{Column}
use Rattle.classes.specs.declared.Header.{Header}
use Rattle.elf.specs.declared.file.ElfFile.{ElfFile}
use Rattle.elf.specs.declared.file.HeaderTable.{HeaderTable}
use Rattle.faults.specs.Numbers.{numbers, direct}
use Rattle.faults.specs.declared.Fault.{Fault}
use Rattle.elf.specs.Object.{Object, header, table_lies, section, payload, payload_of}

-- An opened object is its source's bytes, its class's column, its order, and where its table is.
abbrev pub meaning : {R C E : Type 0} → (R → List ℕ) → Column → (E → Bool) → ElfFile R C E → Object
meaning bytes column big f =
    record { bytes = bytes f.source; column = column; big = big f.endian; table = f.start; count = f.count }

-- The object that has a source's bytes, a class's column, and the order and headers that a table tells.
abbrev pub stated : {C E : Type 0} → List ℕ → Column → (E → Bool) → HeaderTable C E → Object
stated bytes column big t =
    record { bytes = bytes; column = column; big = big t.endian; table = t.start; count = t.count }

-- A look at the header at i.
abbrev pub Looks : Object → ℕ → Result (Option Header) Fault → Type 0
Looks o i r =
    MatchResult r
    (λ h. (table_lies o ≡ true) × (h ≡ cond (nat_lt i o.count) (Some (header o i)) None))
    (λ f. (table_lies o ≡ false) × (numbers f ≡ direct 1))

-- The numbers that name sections: not 0, and not past the last header.
abbrev pub named : Object → ℕ → Bool
named o i = nat_lt 0 i && nat_lt i o.count

-- Of an opened object every named section has its header and, by that, its payload; no other number has one.
pub record Sound (o : Object) : Type 0 where
  pub headers : (i : ℕ) → section o i ≡ cond (named o i) (Ok (header o i)) (Err (direct 5))
  pub payloads : (i : ℕ) → payload o i ≡ cond (named o i) (payload_of o.bytes (header o i)) (Err (direct 5))
