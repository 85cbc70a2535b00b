-- The header table and the payloads are what they cover. Assumes nothing.
use Rattle.std.proofs.Common.{◌≡◌, ℕ, ◌+◌, ◌-◌, ◌*◌, ◌/◌, ◌%◌, ◌<◌, ◌≤◌, true, ◌⊎◌, List, [], length, get_or, Ok, Err, Result, ap, ◌∙◌, inl, inr, mod-lt, mul_comm, div-lt_iff_lt-mul, add-mul, mul-zero, arith, Bor, MatchResult, Bool, cond}
use native.Mathlib.Nat.{div-add-mod}
use Rattle.std.proofs.lemmas.Bool.Decides.{nat_tests}
use Rattle.std.proofs.lemmas.List.{get_or-take, get_or-drop}
use Rattle.std.proofs.lemmas.Nat.{mul-le}
use Rattle.std.proofs.lemmas.Bool.{cases_eq}
use Rattle.faults.specs.Numbers.{direct, Gives}
use Rattle.faults.specs.declared.Fault.{Fault}
use Rattle.sources.specs.Source.{part, lies}
use Rattle.sources.proofs.Source.{length_part}
use Rattle.elf.specs.Coverage.{TableCovers, TableCovered, Covers, Covered, Uncovered}
use Rattle.elf.specs.Object.{Object, header, payload, payload_of, and_then, bare, table_lies}

module _ (o : Object) (lies : table_lies o ≡ true) where
  ends : (p : ℕ) → TableCovers o p → p < length o.bytes
  ends p c = grind (arith, nat_tests)

  within : (i k : ℕ) → i < o.count → k < o.column.header → TableCovers o (o.table + i * o.column.header + k)
  within i k lt short =
      let step = mul-le (i + 1) o.column.header o.count o.column.header (omega arith) (omega arith) in
      (omega arith, omega (arith, step, add-mul i 1 o.column.header))

  found : (p : ℕ) → TableCovers o p → (i : ℕ) × (k : ℕ) × (p ≡ o.table + i * o.column.header + k) × (i < o.count) × (k < o.column.header)
  found p c =
      elim (cases_eq o.column.header 0) [
        | inl z ↦ let none = ap (λ w. o.count * w) z ∙ mul-zero o.count in absurd (omega (arith, c.0, c.1, none))
        | inr n ↦
            let some : 0 < o.column.header = omega arith in
            let split = div-add-mod (p - o.table) o.column.header in
            let turned = mul_comm o.column.header ((p - o.table) / o.column.header) in (
              (p - o.table) / o.column.header,
              (p - o.table) % o.column.header,
              omega (arith, split, turned, c.0),
              (div-lt_iff_lt-mul some).1 (omega (arith, c.0, c.1)),
              mod-lt (p - o.table) some,
            )
      ]

  pub table_covered : TableCovered o
  table_covered = record { inside = within; whole = found; there = ends }

module _ (o : Object) (i : ℕ) (xs : List ℕ) where
  -- A payload is empty, or a part of the source.
  abbrev Shape : Type 0
  Shape =
      (xs ≡ []) ⊎ ((xs ≡ part o.bytes (header o i).sh_offset (header o i).sh_size) × ((header o i).sh_offset + (header o i).sh_size ≤ length o.bytes))

  by_parts : (b c : Bool) → bare (header o i) ≡ b → lies (length o.bytes) (header o i).sh_offset (header o i).sh_size ≡ c → cond b (Ok []) (cond c (Ok (part o.bytes (header o i).sh_offset (header o i).sh_size)) (Err (direct 12))) ≡ Ok xs → Shape
  by_parts b c p q e = grind (arith, nat_tests)

  by_tests : (z l t : Bool) → and_then (cond z (Err (direct 5)) (cond l (cond t (Ok (header o i)) (Err (direct 1))) (Err (direct 5)))) (payload_of o.bytes) ≡ Ok xs → Shape
  by_tests z l t e = grind (arith, nat_tests)

  module _ (e : payload o i ≡ Ok xs) where
    shape : Shape
    shape = grind (arith, nat_tests)

    among : (p : ℕ) → Covers o i p → ((header o i).sh_offset ≤ p) × (p < (header o i).sh_offset + length xs)
    among p h = rw e at h

    same : (k : ℕ) → k < length xs → get_or xs k 0 ≡ get_or o.bytes ((header o i).sh_offset + k) 0
    same k h =
        let s = shape in
        grind (arith, get_or-take {A = ℕ}, get_or-drop {A = ℕ}, length_part)

    there : (p : ℕ) → Covers o i p → p < length o.bytes
    there p c =
        let a = among p c in
        let s = shape in
        grind (arith, length_part)

    is_covered : Covered o i xs
    is_covered =
        record {
          inside = λ k h. rw e (omega arith, omega arith);
          whole = λ p c. let a = among p c in (p - (header o i).sh_offset, omega (arith, a.0), omega (arith, a.0, a.1));
          same = same;
          there = there;
        }

pub covered : (o : Object) (i : ℕ) (r : Result (Bor (List ℕ)) Fault) → Gives (λ x. x.now) r (payload o i) → MatchResult r (λ s. Covered o i s.now) (λ _. Uncovered o i)
covered o i (Ok s) e = is_covered o i s.now e
covered o i (Err f) e = λ p h. rw e at h
