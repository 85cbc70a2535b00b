-- The table of section headers, as records of one width. Assumes nothing.
use Rattle.std.proofs.Common.{◌≡◌, ℕ, ◌+◌, ◌*◌, ◌/◌, ◌<◌, ◌≤◌, true, false, cond, ltb, List, length, Some, None, Option, MatchOption, ap, ◌∙◌, add-mul, arith}
use native.Mathlib.Nat.{mul-div_left}
use Rattle.std.proofs.lemmas.Bool.Decides.{nat_tests}
use Rattle.std.proofs.lemmas.Nat.{mul-le}
use Rattle.std.specs.Option.{option_map}
use Rattle.sources.specs.Source.{part, Lies, Outside}
use Rattle.sources.proofs.Source.{length_part, part-part}
use Rattle.classes.specs.Column.{Column, decoded}
use Rattle.elf.specs.Object.{Object, header, table_lies}

module _ (o : Object) (width : ℕ) (wide : width ≡ o.column.header) (some : 0 < width) where
  size : o.count * width ≡ o.count * o.column.header
  size = ap (λ w. o.count * w) wide

  pub lies-true : Lies (length o.bytes) o.table (o.count * width) → table_lies o ≡ true
  lies-true fits = let s = size in grind (arith, nat_tests)

  pub lies-false : Outside (length o.bytes) o.table (o.count * width) → table_lies o ≡ false
  lies-false out = let s = size in grind (arith, nat_tests)

  module _ (held : List ℕ) (is : held ≡ part o.bytes o.table (o.count * width)) (fits : Lies (length o.bytes) o.table (o.count * width)) where
    whole : length held ≡ o.count * width
    whole = grind (arith, length_part)

    many : length held / width ≡ o.count
    many = ap (λ n. n / width) whole ∙ mul-div_left o.count some

    stored : (i : ℕ) → i < o.count → part held (i * width) width ≡ part o.bytes (o.table + i * o.column.header) o.column.header
    stored i h =
        let ends : i * width + width ≤ o.count * width = omega (arith, mul-le (i + 1) width o.count width (omega arith) (omega arith), add-mul i 1 width) in
        ap (λ xs. part xs (i * width) width) is
        ∙ part-part o.bytes o.table (o.count * width) (i * width) width ends
        ∙ ap (λ w. part o.bytes (o.table + i * w) w) wide

    -- a look at the header at i: a stored one, which is read by a column that is the object's, or none past the last
    pub looked : (i : ℕ) (column : Column) → column ≡ o.column → {S : Type 0} (bytes : S → List ℕ) (got : Option S)
        → MatchOption got (length held / width ≤ i) (λ v. (bytes v ≡ part held (i * width) width) × (i < length held / width))
        → option_map (λ v. decoded column o.big (bytes v)) got ≡ cond (ltb i o.count) (Some (header o i)) None
    looked i column own bytes None past = let m = many in grind (arith, nat_tests)
    looked i column own bytes (Some v) at =
        let m = many in
        let s = stored i (omega (arith, m, at.1)) in
        grind (arith, nat_tests)
