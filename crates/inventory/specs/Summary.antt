-- What an inventory comes to.
use Rattle.std.specs.Prelude.{◌≡◌, Bool, true, false, List, count_by}
use Rattle.inventory.specs.declared.Row.{Row}
use Rattle.inventory.specs.declared.State.{State}
use Rattle.inventory.specs.declared.State.TheVariants.{Reserved, Read, Damaged}
use Rattle.inventory.specs.declared.Summary.{Summary}

-- Every header but the reserved one is a section's.
abbrev pub is_section : State → Bool
is_section Reserved = false
is_section (Read n) = true
is_section (Damaged f) = true

abbrev pub is_readable : State → Bool
is_readable Reserved = false
is_readable (Read n) = true
is_readable (Damaged f) = false

abbrev pub is_damaged : State → Bool
is_damaged Reserved = false
is_damaged (Read n) = false
is_damaged (Damaged f) = true

pub record Sums (rows : List Row) (s : Summary) : Type 0 where
  pub sections : s.sections ≡ count_by (λ r. is_section r.payload) rows
  pub readable : s.readable ≡ count_by (λ r. is_readable r.payload) rows
  pub damaged : s.damaged ≡ count_by (λ r. is_damaged r.payload) rows
