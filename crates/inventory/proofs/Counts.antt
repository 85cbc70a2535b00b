-- Counting the rows of an inventory. Assumes nothing.
use Rattle.std.proofs.Common.{◌≡◌, ℕ, ◌+◌, ◌≤◌, cond, List, [], ◌∷◌, length, take, count_by, refl, ap, ◌∙◌, arith}
use Rattle.std.proofs.lemmas.List.{take_all}
use Rattle.std.proofs.lemmas.List.Sums.{sum_by-cons}
use Rattle.inventory.specs.declared.Row.{Row}
use Rattle.inventory.specs.declared.State.{State}
use Rattle.inventory.specs.declared.State.TheVariants.{Reserved, Read, Damaged}
use Rattle.inventory.specs.Summary.{is_section, is_readable, is_damaged, Sums}

one : (s : State) → cond (is_readable s) 1 0 + cond (is_damaged s) 1 0 ≡ cond (is_section s) 1 0
one Reserved = refl
one (Read n) = refl
one (Damaged f) = refl

-- a section is readable or damaged
pub sections_are : (rows : List Row) → count_by (λ (r : Row). is_readable r.payload) rows + count_by (λ (r : Row). is_damaged r.payload) rows ≡ count_by (λ (r : Row). is_section r.payload) rows
sections_are [] = refl
sections_are (r ∷ rows) = omega (arith, sum_by-cons {X = Row}, one r.payload, sections_are rows)

at_most_one : (s : State) → cond (is_section s) 1 0 ≤ 1
at_most_one Reserved = omega arith
at_most_one (Read n) = omega arith
at_most_one (Damaged f) = omega arith

-- counts of all rows are their summary
pub counts_all : (rows : List Row) (i a b : ℕ) → length rows ≤ i → (a ≡ count_by (λ (r : Row). is_readable r.payload) (take i rows)) → (b ≡ count_by (λ (r : Row). is_damaged r.payload) (take i rows)) → Sums rows (record { sections = a + b; readable = a; damaged = b })
counts_all rows i a b all p q =
    let r = p ∙ ap (count_by (λ (r : Row). is_readable r.payload)) (take_all i rows all) in
    let d = q ∙ ap (count_by (λ (r : Row). is_damaged r.payload)) (take_all i rows all) in
    record { sections = omega (arith, r, d, sections_are rows); readable = r; damaged = d }
