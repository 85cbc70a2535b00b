use Rattle.std.proofs.Common.{◌≡◌, ◌+◌, ◌≤◌, take, count_by}
use Rattle.inventory.specs.declared.Row.{Row}
use Rattle.inventory.specs.Summary.{is_readable, is_damaged}
use Rattle.inventory.proofs.Summary.of.Given as goal

abbrev pub invariant-loop-row : goal.invariant-loop-row
invariant-loop-row l =
    (l.readable + l.damaged ≤ l.row-index)
    × (l.readable ≡ count_by (λ (r : Row). is_readable r.payload) (take l.row-index l.rows))
    × (l.damaged ≡ count_by (λ (r : Row). is_damaged r.payload) (take l.row-index l.rows))
