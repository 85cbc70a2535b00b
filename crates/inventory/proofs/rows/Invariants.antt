use Rattle.std.proofs.Common.{◌≡◌, map, vec_items}
use Rattle.std.specs.List.{range_with_len}
use Rattle.inventory.specs.Rows.{row, seen}
use Rattle.inventory.proofs.rows.Given as goal

abbrev pub invariant-loop-index : goal.invariant-loop-index
invariant-loop-index g l = map seen (vec_items l.rows) ≡ map (row (g.O.Sections.object l.object)) (range_with_len 0 l.index)
