-- One row more of an inventory. Assumes nothing.
use Rattle.std.proofs.Common.{◌≡◌, ℕ, ◌+◌, Bool, true, cond, List, [], ◌∷◌, ◌++◌, map, Ok, Err, arith}
use Rattle.std.specs.List.{range_with_len}
use Rattle.std.proofs.lemmas.List.FromFn.{map-range_with_len_more}
use Rattle.std.proofs.lemmas.List.{map_push}
use Rattle.faults.specs.Numbers.{FaultNumbers}
use Rattle.classes.specs.declared.Header.{Header}
use Rattle.elf.specs.Object.{Object, and_then}
use Rattle.inventory.specs.declared.Row.{Row}
use Rattle.inventory.specs.Rows.{Listed, row, seen}

pub one_more : (o : Object) (i : ℕ) (rs ys : List Row) (r : Row) → map seen rs ≡ map (row o) (range_with_len 0 i) → ys ≡ rs ++ r ∷ [] → seen r ≡ row o i → map seen ys ≡ map (row o) (range_with_len 0 (i + 1))
one_more o i rs ys r before e is = cc (map_push seen rs r, map-range_with_len_more (row o) 0 i i (omega arith))

by_tests : (l t : Bool) (h : Header) (x y : Listed) (a b : FaultNumbers) → and_then (cond l (cond t (Ok h) (Err a)) (Err b)) (λ _. Ok x) ≡ Ok y → (y ≡ x) × (t ≡ true)
by_tests l t h x y a b e = grind arith
