-- The inventory of an object that was just opened. Assumes nothing.
use Rattle.std.proofs.Common.{◌≡◌, Bool, false, cond, not, map, Ok, Err, vec_items, Result, Vec, arith, MatchResult}
use Rattle.std.specs.declared.alloc.Global.{Global}
use Rattle.std.proofs.lemmas.Bool.Decides.{nat_tests}
use Rattle.faults.specs.Numbers.{FaultNumbers}
use Rattle.elf.specs.Object.{Object, opening, table_lies}
use Rattle.inventory.specs.declared.Failure.{Failure}
use Rattle.inventory.specs.declared.Failure.TheVariants.{Memory, Refused}
use Rattle.inventory.specs.declared.Row.{Row}
use Rattle.inventory.specs.Rows.{rows, seen, Fails, Takes}

by_tests : (a b c d : Bool) (o o' : Object) (e9 e2 e1 e3 : FaultNumbers) → cond a (Err e9) (cond b (Err e2) (cond c (Err e1) (cond d (Err e3) (Ok o)))) ≡ Ok o' → (o ≡ o') × (c ≡ false)
by_tests a b c d o o' e9 e2 e1 e3 e = grind arith

module _ (o o' : Object) (e : opening o ≡ Ok o') where
  parts : (o ≡ o') × (not (table_lies o) ≡ false)
  parts = grind (arith, nat_tests)

  pub takes : (r : Result (Vec Row Global) Failure) → MatchResult r (λ v. map seen (vec_items v) ≡ rows o') (Fails o') → Takes o r
  takes (Ok v) h = let p = parts in grind (arith, nat_tests)
  takes (Err Memory) h = let p = parts in grind (arith, nat_tests)
  takes (Err (Refused f)) h = let p = parts in grind (arith, nat_tests)
