-- Numbers of a fixed width, in a byte order.
use Rattle.std.specs.Prelude.{ℕ, ◌+◌, ◌-◌, ◌*◌, ◌^◌, Bool, true, false, cond, List, [], ◌∷◌, reverse, ℤ, pos, ◌-ℤ◌, nat_lt}

-- The number that bytes say, the lowest byte first.
abbrev pub little : List ℕ → ℕ
little [] = 0
little (b ∷ bs) = b + 256 * little bs

-- The number that bytes say in an order: the highest byte first where it is big-endian.
abbrev pub number : Bool → List ℕ → ℕ
number true bs = little (reverse bs)
number false bs = little bs

-- A number of `bits` bits read as signed: from 2 ^ (bits - 1) on, 2 ^ bits less.
abbrev pub signed : ℕ → ℕ → ℤ
signed bits n = pos n -ℤ pos (cond (nat_lt n (2 ^ (bits - 1))) 0 (2 ^ bits))
