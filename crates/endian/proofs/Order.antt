-- The value of bytes by their places. Assumes nothing.
use Rattle.std.proofs.Common.{◌≡◌, ℕ, zero, suc, ◌+◌, ◌*◌, List, length, get_or, drop, ap, ◌∙◌, arith}
use Rattle.std.proofs.lemmas.List.{at_drop_more, at_drop_all}
use Rattle.endian.specs.Order.{little}

-- the value of the `k` bytes from place `i` on
abbrev pub value : List ℕ → ℕ → ℕ → ℕ
value bs i zero = 0
value bs i (suc k) = get_or bs i 0 + 256 * value bs (i + 1) k

little-drop : (bs : List ℕ) (i k : ℕ) → length bs ≡ i + k → little (drop i bs) ≡ value bs i k
little-drop bs i zero e = at_drop_all little bs i (omega arith)
little-drop bs i (suc k) e =
    at_drop_more little bs i 0 (omega arith)
    ∙ ap (λ n. get_or bs i 0 + 256 * n) (little-drop bs (i + 1) k (omega arith))

pub little_of_eight : (bs : List ℕ) → length bs ≡ 8 → little bs ≡ value bs 0 8
little_of_eight bs e = little-drop bs 0 8 e
