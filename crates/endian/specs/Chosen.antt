-- Byte orders that are chosen at run time.
use Rattle.std.specs.Prelude.{ℕ, Bool, true, false, List, codes, ◌≢◌}
use Rattle.endian.specs.declared.Endianness.{Endianness}
use Rattle.endian.specs.declared.Endianness.TheVariants.{Little, Big}

abbrev pub is_big : Endianness → Bool
is_big Little = false
is_big Big = true

-- The word that names an order.
abbrev pub order_word : Endianness → List ℕ
order_word Little = codes "little"
order_word Big = codes "big"

-- A word that names none.
abbrev pub NoOrder : List ℕ → Type 0
NoOrder word = (o : Endianness) → word ≢ order_word o
