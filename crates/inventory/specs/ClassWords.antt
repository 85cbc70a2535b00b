-- The words that name classes.
use Rattle.std.specs.Prelude.{ℕ, List, codes, ◌≢◌}
use Rattle.inventory.specs.declared.ClassName.{ClassName}
use Rattle.inventory.specs.declared.ClassName.TheVariants.{Class32, Class64}

-- The word that names a class.
abbrev pub class_word : ClassName → List ℕ
class_word Class32 = codes "32"
class_word Class64 = codes "64"

-- A word that names none.
abbrev pub NoClass : List ℕ → Type 0
NoClass word = (c : ClassName) → word ≢ class_word c
