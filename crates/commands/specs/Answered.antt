-- What the program answers.
use Rattle.std.specs.Prelude.{◌≡◌, ℕ, ◌^◌, ◌<◌, List, length, Some, None, Ok, Err, Option, Result, String, MatchOption}
use Rattle.std.specs.declared.alloc.Global.{Global}
use Rattle.faults.specs.Numbers.{numbers}
use Rattle.elf.specs.Object.{Object, opening}
use Rattle.inventory.specs.Rows.{asked}
use Rattle.words.specs.Words.{Parsed}
use Rattle.words.specs.declared.Command.{Command}
use Rattle.words.specs.declared.Command.TheVariants.{Help, Inventory}
use Rattle.words.specs.declared.Request.{Request}
use Rattle.words.specs.declared.Usage.{Usage}
use Rattle.commands.specs.declared.Problem.{Problem}
use Rattle.commands.specs.declared.Problem.TheVariants.{Words, File, Refused, Memory}

-- The object that is asked for, in the bytes of its file.
abbrev pub requested : List ℕ → Request → Object
requested bytes q = asked bytes q.table

-- What is said of a file's bytes: a text where the object opens, else the refusal of its opening. There may be no memory for a text.
abbrev pub Reported : List ℕ → Request → Result (String Global) Problem → Type 0
Reported bytes q (Ok text) = opening (requested bytes q) ≡ Ok (requested bytes q)
Reported bytes q (Err (Words u)) = ⊥
Reported bytes q (Err (File name e)) = ⊥
Reported bytes q (Err (Refused r len f)) =
    (r ≡ q) × (len ≡ length bytes) × (opening (requested bytes q) ≡ Err (numbers f))
Reported bytes q (Err Memory) = opening (requested bytes q) ≡ Ok (requested bytes q)

-- What is found wrong with the words, if anything.
abbrev pub wrong : Result (String Global) Problem → Option Usage
wrong (Ok text) = None
wrong (Err (Words u)) = Some u
wrong (Err (File name e)) = None
wrong (Err (Refused r len f)) = None
wrong (Err Memory) = None

-- What words can say: the numbers of an object have at most 64 bits.
abbrev pub Sayable : Command → Type 0
Sayable Help = Unit {0}
Sayable (Inventory q) = (q.table.start < 2 ^ 64) × (q.table.count < 2 ^ 64)

-- Words are found wrong exactly where they are.
abbrev pub Answered : List (List ℕ) → Result (String Global) Problem → Type 0
Answered words r =
    MatchOption (wrong r) ((c : Command) × Sayable c × Parsed words (Ok c)) (λ u. Parsed words (Err u))
