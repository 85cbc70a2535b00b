-- What the words behind the program's name say.
use Rattle.std.specs.Prelude.{◌≡◌, ℕ, ◌^◌, ◌<◌, ◌⊎◌, List, [], ◌++◌, length, drop, Some, None, Ok, Err, codes, decimal, Option, Result, MatchOption, ◌≢◌, slice_index_or}
use Rattle.std.specs.Borrow.{Bor}
use Rattle.std.specs.Str.Parse.{IsNumeral, digits_value, without_leading_plus}
use Rattle.endian.specs.Chosen.{order_word, NoOrder}
use Rattle.endian.specs.declared.Endianness.{Endianness}
use Rattle.inventory.specs.ClassWords.{class_word, NoClass}
use Rattle.inventory.specs.declared.ClassName.{ClassName}
use Rattle.words.specs.declared.Command.{Command}
use Rattle.words.specs.declared.Command.TheVariants.{Help, Inventory}
use Rattle.words.specs.declared.Usage.{Usage}
use Rattle.words.specs.declared.Usage.TheVariants.{NoCommand, UnknownCommand, Arguments, Class, Order, Table, Count}

-- The number that digits of a base say, if it has at most 64 bits. A plus sign may stand before them.
abbrev pub Tells : ℕ → List ℕ → Option ℕ → Type 0
Tells base ds r =
    MatchOption r (IsNumeral base (without_leading_plus ds) → digits_value base (without_leading_plus ds) < 2 ^ 64 → ⊥)
    (λ n. IsNumeral base (without_leading_plus ds) × (digits_value base (without_leading_plus ds) ≡ n))

-- A number is written in decimal, or after 0x in hexadecimal.
pub record Says (word : List ℕ) (r : Option ℕ) : Type 0 where
  pub hexadecimal : (ds : List ℕ) → word ≡ codes "0x" ++ ds → Tells 16 ds r
  pub decimal : ((ds : List ℕ) → word ≢ codes "0x" ++ ds) → Tells 10 word r

-- What five words say: an object, or the first of them that is wrong.
abbrev pub Asked : List ℕ → List ℕ → List ℕ → List ℕ → List ℕ → Result Command Usage → Type 0
Asked file class order table count (Ok Help) = ⊥
Asked file class order table count (Ok (Inventory q)) =
    (q.file.now ≡ file) × (class ≡ class_word q.table.class) × (order ≡ order_word q.table.endian) × Says table (Some q.table.start) × Says count (Some q.table.count)
Asked file class order table count (Err NoCommand) = ⊥
Asked file class order table count (Err (UnknownCommand word)) = ⊥
Asked file class order table count (Err (Arguments n)) = ⊥
Asked file class order table count (Err (Class word)) = (word.now ≡ class) × NoClass class
Asked file class order table count (Err (Order word)) =
    (word.now ≡ order) × ((c : ClassName) × (class ≡ class_word c)) × NoOrder order
Asked file class order table count (Err (Table word)) =
    (word.now ≡ table) × ((c : ClassName) × (class ≡ class_word c)) × ((o : Endianness) × (order ≡ order_word o)) × Says table None
Asked file class order table count (Err (Count word)) =
    (word.now ≡ count) × ((c : ClassName) × (class ≡ class_word c)) × ((o : Endianness) × (order ≡ order_word o)) × ((n : ℕ) × Says table (Some n)) × Says count None

-- The k-th word.
abbrev pub word : List (List ℕ) → ℕ → List ℕ
word words k = slice_index_or words k []

-- What the words behind `inventory` ask for.
pub record Inventoried (words : List (List ℕ)) (r : Result Command Usage) : Type 0 where
  pub five : length words ≡ 5 → Asked (word words 0) (word words 1) (word words 2) (word words 3) (word words 4) r
  pub other : (length words ≢ 5) → r ≡ Err (Arguments (length words))

abbrev pub HelpWord : List ℕ → Type 0
HelpWord w = (w ≡ codes "--help") ⊎ ((w ≡ codes "-h") ⊎ (w ≡ codes "help"))

-- What the words behind the program's name ask for.
pub record Parsed (words : List (List ℕ)) (r : Result Command Usage) : Type 0 where
  pub none : length words ≡ 0 → r ≡ Err NoCommand
  pub help : 0 < length words → HelpWord (word words 0) → r ≡ Ok Help
  pub inventory : 0 < length words → word words 0 ≡ codes "inventory" → Inventoried (drop 1 words) r
  pub unknown : 0 < length words → (HelpWord (word words 0) → ⊥) → (word words 0 ≢ codes "inventory")
      → (w : Bor (List ℕ)) × (w.now ≡ word words 0) × (r ≡ Err (UnknownCommand w))

-- What a wrong use is told.
abbrev pub told : Usage → List ℕ
told NoCommand = codes "no command is given"
told (UnknownCommand w) = codes "there is no command '" ++ (w.now ++ codes "'")
told (Arguments n) = codes "inventory takes FILE CLASS ORDER TABLE COUNT, which are 5 words, and not " ++ decimal n
told (Class w) = codes "CLASS is 32 or 64, and not '" ++ (w.now ++ codes "'")
told (Order w) = codes "ORDER is little or big, and not '" ++ (w.now ++ codes "'")
told (Table w) = codes "TABLE is a number up to 18446744073709551615, in decimal or after 0x, and not '" ++ (w.now ++ codes "'")
told (Count w) = codes "COUNT is a number up to 18446744073709551615, in decimal or after 0x, and not '" ++ (w.now ++ codes "'")
