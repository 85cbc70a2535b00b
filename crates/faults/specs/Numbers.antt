-- What a promise sees of a fault: the five numbers that it holds.
use Rattle.std.specs.Prelude.{◌≡◌, ℕ, Some, None, Ok, Err, Option, Result, MatchResult}
use Rattle.faults.specs.declared.Cause.{Cause}
use Rattle.faults.specs.declared.Cause.TheVariants.{Short, Wide}
use Rattle.faults.specs.declared.Fault.{Fault}
use Rattle.faults.specs.declared.FaultKind.{FaultKind}
use Rattle.faults.specs.declared.FaultKind.TheVariants.{HeaderTableOutside, TooManyHeaders, FirstHeaderRelocates, ChainTableWrongLength, NoSuchSection, TargetRelocates, ChainOfOtherCount, WindowOutside, SourceTooLong, InfoOutside, InfoRelocates, PayloadOutside, PayloadNotWholeRecords, GroupNotWholeWords, CrelHeaderUnreadable, CrelOffsetUnreadable, CrelSymbolUnreadable, CrelTypeUnreadable, CrelAddendUnreadable, AttributesVersionUnknown, SubsectionTooShort, SubsectionLengthWrong, VendorUnended, BlockTooShort, BlockLengthWrong, IndexListUnended, BlockTagUnknown, IndexTooWide, AttributeTagUnreadable, AttributeIntegerUnreadable, AttributeStringUnended, ForeignChain}

-- The number of each kind of fault. 1 to 9 and 32 are the caller's, 10 to 31 the file's.
abbrev pub number : FaultKind → ℕ
number HeaderTableOutside = 1
number TooManyHeaders = 2
number FirstHeaderRelocates = 3
number ChainTableWrongLength = 4
number NoSuchSection = 5
number TargetRelocates = 6
number ChainOfOtherCount = 7
number WindowOutside = 8
number SourceTooLong = 9
number InfoOutside = 10
number InfoRelocates = 11
number PayloadOutside = 12
number PayloadNotWholeRecords = 13
number GroupNotWholeWords = 14
number CrelHeaderUnreadable = 15
number CrelOffsetUnreadable = 16
number CrelSymbolUnreadable = 17
number CrelTypeUnreadable = 18
number CrelAddendUnreadable = 19
number AttributesVersionUnknown = 20
number SubsectionTooShort = 21
number SubsectionLengthWrong = 22
number VendorUnended = 23
number BlockTooShort = 24
number BlockLengthWrong = 25
number IndexListUnended = 26
number BlockTagUnknown = 27
number IndexTooWide = 28
number AttributeTagUnreadable = 29
number AttributeIntegerUnreadable = 30
number AttributeStringUnended = 31
number ForeignChain = 32

-- The cause: 1 where a number ran out of bytes, 2 where it was too wide, else 0.
abbrev pub cause_number : Option Cause → ℕ
cause_number None = 0
cause_number (Some Short) = 1
cause_number (Some Wide) = 2

pub record FaultNumbers : Type 0 where
  pub number : ℕ
  pub cause : ℕ
  pub section : ℕ
  pub first : ℕ
  pub second : ℕ

abbrev pub numbers : Fault → FaultNumbers
numbers f =
    record { number = number f.kind; cause = cause_number f.cause; section = f.section; first = f.ordinals.0; second = f.ordinals.1 }

-- A fault of the caller's, or one read directly, has neither cause nor place.
abbrev pub direct : ℕ → FaultNumbers
direct n = record { number = n; cause = 0; section = 0; first = 0; second = 0 }

-- An answer is the expected one: its value as `seen`, or its fault by its numbers.
abbrev pub Gives : {X Y : Type 0} → (X → Y) → Result X Fault → Result Y FaultNumbers → Type 0
Gives seen r expected = MatchResult r (λ x. expected ≡ Ok (seen x)) (λ f. expected ≡ Err (numbers f))
