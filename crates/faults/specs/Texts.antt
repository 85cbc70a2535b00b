-- What is printed of a fault: its number, what happened, and where.
use Rattle.std.specs.Prelude.{ℕ, ◌-◌, cond, List, [], ◌∷◌, ◌++◌, Some, None, codes, decimal, Option, ◌==◌, slice_index_or}
use Rattle.std.specs.Option.{option_map, unwrap_or}
use Rattle.faults.specs.Numbers.{number}
use Rattle.faults.specs.declared.Place.{Place}
use Rattle.faults.specs.declared.Place.TheVariants.{Section, Record, Subsection, Block}
use Rattle.faults.specs.declared.Cause.{Cause}
use Rattle.faults.specs.declared.Cause.TheVariants.{Short, Wide}
use Rattle.faults.specs.declared.Fault.{Fault}
use Rattle.faults.specs.declared.FaultKind.{FaultKind}
use Rattle.faults.specs.declared.FaultKind.TheVariants.{HeaderTableOutside, TooManyHeaders, FirstHeaderRelocates, ChainTableWrongLength, NoSuchSection, TargetRelocates, ChainOfOtherCount, WindowOutside, SourceTooLong, InfoOutside, InfoRelocates, PayloadOutside, PayloadNotWholeRecords, GroupNotWholeWords, CrelHeaderUnreadable, CrelOffsetUnreadable, CrelSymbolUnreadable, CrelTypeUnreadable, CrelAddendUnreadable, AttributesVersionUnknown, SubsectionTooShort, SubsectionLengthWrong, VendorUnended, BlockTooShort, BlockLengthWrong, IndexListUnended, BlockTagUnknown, IndexTooWide, AttributeTagUnreadable, AttributeIntegerUnreadable, AttributeStringUnended, ForeignChain}

-- What happened, in words, from fault 1 on.
abbrev pub texts : List (List ℕ)
texts =
    codes "the section header table lies outside the source" ∷
    codes "more than 65535 section headers" ∷
    codes "the first section header is a relocation section's" ∷
    codes "the chain's table has not one number for each section header" ∷
    codes "no section has that number" ∷
    codes "the target is a relocation section itself" ∷
    codes "the chain was made for another number of section headers" ∷
    codes "the window reaches past its source" ∷
    codes "the source is longer than 4294967295 bytes" ∷
    codes "sh_info is past the last section header" ∷
    codes "sh_info names a relocation section" ∷
    codes "the payload lies outside the source" ∷
    codes "the payload is not made of whole relocation records" ∷
    codes "the group's length is 0 or no multiple of 4" ∷
    codes "the CREL header is unreadable" ∷
    codes "a CREL record's offset and flags are unreadable" ∷
    codes "a CREL record's symbol is unreadable" ∷
    codes "a CREL record's type is unreadable" ∷
    codes "a CREL record's addend is unreadable" ∷
    codes "build attributes of an unknown version" ∷
    codes "too few bytes for a subsection's length" ∷
    codes "a subsection's length is under 4 or past the payload's end" ∷
    codes "a subsection's vendor name has no end" ∷
    codes "too few bytes for a block's tag and length" ∷
    codes "a block's length is under 5 or past its subsection's end" ∷
    codes "a block's index list has no end" ∷
    codes "a block's tag is none of 1, 2 and 3" ∷
    codes "an index of a block is wider than 32 bits" ∷
    codes "an attribute's tag is unreadable" ∷
    codes "an attribute's integer is unreadable" ∷
    codes "an attribute's text has no end" ∷
    codes "the chain belongs to another object" ∷ []

abbrev pub happened : FaultKind → List ℕ
happened k = slice_index_or texts (number k - 1) []

abbrev pub why : Option Cause → List ℕ
why None = []
why (Some Short) = codes " (a number ran out of bytes)"
why (Some Wide) = codes " (a number is too wide)"

-- What the ordinals count: a record, a subsection, or a subsection and a block in it; else nothing.
abbrev pub placed : FaultKind → ℕ → ℕ → ℕ → Place
placed HeaderTableOutside s a b = Section s
placed TooManyHeaders s a b = Section s
placed FirstHeaderRelocates s a b = Section s
placed ChainTableWrongLength s a b = Section s
placed NoSuchSection s a b = Section s
placed TargetRelocates s a b = Section s
placed ChainOfOtherCount s a b = Section s
placed WindowOutside s a b = Section s
placed SourceTooLong s a b = Section s
placed InfoOutside s a b = Section s
placed InfoRelocates s a b = Section s
placed PayloadOutside s a b = Section s
placed PayloadNotWholeRecords s a b = Section s
placed GroupNotWholeWords s a b = Section s
placed CrelHeaderUnreadable s a b = Section s
placed CrelOffsetUnreadable s a b = Record s a
placed CrelSymbolUnreadable s a b = Record s a
placed CrelTypeUnreadable s a b = Record s a
placed CrelAddendUnreadable s a b = Record s a
placed AttributesVersionUnknown s a b = Section s
placed SubsectionTooShort s a b = Subsection s a
placed SubsectionLengthWrong s a b = Subsection s a
placed VendorUnended s a b = Subsection s a
placed BlockTooShort s a b = Block s a b
placed BlockLengthWrong s a b = Block s a b
placed IndexListUnended s a b = Block s a b
placed BlockTagUnknown s a b = Block s a b
placed IndexTooWide s a b = Block s a b
placed AttributeTagUnreadable s a b = Section s
placed AttributeIntegerUnreadable s a b = Section s
placed AttributeStringUnended s a b = Section s
placed ForeignChain s a b = Section s

-- Section 0 is no place.
abbrev pub place : Fault → Option Place
place f = cond (f.section == 0) None (Some (placed f.kind f.section f.ordinals.0 f.ordinals.1))

abbrev pub whereabouts : Place → List ℕ
whereabouts (Section s) = codes ", in section " ++ decimal s
whereabouts (Record s a) = codes ", in section " ++ (decimal s ++ (codes ", record " ++ decimal a))
whereabouts (Subsection s a) = codes ", in section " ++ (decimal s ++ (codes ", subsection " ++ decimal a))
whereabouts (Block s a b) =
    codes ", in section " ++ (decimal s ++ (codes ", subsection " ++ (decimal a ++ (codes ", block " ++ decimal b))))

abbrev pub text : Fault → List ℕ
text f =
    codes "fault " ++ (decimal (number f.kind) ++ (codes ": " ++ (happened f.kind ++ (why f.cause ++ unwrap_or (option_map whereabouts (place f)) []))))
