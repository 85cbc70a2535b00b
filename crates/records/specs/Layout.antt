-- What the text over every class's records asks of a column.
use Rattle.std.specs.Prelude.{◌≡◌, ℕ, ◌+◌, ◌≤◌, cond, List, length, replicate, nat_le}
use Rattle.sources.specs.Source.{part}
use Rattle.classes.specs.Column.{Column, Field}
use Rattle.records.specs.declared.Places.{Places}

-- Where the fields start.
abbrev pub starts : Column → Places
starts c =
    record {
      sh_type = c.sh_type.at;
      sh_offset = c.sh_offset.at;
      sh_size = c.sh_size.at;
      sh_link = c.sh_link.at;
      sh_info = c.sh_info.at;
      r_offset = c.r_offset.at;
      r_info = c.r_info.at;
      r_addend = c.r_addend.at;
    }

-- How many bytes a word has.
abbrev pub word_size : Column → ℕ
word_size c = c.r_offset.size

-- A field of `n` bytes that lies in a record.
pub record Holds (record_size : ℕ) (f : Field) (n : ℕ) : Type 0 where
  pub size : f.size ≡ n
  pub inside : f.at + n ≤ record_size

-- Fields have four bytes or a word, and lie in their records.
pub record IsRegular (c : Column) : Type 0 where
  pub sh_type : Holds c.header c.sh_type 4
  pub sh_offset : Holds c.header c.sh_offset (word_size c)
  pub sh_size : Holds c.header c.sh_size (word_size c)
  pub sh_link : Holds c.header c.sh_link 4
  pub sh_info : Holds c.header c.sh_info 4
  pub r_offset : Holds c.rel c.r_offset (word_size c)
  pub r_info : Holds c.rel c.r_info (word_size c)
  pub r_addend : Holds c.rela c.r_addend (word_size c)
  pub longer : c.rel ≤ c.rela

-- The `size` bytes from a place on; zeros for all of them where there are not so many.
abbrev pub stands_or_zeros : List ℕ → ℕ → ℕ → List ℕ
stands_or_zeros bytes at size = cond (nat_le (at + size) (length bytes)) (part bytes at size) (replicate size 0)
