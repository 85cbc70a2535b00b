-- The layouts that a class has: how large its records are, and where their fields stand.
use Rattle.std.specs.Prelude.{ℕ, ◌*◌, ◌/◌, ◌%◌, ◌^◌, Bool, cond, List, ℤ, Some, None, Option, ◌==◌}
use Rattle.endian.specs.Order.{number, signed}
use Rattle.sources.specs.Source.{part}
use Rattle.classes.specs.declared.Header.{Header}

-- Where a field stands in its record, and how many bytes it has.
pub record Field : Type 0 where
  pub at : ℕ
  pub size : ℕ

pub record Column : Type 0 where
  pub header : ℕ
  pub sh_type : Field
  pub sh_offset : Field
  pub sh_size : Field
  pub sh_link : Field
  pub sh_info : Field
  pub rel : ℕ
  pub rela : ℕ
  pub r_offset : Field
  pub r_info : Field
  pub r_addend : Field
  -- in a byte order, from the bytes of r_info as they are stored
  pub symbol : Bool → List ℕ → ℕ
  pub type : Bool → List ℕ → ℕ

abbrev pub class32 : Column
class32 =
    record {
      header = 40;
      sh_type = record { at = 4; size = 4 };
      sh_offset = record { at = 16; size = 4 };
      sh_size = record { at = 20; size = 4 };
      sh_link = record { at = 24; size = 4 };
      sh_info = record { at = 28; size = 4 };
      rel = 8;
      rela = 12;
      r_offset = record { at = 0; size = 4 };
      r_info = record { at = 4; size = 4 };
      r_addend = record { at = 8; size = 4 };
      symbol = λ big info. number big info / 256;
      type = λ big info. number big info % 256;
    }

abbrev pub class64 : Column
class64 =
    record {
      header = 64;
      sh_type = record { at = 4; size = 4 };
      sh_offset = record { at = 24; size = 8 };
      sh_size = record { at = 32; size = 8 };
      sh_link = record { at = 40; size = 4 };
      sh_info = record { at = 44; size = 4 };
      rel = 16;
      rela = 24;
      r_offset = record { at = 0; size = 8 };
      r_info = record { at = 8; size = 8 };
      r_addend = record { at = 16; size = 8 };
      symbol = λ big info. number big info / 2 ^ 32;
      type = λ big info. number big info % 2 ^ 32;
    }

-- The bytes of a field.
abbrev pub stands : Field → List ℕ → List ℕ
stands f bytes = part bytes f.at f.size

-- The number in a field.
abbrev pub field : Bool → Field → List ℕ → ℕ
field big f bytes = number big (stands f bytes)

-- The same, read as signed.
abbrev pub signed_field : Bool → Field → List ℕ → ℤ
signed_field big f bytes = signed (8 * f.size) (field big f bytes)

-- What the bytes of a section header say.
abbrev pub decoded : Column → Bool → List ℕ → Header
decoded c big bytes =
    record {
      sh_type = field big c.sh_type bytes;
      sh_offset = field big c.sh_offset bytes;
      sh_size = field big c.sh_size bytes;
      sh_link = field big c.sh_link bytes;
      sh_info = field big c.sh_info bytes;
    }

-- Symbol 0 is no symbol.
abbrev pub nonzero : ℕ → Option ℕ
nonzero n = cond (n == 0) None (Some n)
