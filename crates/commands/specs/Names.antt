-- The names of section types.
use Rattle.std.specs.Prelude.{ℕ, cond, List, [], ◌∷◌, Some, None, codes, Option, ◌==◌, nat_le}
use Rattle.std.specs.Option.{unwrap_or}

-- The types that mean the same on every machine: those of the gABI, CREL, and GNU's.
abbrev pub names : List (ℕ × List ℕ)
names =
    (0, codes "NULL") ∷
    (1, codes "PROGBITS") ∷
    (2, codes "SYMTAB") ∷
    (3, codes "STRTAB") ∷
    (4, codes "RELA") ∷
    (5, codes "HASH") ∷
    (6, codes "DYNAMIC") ∷
    (7, codes "NOTE") ∷
    (8, codes "NOBITS") ∷
    (9, codes "REL") ∷
    (10, codes "SHLIB") ∷
    (11, codes "DYNSYM") ∷
    (14, codes "INIT_ARRAY") ∷
    (15, codes "FINI_ARRAY") ∷
    (16, codes "PREINIT_ARRAY") ∷
    (17, codes "GROUP") ∷
    (18, codes "SYMTAB_SHNDX") ∷
    (19, codes "RELR") ∷
    (1073741844, codes "CREL") ∷
    (1879048181, codes "GNU_ATTRIBUTES") ∷
    (1879048182, codes "GNU_HASH") ∷
    (1879048183, codes "GNU_LIBLIST") ∷
    (1879048189, codes "GNU_VERDEF") ∷
    (1879048190, codes "GNU_VERNEED") ∷
    (1879048191, codes "GNU_VERSYM") ∷ []

-- The first name of a number in a table.
abbrev pub named : List (ℕ × List ℕ) → ℕ → Option (List ℕ)
named [] t = None
named (p ∷ rest) t = cond (p.0 == t) (Some p.1) (named rest t)

-- The range of the gABI that another number lies in.
abbrev pub range_name : ℕ → List ℕ
range_name t =
    cond (nat_le 0x8000_0000 t) (codes "(user)")
    (cond (nat_le 0x7000_0000 t) (codes "(processor)")
    (cond (nat_le 0x6000_0000 t) (codes "(system)")
    (codes "(unknown)")))

abbrev pub type_name : ℕ → List ℕ
type_name t = unwrap_or (named names t) (range_name t)
