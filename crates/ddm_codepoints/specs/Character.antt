-- Characters and their codes in EBCDIC, the same in CCSIDs 37 and 500. IBM Character Data Representation Architecture;
-- that the gateway knows these characters alone is this project's choice.
use Rattle.std.specs.Prelude.{ℕ, ◌+◌, ◌-◌, ◌==◌, List, [], ◌∷◌, ◌++◌, codes, find, length, map, replicate, Option, option_map, unwrap_or, if◌then◌else◌}

-- a character's code in ASCII and in EBCDIC
pub record Character : Type 0 where
  pub ascii : ℕ
  pub ebcdic : ℕ

-- characters whose codes in EBCDIC follow one another, from this one on
abbrev pub row : List ℕ → ℕ → List Character
row [] code = []
row (character ∷ characters) code = record { ascii = character; ebcdic = code } ∷ row characters (code + 1)

-- the characters that have a code
abbrev pub characters : List Character
characters =
    row (codes "ABCDEFGHI") 0xC1 ++ row (codes "JKLMNOPQR") 0xD1 ++ row (codes "STUVWXYZ") 0xE2
    ++ row (codes "abcdefghi") 0x81 ++ row (codes "jklmnopqr") 0x91 ++ row (codes "stuvwxyz") 0xA2
    ++ row (codes "0123456789") 0xF0
    ++ row (codes " ") 0x40
    ++ row (codes ".<(+") 0x4B
    ++ row (codes "&") 0x50
    ++ row (codes "*);") 0x5C
    ++ row (codes "-/") 0x60
    ++ row (codes ",%_>?") 0x6B
    ++ row (codes ":") 0x7A
    ++ row (codes "'=" ++ 0x22 ∷ []) 0x7D

-- the code in EBCDIC of a character that is given by its code in ASCII
unfoldable pub ebcdic_of : ℕ → Option ℕ
ebcdic_of ascii = option_map (λ character. character.ebcdic) (find (λ character. character.ascii == ascii) characters)

-- the code in ASCII of a character that is given by its code in EBCDIC
unfoldable pub ascii_of : ℕ → Option ℕ
ascii_of ebcdic = option_map (λ character. character.ascii) (find (λ character. character.ebcdic == ebcdic) characters)

-- a space in EBCDIC
abbrev pub space : ℕ
space = 0x40

-- A text in EBCDIC. A character that has no code becomes a space: this project's choice.
abbrev pub ebcdic_text : List ℕ → List ℕ
ebcdic_text text = map (λ ascii. unwrap_or (ebcdic_of ascii) space) text

-- an RDB name in EBCDIC, as long as RDBNAM has it: DDM, volume 3, RDBNAM
abbrev pub padded_name : List ℕ → List ℕ
padded_name name = ebcdic_text name ++ replicate (18 - length name) space

abbrev pub without_blank : ℕ → List ℕ → List ℕ
without_blank byte [] = if byte == space then [] else byte ∷ []
without_blank byte (next ∷ bytes) = byte ∷ next ∷ bytes

-- the bytes up to the last one that is no space in EBCDIC
abbrev pub trimmed : List ℕ → List ℕ
trimmed [] = []
trimmed (byte ∷ bytes) = without_blank byte (trimmed bytes)
