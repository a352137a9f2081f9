-- Tests of lines and words. They are this project's choice.
use Rattle.std.specs.Prelude.{ℕ, List, ◌&&◌, nat_le, nat_lt, length, Bool, Option, Some, None, if◌then◌else◌}
use Rattle.std.specs.List.{list_all}
use Rattle.reply_texts.specs.Name.{is_name_character}
use Rattle.reply_texts.specs.Text.{is_text}

-- printable ASCII
abbrev pub is_printable : ℕ → Bool
is_printable byte = nat_le 32 byte && nat_le byte 126

-- 1 to 8 of A to Z and 0 to 9
abbrev pub is_name : List ℕ → Bool
is_name word = nat_le 1 (length word) && nat_le (length word) 8 && list_all is_name_character word

-- a statement's text: at least one character, each of which has a code in EBCDIC
abbrev pub text_read : List ℕ → Option (List ℕ)
text_read rest = if nat_lt 0 (length rest) && is_text rest then Some rest else None
