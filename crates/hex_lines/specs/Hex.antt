-- Bytes spelled in hexadecimal. That texts of lines spell bytes so is this project's choice.
use Rattle.std.specs.Prelude.{ℕ, List, [], ◌∷◌, ◌+◌, ◌-◌, ◌*◌, ◌&&◌, nat_le, if◌then◌else◌, Option, Some, None, option_and_then, option_map}

-- the value of a digit, in either case
abbrev pub hex_digit : ℕ → Option ℕ
hex_digit byte =
    if nat_le 48 byte && nat_le byte 57 then Some (byte - 48)
    else (if nat_le 65 byte && nat_le byte 70 then Some (byte - 55)
    else (if nat_le 97 byte && nat_le byte 102 then Some (byte - 87)
    else None))

-- the byte of two digits
abbrev pub hex_byte : ℕ → ℕ → Option ℕ
hex_byte high low = option_and_then (λ h. option_map (λ l. h * 16 + l) (hex_digit low)) (hex_digit high)

-- a byte for each two digits
abbrev pub bytes_of_pairs : List ℕ → Option (List ℕ)
bytes_of_pairs [] = Some []
bytes_of_pairs (high ∷ []) = None
bytes_of_pairs (high ∷ low ∷ digits) = option_and_then (λ byte. option_map (λ bytes. byte ∷ bytes) (bytes_of_pairs digits)) (hex_byte high low)

-- at least one byte
abbrev pub bytes_of_hex : List ℕ → Option (List ℕ)
bytes_of_hex [] = None
bytes_of_hex (digit ∷ digits) = bytes_of_pairs (digit ∷ digits)
