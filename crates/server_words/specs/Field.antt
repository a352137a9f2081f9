-- The fields of the words of `serve` and `member`. They are this project's choice.
use Rattle.std.specs.Prelude.{ℕ, ◌==◌, ◌&&◌, ◌||◌, not, nat_le, Bool, true, List, [], ◌∷◌, length, slice_index, Option, Some, None, is_some, option_and_then, option_map, if◌then◌else◌}
use Rattle.std.specs.List.{before_first, after_first, list_all, list_any}
use Rattle.std.specs.Str.{bytes_eq}
use Rattle.std.specs.Char.{is_ascii_alphanumeric}
use Rattle.script_words.specs.Number.{number_within}
use Rattle.script_words.specs.Field.{is_name}

-- what is made of a value, where there is one
abbrev pub given : {A B : Type 0} → Option A → (A → Option B) → Option B
given value make = option_and_then make value

-- what all words say, where each says something
abbrev pub each_of : {A : Type 0} → (List ℕ → Option A) → List (List ℕ) → Option (List A)
each_of read [] = Some []
each_of read (word ∷ words) = given (read word) (λ value. option_map (λ values. value ∷ values) (each_of read words))

-- ---- addresses

abbrev pub is_colon : ℕ → Bool
is_colon byte = byte == 58

-- a letter, a digit, a point or a hyphen
abbrev pub is_host_character : ℕ → Bool
is_host_character byte = is_ascii_alphanumeric byte || (byte == 46 || byte == 45)

-- 1 to 253 of these, the first no hyphen
abbrev pub is_host : List ℕ → Bool
is_host host = nat_le 1 (length host) && nat_le (length host) 253 && list_all is_host_character host && not (slice_index host 0 == 45)

abbrev pub is_port : List ℕ → Bool
is_port word = is_some (number_within 0 65535 word)

-- a host, a colon and a port
unfoldable pub is_address : List ℕ → Bool
is_address word = is_host (before_first is_colon word) && is_port (after_first is_colon word)

abbrev pub address_of : List ℕ → Option (List ℕ)
address_of word = if is_address word then Some word else None

-- ---- numbers

abbrev pub sessions_of : List ℕ → Option ℕ
sessions_of word = number_within 1 1000000 word

abbrev pub workers_of : List ℕ → Option ℕ
workers_of word = number_within 1 64 word

abbrev pub cap_of : List ℕ → Option ℕ
cap_of word = number_within 1 32 word

-- ---- members of a group: an address, an equals sign and a weight

abbrev pub is_equals_sign : ℕ → Bool
is_equals_sign byte = byte == 61

abbrev pub member_address : List ℕ → Option (List ℕ)
member_address word = address_of (before_first is_equals_sign word)

abbrev pub member_weight : List ℕ → Option ℕ
member_weight word = number_within 0 65535 (after_first is_equals_sign word)

-- so many members may be told
abbrev pub is_number_of_members : ℕ → Bool
is_number_of_members count = nat_le 1 count && nat_le count 32

-- ---- users

-- a name, a colon and a password
abbrev pub user_of : List ℕ → Option (List ℕ × List ℕ)
user_of word =
    if is_name (before_first is_colon word) && is_name (after_first is_colon word)
    then Some (before_first is_colon word, after_first is_colon word)
    else None

abbrev pub has_user : List ℕ → List (List ℕ × List ℕ) → Bool
has_user name users = list_any (λ user. bytes_eq user.0 name) users

-- no two have one name
abbrev pub are_distinct : List (List ℕ × List ℕ) → Bool
are_distinct [] = true
are_distinct (user ∷ users) = not (has_user user.0 users) && are_distinct users

unfoldable pub users_of : List (List ℕ) → Option (List (List ℕ × List ℕ))
users_of words = given (each_of user_of words) (λ users. if are_distinct users then Some users else None)
