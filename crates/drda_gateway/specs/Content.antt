-- What the words of a line add to a script, or None where a field isn't as said. This grammar is this project's choice.
use Rattle.std.specs.Prelude.{ℕ, List, [], ◌∷◌, ◌++◌, ◌+◌, ◌==◌, ◌&&◌, if◌then◌else◌, length, Option, Some, None, option_map, option_and_then, not}
use Rattle.drda_gateway.specs.declared.script.draft.Keyword.{Keyword}
use Rattle.drda_gateway.specs.declared.script.draft.Keyword.TheVariants as keyword
use Rattle.drda_gateway.specs.declared.script.Line.{Line}
use Rattle.drda_gateway.specs.declared.script.Line.TheVariants as line
use Rattle.drda_gateway.specs.Field.{is_name}
use Rattle.hex_lines.specs.Hex.{bytes_of_hex}
use Rattle.drda_gateway.specs.Number.{number_within}
use Rattle.drda_gateway.specs.ScriptText.{ScriptText}
use Rattle.drda_gateway.specs.Users.{is_taken}

infixl 10 ◌>>=◌
abbrev pub ◌>>=◌ : {A B : Type 0} → Option A → (A → Option B) → Option B
o >>= f = option_and_then f o

-- a line more in the body
abbrev pub with_line : ScriptText → Line → ScriptText
with_line text line = record text { lines = text.lines ++ line ∷ [] }

-- rdb NAME
unfoldable pub rdb_read : ScriptText → List ℕ → Option ScriptText
rdb_read text name = if is_name 18 name then Some (record text { rdb = name }) else None

-- cap N
unfoldable pub cap_read : ScriptText → List ℕ → Option ScriptText
cap_read text number = option_map (λ n. record text { cap = n }) (number_within 1 32 number)

-- member M W: the members are numbered from 1
unfoldable pub member_read : ScriptText → List ℕ → List ℕ → Option ScriptText
member_read text number weight = do
  n ← number_within 1 32 number
  w ← number_within 0 65535 weight
  if n == length text.members + 1
      then Some (record text { members = text.members ++ record { number = n; weight = w } ∷ [] })
      else None

-- user NAME PASSWORD: no name comes twice
unfoldable pub user_read : ScriptText → List ℕ → List ℕ → Option ScriptText
user_read text name password =
    if is_name 8 name && is_name 8 password && not (is_taken name text.users)
    then Some (record text { users = text.users ++ record { name = name; password = password } ∷ [] })
    else None

-- app I: these bytes come from the application
unfoldable pub app_read : ScriptText → List ℕ → List ℕ → Option ScriptText
app_read text app bytes = option_map (λ i. with_line text (line.App i bytes)) (number_within 1 64 app)

-- take I N
unfoldable pub take_read : ScriptText → List ℕ → List ℕ → Option ScriptText
take_read text app count = do
  i ← number_within 1 64 app
  n ← number_within 1 65536 count
  Some (with_line text (line.Take i n))

-- settle N
unfoldable pub settle_read : ScriptText → List ℕ → Option ScriptText
settle_read text budget = option_map (λ n. with_line text (line.Settle n)) (number_within 1 1000000 budget)

-- the bytes that the third word spells, and none where there are but two words
unfoldable pub bytes_read : ℕ → List ℕ → Option (List ℕ)
bytes_read count third = if count == 2 then Some [] else bytes_of_hex third

-- The fields of a line with this first word: how many words the line has, and its second and third word.
unfoldable pub fields_read : Keyword → ScriptText → ℕ → List ℕ → List ℕ → Option ScriptText
fields_read keyword.Rdb text count second third = rdb_read text second
fields_read keyword.Cap text count second third = cap_read text second
fields_read keyword.Member text count second third = member_read text second third
fields_read keyword.User text count second third = user_read text second third
fields_read keyword.App text count second third = bytes_read count third >>= λ bytes. app_read text second bytes
fields_read keyword.Take text count second third = take_read text second third
fields_read keyword.Settle text count second third = settle_read text second
