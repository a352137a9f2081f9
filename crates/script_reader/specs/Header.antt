-- What the lines of a header add, or None where a field isn't as said. This grammar is this project's choice.
use Rattle.std.specs.Prelude.{ℕ, List, [], ◌∷◌, ◌++◌, ◌+◌, ◌==◌, ◌&&◌, not, if◌then◌else◌, length, Option, Some, None, option_map, Result, ok_or}
use Rattle.reply_texts.specs.Name.{is_rdb_name}
use Rattle.server_list.specs.Lists.{no_rows, with_row}
use Rattle.gateway_setup.specs.Sent.{is_free, with_sent}
use Rattle.script_words.specs.Number.{number_within}
use Rattle.script_words.specs.Field.{is_name}
use Rattle.script_words.specs.Words.{word, behind, words_of}
use Rattle.script_reader.specs.Names.{is_user, is_row}
use Rattle.script_reader.specs.declared.script.ScriptWhy.{ScriptWhy}
use Rattle.script_reader.specs.declared.script.ScriptWhy.TheVariants.{Field}
use Rattle.script_words.specs.declared.keyword.HeaderWord.{HeaderWord}
use Rattle.script_words.specs.declared.keyword.HeaderWord.TheVariants as header
use Rattle.script_reader.specs.ScriptText.{ScriptText}
use Rattle.script_reader.specs.Draft.{DraftText}
use Rattle.script_reader.specs.Weights.{◌>>=◌, listed_member, weights_read, sent_by_all}

-- rdb NAME
unfoldable pub rdb_read : ScriptText → List ℕ → Option ScriptText
rdb_read text line = if is_rdb_name (word 1 line) then Some (record text { rdb = word 1 line }) else None

-- cap N
unfoldable pub cap_read : ScriptText → List ℕ → Option ScriptText
cap_read text line = option_map (λ n. record text { cap = n }) (number_within 1 32 (word 1 line))

-- member M W: the members are numbered from 1
unfoldable pub member_read : ScriptText → List ℕ → Option ScriptText
member_read text line = do
  n ← number_within 1 32 (word 1 line)
  w ← number_within 0 65535 (word 2 line)
  if n == length text.list.rows + 1
      then Some (record text { list = with_row text.list (record { member = n; weight = w }) })
      else None

-- list M=W ..: each member sends this list
unfoldable pub list_read : ScriptText → List ℕ → Option ScriptText
list_read text line = do
  list ← weights_read text.list.rows no_rows (words_of (behind 1 line))
  Some (record text { sent = sent_by_all text.sent list text.list.rows })

-- list2 M N K=W ..: member M sends this list with number N, and no other
unfoldable pub numbered_read : ScriptText → List ℕ → Option ScriptText
numbered_read text line = do
  m ← listed_member text.list.rows (word 1 line)
  n ← number_within 1 4294967295 (word 2 line)
  list ← weights_read text.list.rows (record no_rows { number = n }) (words_of (behind 3 line))
  if is_free text.sent m then Some (record text { sent = with_sent text.sent m list }) else None

-- user NAME PASSWORD: no name comes twice
unfoldable pub user_read : ScriptText → List ℕ → Option ScriptText
user_read text line =
    if is_name (word 1 line) && is_name (word 2 line) && not (is_user (word 1 line) text.users)
    then Some (record text { users = text.users ++ record { name = word 1 line; password = word 2 line } ∷ [] })
    else None

-- row SCHEMA KEY TEXT: no schema and key come twice
unfoldable pub row_read : ScriptText → List ℕ → Option ScriptText
row_read text line = do
  key ← number_within 0 999999999 (word 2 line)
  if is_name (word 1 line) && is_name (word 3 line) && not (is_row (word 1 line) key text.rows)
      then Some (record text { rows = text.rows ++ record { schema = word 1 line; key = key; text = word 3 line } ∷ [] })
      else None

-- what a line of the header adds
unfoldable pub header_read : HeaderWord → ScriptText → List ℕ → Option ScriptText
header_read header.Rdb text line = rdb_read text line
header_read header.Cap text line = cap_read text line
header_read header.Member text line = member_read text line
header_read header.List text line = list_read text line
header_read header.NumberedList text line = numbered_read text line
header_read header.User text line = user_read text line
header_read header.Row text line = row_read text line

-- a header that is read further
abbrev pub with_text : DraftText → Option ScriptText → Result DraftText ScriptWhy
with_text draft text = ok_or (option_map (λ more. record draft { text = more }) text) Field
