-- The commands that a line may be, or None where a field isn't as said. This grammar is this project's choice.
use Rattle.std.specs.Prelude.{ℕ, Bool, if◌then◌else◌, List, drop, take, Option, Some, option_map, codes}
use Rattle.std.specs.Str.{bytes_eq}
use Rattle.ddm_codepoints.specs.CodePoint.{excsqlimm, excsqlset, opnqry, cntqry, clsqry, rdbcmm, rdbrllbck}
use Rattle.unit_segments.specs.declared.command.Command.{Command}
use Rattle.script_commands.specs.Commands.{statement_command, prepare_command, section_command, unit_end_command}
use Rattle.script_words.specs.declared.keyword.CommandWord.{CommandWord}
use Rattle.script_words.specs.declared.keyword.CommandWord.TheVariants.{Sql, Set, Prepare, Open, Fetch, Close, Commit, RollBack}
use Rattle.script_words.specs.Number.{number_within}
use Rattle.script_words.specs.Field.{text_read}
use Rattle.script_words.specs.Words.{word, behind}
use Rattle.script_reader.specs.Weights.{◌>>=◌}

-- sql I TEXT, set I TEXT
unfoldable pub statement_read : ℕ → ℕ → List ℕ → Option Command
statement_read code corr line = option_map (statement_command code corr) (text_read (behind 2 line))

-- the text asks for a held cursor
abbrev pub asks_hold : List ℕ → Bool
asks_hold text = bytes_eq (take 5 text) (codes "hold ")

-- the statement of such a text
abbrev pub without_hold : List ℕ → List ℕ
without_hold text = if asks_hold text then drop 5 text else text

-- TEXT, or hold TEXT
unfoldable pub prepared_read : ℕ → List ℕ → ℕ → List ℕ → Option Command
prepared_read corr rdb section text =
    option_map (prepare_command corr rdb section (asks_hold text)) (text_read (without_hold text))

abbrev pub section_of : List ℕ → Option ℕ
section_of line = number_within 0 65535 (word 2 line)

-- prepare I S TEXT, prepare I S hold TEXT
unfoldable pub prepare_read : ℕ → List ℕ → List ℕ → Option Command
prepare_read corr rdb line = section_of line >>= λ section. prepared_read corr rdb section (behind 3 line)

-- open I S, fetch I S, close I S
unfoldable pub section_read : ℕ → ℕ → List ℕ → List ℕ → Option Command
section_read code corr rdb line = option_map (section_command code corr rdb) (section_of line)

-- the command with this number that the line is
unfoldable pub command_read : CommandWord → ℕ → List ℕ → List ℕ → Option Command
command_read Sql corr rdb line = statement_read excsqlimm corr line
command_read Set corr rdb line = statement_read excsqlset corr line
command_read Prepare corr rdb line = prepare_read corr rdb line
command_read Open corr rdb line = section_read opnqry corr rdb line
command_read Fetch corr rdb line = section_read cntqry corr rdb line
command_read Close corr rdb line = section_read clsqry corr rdb line
command_read Commit corr rdb line = Some (unit_end_command rdbcmm corr)
command_read RollBack corr rdb line = Some (unit_end_command rdbrllbck corr)
