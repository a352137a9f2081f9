-- The commands `serve` and `member`, as clap's definitions have them. Their words are this project's choice.
use Rattle.std.specs.Prelude.{ℕ, Bool, true, false, ◌&&◌, List, [], ◌∷◌, Option, Some, None, codes, length, ◌==◌, if◌then◌else◌}
use Rattle.std.specs.List.{list_all}
use Rattle.std.specs.Str.{bytes_eq}
use Rattle.clap.specs.Walk.{Text, Row, Rule, is_empty}
use Rattle.clap.specs.Lexer.{usize_max}
use Rattle.clap.specs.Simple.{App, built, matches_of, new_app, new_rule, with_rule}
use Rattle.clap.specs.Takes.{default_passes, takes}
use Rattle.clap.specs.Faults.{is_simple_and_free}

-- an option of this name, which is required and takes one value
abbrev pub option : Text → Rule
option name = record (new_rule name) { long = Some name; required = true }

-- the words behind the options, at least one
abbrev pub rest : Text → Rule
rest name = record (new_rule name) { range = Some (record { start_inclusive = 1; end_inclusive = usize_max }); required = true }

-- a command with options of these names, in order, and then the rest
abbrev pub with_options : App → List Text → Text → App
with_options command [] last = with_rule command (rest last)
with_options command (name ∷ names) last = with_options (with_rule command (option name)) names last

unfoldable pub serve : App
serve = with_options (new_app (codes "serve"))
    (codes "listen" ∷ codes "rdb" ∷ codes "sessions" ∷ codes "workers" ∷ codes "cap" ∷ []) (codes "member")

unfoldable pub member : App
member = with_options (new_app (codes "member")) (codes "listen" ∷ codes "sessions" ∷ codes "workers" ∷ []) (codes "user")

-- the first word is this name
abbrev pub is_named : Text → List Text → Bool
is_named name [] = false
is_named name (word ∷ words) = bytes_eq word name

-- what is found in the words, where the command takes them
abbrev pub found_by : App → List Text → Option (List Row)
found_by command words = if takes command words then Some (matches_of command words) else None

-- Which words a command takes is all that decides on them: it has no rule that clap's definitions leave out, no defaults and no
-- subcommands.
abbrev pub is_plain : App → Bool
is_plain command = is_simple_and_free command && list_all default_passes (built command).top.rules && is_empty (built command).subs
