-- What is written of commands, and bytes as chains: DRDA, volume 3, DSS: chaining.
use Rattle.std.specs.Prelude.{◌≡◌, ℕ, ◌+◌, ◌<◌, ◌≤◌, ◌^◌, not, ◌&&◌, List, [], ◌∷◌, length, take, None}
use Rattle.std.specs.List.{flat_map, AllByRecursion}
use Rattle.dss_frame.specs.declared.dss.Side.TheVariants.{Requests}
use Rattle.dss_frame.specs.declared.dss.Dss.{Dss}
use Rattle.dss_frame.specs.declared.dss.Placed.{Placed}
use Rattle.dss_frame.specs.Dss.{canonical}
use Rattle.dss_frame.specs.Spelling.{Spelled, Spells, Begins}
use Rattle.dss_frame.specs.Told.{read, told, AreAt}
use Rattle.unit_segments.specs.declared.command.Command.{Command}
use Rattle.unit_segments.specs.Limit.{most_commands}
use Rattle.unit_segments.specs.Command.{code_of}
use Rattle.unit_segments.specs.Chain.{no_chain, chains_of}
use Rattle.unit_segments.specs.Grammar.{IsSound, AreChains}
use Rattle.unit_segments.specs.Spelling.{is_last, command_dsss}

-- ---- places

-- how many bytes DSSs have that are written one after another
abbrev pub size_of : List Dss → ℕ
size_of dsss = length (flat_map canonical dsss)

-- DSSs that are written one after another, each with its place, the first at this one
abbrev pub placed_from : ℕ → List Dss → List Placed
placed_from place [] = []
placed_from place (d ∷ dsss) = record { at = told place; dss = d } ∷ placed_from (place + length (canonical d)) dsss

-- The commands of a chain that is written, each with the place of its request, the first at this one. The last doesn't say
-- that the chain goes on after an error, since nothing goes on behind it: this project's choice.
abbrev pub commands_from : ℕ → List Command → List Command
commands_from place [] = []
commands_from place (command ∷ commands) =
    record command { go_on = not (is_last commands) && command.go_on; at = told place }
    ∷ commands_from (place + size_of (command_dsss (not (is_last commands)) command)) commands

-- ---- what is read again

-- A command that is read again as it was written: its body is one, its code point is that of its body, and its number has
-- two bytes.
pub record IsWritable (command : Command) : Type 0 where
  pub corr : command.corr < 2 ^ 16
  pub code : code_of command.body ≡ command.code
  pub sound : IsSound command.body

-- the commands of a chain that is read again as it was written
pub record AreWritable (commands : List Command) : Type 0 where
  pub some : 0 < length commands
  pub count : length commands ≤ most_commands
  pub each : AllByRecursion IsWritable commands

-- The bytes are read as one chain of these commands, and nothing else, where a chain may have so many bytes.
pub record IsReadAs (limit : ℕ) (commands : List Command) (bytes : List ℕ) : Type 0 where
  pub fault : (read Requests limit bytes).fault ≡ None
  pub «open» : (read Requests limit bytes).open ≡ []
  pub chains : chains_of (read Requests limit bytes).whole ≡ record { chains = commands ∷ []; begun = no_chain; fault = None }

-- ---- bytes

-- The bytes are spellings of DSSs, which are chains of these commands, and then a rest: of DSSs that begin no whole chain,
-- and of bytes that begin no spelling.
pub record SpellChains (commands : List (List Command)) (bytes : List ℕ) : Type 0 where
  pub spelled : List Spelled
  pub rest : List ℕ
  pub begins : Begins Requests spelled rest bytes
  pub no_more : (d : Dss) (count : ℕ) → Spells Requests d (take count rest) → ⊥
  pub placed : List Placed
  pub stand : AreAt 0 spelled placed
  pub begun : List Placed
  pub are : AreChains commands begun placed
