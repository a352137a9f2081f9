-- Commands and replies as they are written: DRDA, volume 3, DSS: chaining. That they are written in this one way is this
-- project's choice.
use Rattle.std.specs.Prelude.{ℕ, ◌+◌, ◌==◌, Bool, true, false, not, ◌&&◌, ◌||◌, List, [], ◌∷◌, ◌++◌}
use Rattle.std.specs.List.{flat_map}
use Rattle.dss_frame.specs.declared.dss.Kind.{Kind}
use Rattle.dss_frame.specs.declared.dss.Kind.TheVariants.{Request, Object}
use Rattle.dss_frame.specs.declared.dss.Dss.{Dss}
use Rattle.dss_frame.specs.Dss.{canonical}
use Rattle.unit_segments.specs.declared.command.Command.{Command}

abbrev pub is_last : {X : Type 0} → List X → Bool
is_last [] = true
is_last (x ∷ xs) = false

-- ---- commands

-- One DSS of a command. The last one says whether other commands follow, and whether these run after an error; each other
-- one that the next DSS has the same number.
abbrev pub command_dss : Kind → Command → Bool → Bool → List ℕ → Dss
command_dss kind command followed ends body = record {
  kind = kind;
  chained = not ends || followed;
  same = not ends;
  go_on = ends && followed && command.go_on;
  corr = command.corr;
  body = body;
}

abbrev pub object_dsss : Command → Bool → List (List ℕ) → List Dss
object_dsss command followed [] = []
object_dsss command followed (body ∷ bodies) =
    command_dss Object command followed (is_last bodies) body ∷ object_dsss command followed bodies

-- the DSSs of a command, which others follow or don't: its request and its objects
abbrev pub command_dsss : Bool → Command → List Dss
command_dsss followed command =
    command_dss Request command followed (is_last command.objects) command.body
    ∷ object_dsss command followed command.objects

-- the DSSs of a chain of commands
abbrev pub chain_dsss : List Command → List Dss
chain_dsss [] = []
chain_dsss (command ∷ commands) = command_dsss (not (is_last commands)) command ++ chain_dsss commands

-- the bytes of a chain of commands
unfoldable pub chain_bytes : List Command → List ℕ
chain_bytes commands = flat_map canonical (chain_dsss commands)

-- the commands with the correlation numbers from this one on
abbrev pub numbered : ℕ → List Command → List Command
numbered number [] = []
numbered number (command ∷ commands) = record command { corr = number } ∷ numbered (number + 1) commands

-- ---- replies

abbrev pub has_number : ℕ → List Dss → Bool
has_number number [] = false
has_number number (d ∷ replies) = d.corr == number

-- a reply with these behind it
abbrev pub linked : Dss → List Dss → Dss
linked d replies = record d { chained = not (is_last replies); same = has_number d.corr replies; go_on = false }

-- The replies as one chain: each but the last is chained, and says whether the next has the same number; none says that
-- the chain goes on after an error.
abbrev pub joined : List Dss → List Dss
joined [] = []
joined (d ∷ replies) = linked d replies ∷ joined replies

-- the bytes of a chain of replies
unfoldable pub join : List Dss → List ℕ
join replies = flat_map canonical (joined replies)
