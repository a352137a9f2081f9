-- The rounds of a conversation: a chain that is sent, and what its reply is for. DDM, volume 3, EXCSAT, ACCSEC, SECCHK, ACCRDB; DRDA,
-- volume 3, EXCSQLSET. That a chain is sent when the reply to the one before is whole is this project's own.
use Rattle.std.specs.Prelude.{ℕ, Bool, true, false, List, [], ◌∷◌, ◌++◌, map, Option, Some, None}
use Rattle.access_handshake.specs.declared.access.Access.{Access}
use Rattle.access_handshake.specs.declared.stage.Stage.{Stage}
use Rattle.access_handshake.specs.declared.stage.Stage.TheVariants.{New, Attached, Chosen, Checked, Accessed}
use Rattle.unit_segments.specs.declared.command.Command.{Command}
use Rattle.unit_segments.specs.Registers.{Register}
use Rattle.unit_segments.specs.Spelling.{chain_bytes}
use Rattle.unit_segments.specs.Release.{asked_bytes}
use Rattle.unit_segments.specs.Handshake.{hello_chains, replayed, in_chains, again_chains}
use Rattle.requester_core.specs.declared.round.Round.{Round}
use Rattle.requester_core.specs.declared.round.Round.TheVariants as round

abbrev pub commands_of : Round → List Command
commands_of (round.Access commands) = commands
commands_of (round.Again commands) = commands
commands_of (round.Work segment) = segment

-- its chain: a segment is asked for release at its end
abbrev pub bytes_of : Round → List ℕ
bytes_of (round.Access commands) = chain_bytes commands
bytes_of (round.Again commands) = chain_bytes commands
bytes_of (round.Work segment) = asked_bytes segment

abbrev pub is_work : Round → Bool
is_work (round.Access commands) = false
is_work (round.Again commands) = false
is_work (round.Work segment) = true

-- ---- those that a conversation needs

-- in front of a segment, in order: on a conversation where nothing was said, or one where the server's attributes are known alone
abbrev pub silent : List ℕ → Stage → Access → List Register → List Command → Bool → List Round
silent name stage access log again dialled =
    map round.Access (hello_chains dialled) ++ map round.Access (in_chains (replayed name stage access log)) ++ map round.Again (again_chains stage again)

-- a conversation that has come further needs none
abbrev pub needed : Stage → List ℕ → Stage → Access → List Register → List Command → List Round
needed New name stage access log again = silent name stage access log again true
needed Attached name stage access log again = silent name stage access log again false
needed Chosen name stage access log again = []
needed Checked name stage access log again = []
needed Accessed name stage access log again = []

-- the segment, where one is given
abbrev pub work : Option (List Command) → List Round
work None = []
work (Some segment) = round.Work segment ∷ []
