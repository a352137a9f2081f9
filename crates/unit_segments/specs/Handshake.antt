-- What a session sends on a transport before its segment, so that the conversation there stands where the session does: DDM,
-- volume 3, EXCSAT, ACCSEC, SECCHK, ACCRDB; DRDA, volume 3, EXCSQLSET. That these are sent again, and in which chains, is
-- this project's own.
use Rattle.std.specs.Prelude.{ℕ, Bool, if◌then◌else◌, List, [], ◌∷◌, ◌++◌, length, map, nat_le, true, false}
use Rattle.ddm_codepoints.specs.CodePoint.{excsat, accsec, secchk, accrdb}
use Rattle.access_handshake.specs.declared.access.Access.{Access}
use Rattle.access_handshake.specs.declared.stage.Stage.{Stage}
use Rattle.access_handshake.specs.declared.stage.Stage.TheVariants.{New, Attached, Chosen, Checked, Accessed}
use Rattle.access_handshake.specs.Access.{hello_object, accsec_object}
use Rattle.unit_segments.specs.declared.command.Command.{Command}
use Rattle.unit_segments.specs.Limit.{most_chain_bytes}
use Rattle.unit_segments.specs.Spelling.{numbered, chain_bytes}
use Rattle.unit_segments.specs.Registers.{Register, log_chain}

-- a command of the gateway's own, without objects
abbrev pub own_command : ℕ → List ℕ → Command
own_command code body = record { code = code; corr = 1; go_on = false; at = 0; body = body; objects = [] }

-- ---- hello

-- the gateway's EXCSAT, where the transport was dialled
abbrev pub hello_chains : Bool → List (List Command)
hello_chains true = (own_command excsat hello_object ∷ []) ∷ []
hello_chains false = []

-- ---- access and registers

-- The commands that lead from a server that knows the gateway alone to a stage: with the name of the gateway's database in
-- ACCSEC, and the application's own SECCHK and ACCRDB.
abbrev pub access_commands : List ℕ → Stage → Access → List Command
access_commands name New access = []
access_commands name Attached access = []
access_commands name Chosen access = own_command accsec (accsec_object access.secmec name) ∷ []
access_commands name Checked access = own_command accsec (accsec_object access.secmec name) ∷ own_command secchk access.secchk ∷ []
access_commands name Accessed access =
    own_command accsec (accsec_object access.secmec name) ∷ own_command secchk access.secchk ∷ own_command accrdb access.accrdb ∷ []

-- one EXCSQLSET with the registers, where the database was accessed and there are any
abbrev pub register_commands : Stage → List Register → List Command
register_commands Accessed log = log_chain log
register_commands _ log = []

-- what leads to a stage and its registers
abbrev pub replayed : List ℕ → Stage → Access → List Register → List Command
replayed name stage access log = access_commands name stage access ++ register_commands stage log

-- each of them as a chain of its own, numbered 1
abbrev pub each_alone : List Command → List (List Command)
each_alone commands = map (λ command. numbered 1 (command ∷ [])) commands

-- the commands as one chain, numbered from 1, is no longer than a chain may be
abbrev pub fits_one_chain : List Command → Bool
fits_one_chain commands = nat_le (length (chain_bytes (numbered 1 commands))) most_chain_bytes

-- as one chain, where there are any; where that would be too long each is a chain of its own
abbrev pub in_chains : List Command → List (List Command)
in_chains [] = []
in_chains (command ∷ commands) =
    if fits_one_chain (command ∷ commands) then numbered 1 (command ∷ commands) ∷ [] else each_alone (command ∷ commands)

-- ---- the commands of the open unit of work that run again

abbrev pub without_go_on : Command → Command
without_go_on command = record command { go_on = false }

-- as one chain of their own, where the database was accessed and there are any
abbrev pub again_chains : Stage → List Command → List (List Command)
again_chains Accessed (command ∷ commands) = numbered 1 (map without_go_on (command ∷ commands)) ∷ []
again_chains _ _ = []

-- ---- all of it

-- The chains that are sent before a segment, in order: for a session at this stage, with what it gave for its access, its
-- registers, and the commands of its open unit of work that run again; on a transport that was dialled, or wasn't.
unfoldable pub handshake : List ℕ → Stage → Access → List Register → List Command → Bool → List (List Command)
handshake name stage access log again dialled =
    hello_chains dialled ++ in_chains (replayed name stage access log) ++ again_chains stage again
