-- What leads a conversation to where a session stands: DDM, volume 3, ACCSEC, SECCHK, ACCRDB; DRDA, volume 3, EXCSQLSET.
use Rattle.std.specs.Prelude.{ℕ, List, [], Option, Some, None}
use Rattle.access_handshake.specs.declared.access.Access.{Access}
use Rattle.access_handshake.specs.declared.stage.Stage.{Stage}
use Rattle.unit_segments.specs.Registers.{Register}
use Rattle.unit_segments.specs.Spelling.{numbered, chain_bytes}
use Rattle.unit_segments.specs.Handshake.{replayed}

-- What a session gave for its access so far, with this mechanism; what it didn't give is empty, and isn't sent at its stage.
abbrev pub given : ℕ → Option Access → Access
given mechanism None = record { secmec = mechanism; secchk = []; accrdb = [] }
given mechanism (Some access) = record { secmec = mechanism; secchk = access.secchk; accrdb = access.accrdb }

-- one canonical chain of all of it, numbered from 1
abbrev pub replay_bytes : List ℕ → Stage → ℕ → Option Access → List Register → List ℕ
replay_bytes name stage mechanism access log = chain_bytes (numbered 1 (replayed name stage (given mechanism access) log))
