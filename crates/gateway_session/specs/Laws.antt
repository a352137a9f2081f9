-- What the laws speak of. No standard does: this is this project's own.
use Rattle.std.specs.Prelude.{◌≡◌, ◌<◌, ℕ, ◌+◌, List, ◌∷◌, ◌++◌, length, Some, None}
use Rattle.requester_core.specs.Talk.{Talking}
use Rattle.requester_core.specs.Laws.{LeavesOpen}
use Rattle.session_core.specs.Incoming.{with_piece, next_of}
use Rattle.gateway_session.specs.declared.held.Held.{Held}
use Rattle.gateway_session.specs.Session.{Session}
use Rattle.gateway_session.specs.Steps.{after_app, after_said, after_back}

-- Bytes that aren't the last to be said are said alike before those behind them, or at once with these.
abbrev pub SaysInPieces : Type 0
SaysInPieces = (s : Session) (m n : ℕ) → m < length s.to_say → after_said n (after_said m s) ≡ after_said (m + n) s

-- A piece of an application's bytes with which no chain ends, nor a fault comes, comes to the same as at once with what follows it.
abbrev pub TakesInPieces : Type 0
TakesInPieces = (s : Session) (p q : List ℕ) → (next_of (with_piece p s.incoming)).reading ≡ None → after_app q (after_app p s) ≡ after_app (p ++ q) s

-- the conversation that a session holds
pub record Holds (s : Session) (held : Held) (talking : Talking) : Type 0 where
  pub transport : s.held ≡ Some held
  pub conversation : held.talk ≡ Some talking

-- A piece of a server's bytes that leaves the reply to the chain in work open comes to the same as at once with what follows it.
abbrev pub ReadsInPieces : Type 0
ReadsInPieces = (s : Session) (held : Held) (talking : Talking) (byte next : ℕ) (bytes others : List ℕ) → Holds s held talking
    → LeavesOpen (byte ∷ bytes) talking
    → after_back (next ∷ others) (after_back (byte ∷ bytes) s) ≡ after_back (byte ∷ bytes ++ next ∷ others) s
