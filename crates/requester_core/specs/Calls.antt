-- A conversation's rounds, one after another: bytes that are taken, and pieces of the replies. No standard speaks of calls: this is
-- this project's own.
use Rattle.std.specs.Prelude.{ℕ, ◌+◌, List, [], ◌∷◌, ◌++◌}
use Rattle.requester_core.specs.declared.got.Got.{Got}
use Rattle.requester_core.specs.Talk.{Talking, Back, sent, back}
use Rattle.requester_core.specs.Laws.{LeavesOpen}

-- what is done with a conversation
pub data Call : Type 0 where
  Sent : ℕ → Call
  Read : List ℕ → Call

abbrev pub after_calls : Talking → List Call → Talking
after_calls t [] = t
after_calls t (Sent count ∷ calls) = after_calls (sent count t) calls
after_calls t (Read piece ∷ calls) = after_calls (back piece t).talk calls

-- how many bytes were taken in all
abbrev pub sent_by : List Call → ℕ
sent_by [] = 0
sent_by (Sent count ∷ calls) = count + sent_by calls
sent_by (Read piece ∷ calls) = sent_by calls

-- the bytes of all pieces, joined
abbrev pub read_by : List Call → List ℕ
read_by [] = []
read_by (Sent count ∷ calls) = read_by calls
read_by (Read piece ∷ calls) = piece ++ read_by calls

-- each piece leaves the reply to the chain in work open
abbrev pub AllOpen : Talking → List Call → Type 0
AllOpen t [] = Unit {0}
AllOpen t (Sent count ∷ calls) = AllOpen (sent count t) calls
AllOpen t (Read piece ∷ calls) = LeavesOpen piece t × AllOpen (back piece t).talk calls

-- the calls of one round, in which its reply stays open, and the piece behind them
pub record Turn : Type 0 where
  pub calls : List Call
  pub last : List ℕ

abbrev pub piece_by_piece : Turn → Talking → Back
piece_by_piece turn t = back turn.last (after_calls t turn.calls)

-- its bytes are taken at once, and then its reply is read at once
abbrev pub at_once : Turn → Talking → Back
at_once turn t = back (read_by turn.calls ++ turn.last) (sent (sent_by turn.calls) t)

-- ---- several rounds

abbrev pub talk_after : (Turn → Talking → Back) → Talking → List Turn → Talking
talk_after way t [] = t
talk_after way t (turn ∷ turns) = talk_after way (way turn t).talk turns

-- what they come to, one after another
abbrev pub answers : (Turn → Talking → Back) → Talking → List Turn → List Got
answers way t [] = []
answers way t (turn ∷ turns) = (way turn t).got ∷ answers way (way turn t).talk turns

abbrev pub AreTurns : Talking → List Turn → Type 0
AreTurns t [] = Unit {0}
AreTurns t (turn ∷ turns) = AllOpen t turn.calls × AreTurns (piece_by_piece turn t).talk turns
