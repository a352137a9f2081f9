-- What comes when no chain is in work: the next chain, or a fault in its place. DRDA, volume 3, DSS: chaining; DDM, volume 3,
-- SYNTAXRM, RSCLMTRM.
use Rattle.std.specs.Prelude.{◌≢◌, ℕ, false, List, [], Some}
use Rattle.std.specs.List.{AllByRecursion}
use Rattle.reply_texts.specs.Closing.{syntax_reply, limit_reply}
use Rattle.unit_segments.specs.declared.command.Command.{Command}
use Rattle.unit_segments.specs.Segment.{segments_of}
use Rattle.plain_model.specs.Group.{IsCommand}
use Rattle.plain_model.specs.Core.{Core, After, End, Refused, Limit, Request, settled, finished}

-- what the bytes of an application go on with
pub data Reading : Type 0 where
  Chain : (commands : List Command) → Reading
  -- a field at this place is none of a chain: its SYNERRCD, and the number it is told by
  Fault : (place : ℕ) (error : ℕ) (number : ℕ) → Reading
  -- the chain is too long
  TooLong : (number : ℕ) → Reading

-- the session ends with this closing reply
abbrev pub closed_by : End → List ℕ → Core → After
closed_by end reply k = record { core = record k { end = Some end }; said = reply; moved = false }

unfoldable pub begun : List ℕ → Reading → Core → After
begun name (Chain commands) k = finished (settled name (record k { segments = segments_of commands }))
begun name (Fault place error number) k = closed_by (Refused place) (syntax_reply number error) k
begun name (TooLong number) k = closed_by (Limit Request) (limit_reply number) k

-- a chain has commands, each of them one that a chain can have
abbrev pub IsReading : Reading → Type 0
IsReading (Chain commands) = (commands ≢ []) × AllByRecursion IsCommand commands
IsReading (Fault place error number) = Unit {0}
IsReading (TooLong number) = Unit {0}
