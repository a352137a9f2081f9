-- What a script says, without where it lies in memory. Scripts are this project's own.
use Rattle.std.specs.Prelude.{ℕ, List, Option}
use Rattle.server_list.specs.Lists.{Listing}
use Rattle.script_reader.specs.declared.script.User.{User}
use Rattle.script_reader.specs.declared.script.Row.{Row}
use Rattle.script_reader.specs.declared.script.Line.{Line}

-- the database, how many transports may be lent, the members, what they send, the users, the rows, and the body
pub record ScriptText : Type 0 where
  pub rdb : List ℕ
  pub cap : ℕ
  pub list : Listing
  pub sent : List (Option Listing)
  pub users : List User
  pub rows : List Row
  pub lines : List Line
