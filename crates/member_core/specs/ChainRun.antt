-- How a member runs a chain of commands: DRDA, volume 3, DSS: chaining; DDM, volume 3, SVRCOD.
use Rattle.std.specs.Prelude.{ℕ, Bool, not, ◌&&◌, if◌then◌else◌, List, [], ◌∷◌, ◌++◌, map}
use Rattle.std.specs.List.{list_any}
use Rattle.dss_frame.specs.declared.dss.Dss.{Dss}
use Rattle.server_list.specs.Lists.{Listing}
use Rattle.unit_segments.specs.declared.command.Command.{Command}
use Rattle.unit_segments.specs.Strip.{tells_error}
use Rattle.plain_model.specs.Group.{Meaning}
use Rattle.member_core.specs.Listed.{with_list}

-- The rest of the chain isn't run: an error is told of a command that doesn't say that the chain goes on then.
abbrev pub stops_after : Command → List Dss → Bool
stops_after command replies = not command.go_on && list_any tells_error replies

-- what commands have come to: the data, the unit of the conversation, their replies, and the code points of all that ran in it
pub record Ran (S U : Type 0) : Type 0 where
  pub shared : S
  pub unit : U
  pub replies : List Dss
  pub codes : List ℕ

-- one command more has run; its replies have the list of members where they give access
abbrev pub with_command : {S U : Type 0} → Meaning S U → Listing → Command → Ran S U → Ran S U
with_command m list command r = record {
  shared = m.data_after r.shared r.unit command;
  unit = m.unit_after r.shared r.unit command;
  replies = r.replies ++ map (with_list list) (m.replies r.shared r.unit command);
  codes = r.codes ++ command.code ∷ [];
}

-- The commands run in order, up to the first after which the rest of the chain isn't run.
abbrev pub run_on : {S U : Type 0} → Meaning S U → Listing → List Command → Ran S U → Ran S U
run_on m list [] r = r
run_on m list (command ∷ commands) r =
    if stops_after command (m.replies r.shared r.unit command)
    then with_command m list command r
    else run_on m list commands (with_command m list command r)
