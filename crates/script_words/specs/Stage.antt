-- The order of the lines of a script. It is this project's choice.
use Rattle.std.specs.Prelude.{Bool, true, false, if◌then◌else◌, Option, Some, None}
use Rattle.script_words.specs.declared.keyword.Keyword.{Keyword}
use Rattle.script_words.specs.declared.keyword.Keyword.TheVariants as keyword
use Rattle.script_words.specs.declared.keyword.HeaderWord.{HeaderWord}
use Rattle.script_words.specs.declared.keyword.HeaderWord.TheVariants as header
use Rattle.script_words.specs.declared.stage.Stage.{Stage}
use Rattle.script_words.specs.declared.stage.Stage.TheVariants.{Start, AfterRdb, AfterCap, Members, Listed, Numbered, Users, Rows, Body}

-- the header has a name, a cap and a member
abbrev pub is_whole : Stage → Bool
is_whole Start = false
is_whole AfterRdb = false
is_whole AfterCap = false
is_whole Members = true
is_whole Listed = true
is_whole Numbered = true
is_whole Users = true
is_whole Rows = true
is_whole Body = true

unfoldable pub after_rdb : Stage → Option Stage
after_rdb Start = Some AfterRdb
after_rdb _ = None

unfoldable pub after_cap : Stage → Option Stage
after_cap AfterRdb = Some AfterCap
after_cap _ = None

unfoldable pub after_member : Stage → Option Stage
after_member AfterCap = Some Members
after_member Members = Some Members
after_member _ = None

-- one list for all members
unfoldable pub after_list : Stage → Option Stage
after_list Members = Some Listed
after_list _ = None

-- or lists of single members
unfoldable pub after_numbered : Stage → Option Stage
after_numbered Members = Some Numbered
after_numbered Numbered = Some Numbered
after_numbered _ = None

unfoldable pub after_user : Stage → Option Stage
after_user Members = Some Users
after_user Listed = Some Users
after_user Numbered = Some Users
after_user Users = Some Users
after_user _ = None

unfoldable pub after_row : Stage → Option Stage
after_row Members = Some Rows
after_row Listed = Some Rows
after_row Numbered = Some Rows
after_row Users = Some Rows
after_row Rows = Some Rows
after_row _ = None

-- after a line of the body
unfoldable pub after_line_of_body : Stage → Option Stage
after_line_of_body stage = if is_whole stage then Some Body else None

-- after a line of the header
unfoldable pub after_header : Stage → HeaderWord → Option Stage
after_header stage header.Rdb = after_rdb stage
after_header stage header.Cap = after_cap stage
after_header stage header.Member = after_member stage
after_header stage header.List = after_list stage
after_header stage header.NumberedList = after_numbered stage
after_header stage header.User = after_user stage
after_header stage header.Row = after_row stage

-- How far the script is after a line with this first word, where it may stand here: rdb, cap, the members, what they send,
-- the users and the rows in this order, and then the body.
unfoldable pub stage_after : Stage → Keyword → Option Stage
stage_after stage (keyword.Header word) = after_header stage word
stage_after stage _ = after_line_of_body stage
