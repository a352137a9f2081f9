use Rattle.std.proofs.Common.{◌∙◌, ap}
use Rattle.server_words.specs.Command.{is_plain}
use Rattle.server_words.proofs.Plain.{member_is_plain}
use Rattle.server_words.proofs.member.read_member.Goals as goal

pub parse-requires : goal.parse-requires
parse-requires c = ap is_plain c.in_ok-member.ensures ∙ member_is_plain
