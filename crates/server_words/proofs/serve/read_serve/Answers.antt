use Rattle.std.proofs.Common.{◌∙◌, ap}
use Rattle.server_words.specs.Command.{is_plain}
use Rattle.server_words.proofs.Plain.{serve_is_plain}
use Rattle.server_words.proofs.serve.read_serve.Goals as goal

pub parse-requires : goal.parse-requires
parse-requires c = ap is_plain c.in_ok-serve.ensures ∙ serve_is_plain
