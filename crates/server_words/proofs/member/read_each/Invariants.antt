use Rattle.std.proofs.Common.{map}
use Rattle.server_words.specs.Field.{user_of}
use Rattle.server_words.specs.Member.{user_in}
use Rattle.server_words.proofs.Each.{Reads}
use Rattle.server_words.proofs.member.read_each.Given as goal

abbrev pub invariant-loop-word : goal.invariant-loop-word
invariant-loop-word l = Reads user_of l.words l.word-index (map user_in l.users.items)
