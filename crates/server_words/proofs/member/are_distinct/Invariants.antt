use Rattle.std.proofs.Common.{◌≡◌, map, length}
use Rattle.server_words.specs.Field.{are_distinct}
use Rattle.server_words.specs.Member.{user_in}
use Rattle.server_words.proofs.member.are_distinct.Given as goal

abbrev pub invariant-loop-rest : goal.invariant-loop-rest
invariant-loop-rest l = are_distinct (map user_in l.rest) ≡ are_distinct (map user_in l.users)

abbrev pub decreases-loop-rest : goal.decreases-loop-rest
decreases-loop-rest l = length l.rest
