use Rattle.server_words.specs.Field.{member_weight}
use Rattle.server_words.proofs.Each.{Reads}
use Rattle.server_words.proofs.serve.read_weights.Given as goal

abbrev pub invariant-loop-word : goal.invariant-loop-word
invariant-loop-word l = Reads member_weight l.words l.word-index l.weights.items
