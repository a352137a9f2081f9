use Rattle.std.proofs.Common.{◌≡◌, length}
use Rattle.server_list.specs.Lists.{no_rows}
use Rattle.script_words.specs.Words.{words_of}
use Rattle.script_reader.specs.Weights.{weights_read}
use Rattle.script_reader.proofs.weights.read_weights.Given as goal

-- the words that are left, added to the list so far, make what all words make
abbrev pub invariant-loop-list : goal.invariant-loop-list
invariant-loop-list l =
    weights_read l.members.rows l.list (words_of l.rest) ≡ weights_read l.members.rows (record no_rows { number = l.number }) (words_of l.words)

abbrev pub decreases-loop-list : goal.decreases-loop-list
decreases-loop-list l = length l.rest
