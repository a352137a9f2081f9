use Rattle.std.proofs.Common.{◌≡◌, drop}
use Rattle.script_words.specs.Number.{digits_onto}
use Rattle.script_words.proofs.number.read_digits.Given as goal

abbrev pub invariant-loop-digit : goal.invariant-loop-digit
invariant-loop-digit l = digits_onto l.number (drop l.digit-index l.word) ≡ digits_onto 0 l.word
