use Rattle.std.proofs.Common.{◌≡◌, ◌++◌, map, take, drop}
use Rattle.reply_texts.specs.Text.{code_in}
use Rattle.reply_texts.proofs.text.encode.Given as goal

abbrev pub invariant-loop-byte : goal.invariant-loop-byte
invariant-loop-byte l = l.text ≡ map (code_in l.typdef) (take l.byte-index l.initial.text) ++ drop l.byte-index l.initial.text
