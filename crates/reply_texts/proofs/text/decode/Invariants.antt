use Rattle.std.proofs.Common.{◌≡◌, ◌++◌, map, take, drop}
use Rattle.reply_texts.specs.Text.{ascii_in}
use Rattle.reply_texts.proofs.text.decode.Given as goal

abbrev pub invariant-loop-byte : goal.invariant-loop-byte
invariant-loop-byte l = l.bytes ≡ map (ascii_in l.typdef) (take l.byte-index l.initial.bytes) ++ drop l.byte-index l.initial.bytes
