use Rattle.std.proofs.Common.{map, string_bytes}
use Rattle.server_words.specs.Field.{member_address}
use Rattle.server_words.proofs.Each.{Reads}
use Rattle.server_words.proofs.serve.read_addresses.Given as goal

abbrev pub invariant-loop-word : goal.invariant-loop-word
invariant-loop-word l = Reads member_address l.words l.word-index (map string_bytes l.addresses.items)
