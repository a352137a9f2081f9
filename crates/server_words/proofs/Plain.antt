-- The commands are such as clap's clauses decide on.
use Rattle.std.proofs.Common.{◌≡◌, true, refl}
use Rattle.clap.proofs.OnLiterals.{clap_on_literals}
use Rattle.server_words.specs.Command.{serve, member, is_plain}

pub serve_is_plain : is_plain serve ≡ true
unfolding serve clap_on_literals
serve_is_plain = refl

pub member_is_plain : is_plain member ≡ true
unfolding member clap_on_literals
member_is_plain = refl
