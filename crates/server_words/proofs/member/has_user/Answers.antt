use Rattle.std.proofs.Common.{◌∙◌}
use Rattle.std.specs.Str.{bytes_eq}
use Rattle.clap.proofs.WalkLemmas.{list_any-map}
use Rattle.server_words.specs.Member.{user_in}
use Rattle.server_words.proofs.member.has_user.Goals as goal

pub returns : goal.returns
returns c = c.has_name.ensures ∙ list_any-map (λ user. bytes_eq user.0 c.args.name.now) user_in c.args.users.now
