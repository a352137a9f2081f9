use Rattle.std.proofs.Common.{◌≡◌, Some, map, string_bytes, rules}
use Rattle.server_words.specs.Serve.{said_in, serve_said}
use Rattle.serve_command.proofs.Words.{has_pool}
use Rattle.serve_command.proofs.serving.said_for.Goals as goal

pub returns-in-Some-clause-pool : goal.returns-in-Some-clause-pool
returns-in-Some-clause-pool c =
    let said : Some (said_in c.in-Some.said) ≡ serve_said (map string_bytes c.args.words.now) = search rules in
    has_pool (map string_bytes c.args.words.now) c.in-Some.said said
