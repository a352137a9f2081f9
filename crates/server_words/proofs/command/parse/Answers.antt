use Rattle.std.proofs.Common.{◌∙◌, map, string_bytes}
use Rattle.clap.specs.Words.{app_of, found_of, kind_of, rows_of}
use Rattle.server_words.proofs.Found.{found_ok, not_found}
use Rattle.server_words.proofs.command.parse.Goals as goal

pub returns-in-Ok : goal.returns-in-Ok
returns-in-Ok c =
    found_ok (app_of c.args.command) (map string_bytes c.args.words.now) (rows_of (found_of c.in-Ok.matches)) c.requires
    c.in-Ok.ensures.kinds c.in-Ok.ensures.matches

pub returns : goal.returns
returns c =
    not_found (app_of c.args.command) (map string_bytes c.args.words.now) (kind_of c.in-Err.error) c.in-Err.ensures.passes
    (λ e. c.in_default.not-OutOfMemory (c.kind.ensures ∙ e))
