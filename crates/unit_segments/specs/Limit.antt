-- How many commands and bytes a chain of requests may have, and how many bytes a chain of replies, and the body of one. No
-- standard says: it is this project's choice.
use Rattle.std.specs.Prelude.{ℕ}

abbrev pub most_commands : ℕ
most_commands = 4096

abbrev pub most_chain_bytes : ℕ
most_chain_bytes = 16777216

abbrev pub most_reply_body : ℕ
most_reply_body = 33554426

-- a chain of replies, and a chain of requests that a gateway has added to
abbrev pub most_reply_bytes : ℕ
most_reply_bytes = 33554432
