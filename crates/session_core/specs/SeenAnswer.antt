-- What code has for the answer to one command without a server, as the plain model has it. No standard speaks of it: this is this
-- project's own.
use Rattle.std.specs.Prelude.{ℕ, List, [], Bool, true, false}
use Rattle.session_core.specs.declared.local.LocalAnswer.{LocalAnswer as Answer}
use Rattle.session_core.specs.declared.local.LocalAnswer.TheVariants as answer
use Rattle.unit_segments.specs.declared.command.Command.{Command}
use Rattle.plain_model.specs.Local.{LocalAnswer, Refuses, Offers, Moves, Locally, answered_locally}
use Rattle.plain_model.specs.Core.{Core, first, others, with_local}

abbrev pub seen_answer : Answer → LocalAnswer
seen_answer (answer.Refuses object) = Refuses object
seen_answer (answer.Offers object) = Offers object
seen_answer (answer.Moves object to) = Moves object to

-- the first segment is answered without a server
abbrev pub first_locally : List ℕ → Core → Locally
first_locally name k = answered_locally name (first k.segments) k.standing

abbrev pub left_by : Bool → List (List Command) → List (List Command)
left_by true segments = []
left_by false segments = others segments

abbrev pub with_first : List ℕ → Core → Core
with_first name k = with_local (first_locally name k) (left_by (first_locally name k).stopped k.segments) k
