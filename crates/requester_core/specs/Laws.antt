-- What the laws speak of. No standard does: this is this project's own.
use Rattle.std.specs.Prelude.{◌≡◌, ℕ, List, [], ◌∷◌, Option, Some, None}
use Rattle.unit_segments.specs.declared.command.Command.{Command}
use Rattle.unit_segments.specs.Release.{asked_bytes}
use Rattle.requester_core.specs.declared.got.Got.TheVariants.{More}
use Rattle.requester_core.specs.Talk.{Talking, back}

-- the chain of a segment, where one is given
abbrev pub asked_of : Option (List Command) → List (List ℕ)
asked_of None = []
asked_of (Some segment) = asked_bytes segment ∷ []

-- A piece leaves the reply to the chain in work open: more of it is awaited, and the same chain stays in work.
pub record LeavesOpen (piece : List ℕ) (t : Talking) : Type 0 where
  pub more : (back piece t).got ≡ More
  pub same : (back piece t).talk.rounds ≡ t.rounds
