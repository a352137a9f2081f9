-- A member's replies are stripped, one after another.
use Rattle.std.proofs.Common.{ℕ, Bool, not, List, map, filter}
use Rattle.dss_frame.specs.declared.dss.Dss.{Dss}
use Rattle.unit_segments.specs.declared.command.Command.{Command}
use Rattle.unit_segments.specs.Command.{data_of}
use Rattle.unit_segments.specs.Strip.{marked_from, given_back}

-- the replies that are left, without SET statements, and the data of these
abbrev pub kept_from : List Command → ℕ → Bool → List Dss → List Dss
kept_from segment number after replies =
    map (λ m. given_back segment m.reply) (filter (λ m. not m.is_set) (marked_from number after replies))

abbrev pub sets_from : ℕ → Bool → List Dss → List (List ℕ)
sets_from number after replies = map (λ m. data_of m.reply.body) (filter (λ m. m.is_set) (marked_from number after replies))
