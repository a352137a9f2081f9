-- What a command comes to: this project's own.
use Rattle.std.specs.Prelude.{ℕ, List, [], ◌∷◌}
use Rattle.member_replies.specs.Reply.{Said, message}
use Rattle.group_store.specs.Unit.{UnitState}

-- the unit after it, and its replies
pub record Answered : Type 0 where
  pub unit : UnitState
  pub said : List Said

abbrev pub says : UnitState → Said → Answered
says unit said = record { unit = unit; said = said ∷ [] }

-- it isn't done
abbrev pub refuses : UnitState → List ℕ → Answered
refuses unit object = says unit (message object)
