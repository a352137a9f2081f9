-- Members are numbered from 1 to 32: this project's own.
use Rattle.std.specs.Prelude.{ℕ, ◌≤◌}
use Rattle.gateway_session.specs.declared.held.Held.{Held}
use Rattle.gateway_session.specs.declared.loss.Lent.{Lent}
use Rattle.gateway_session.specs.declared.loss.Lent.TheVariants as lent

pub record IsMember (member : ℕ) : Type 0 where
  pub low : 1 ≤ member
  pub high : member ≤ 32

-- a transport that is held is one of a member
abbrev pub HasMember : Held → Type 0
HasMember held = IsMember held.member

-- so is one that is lent
abbrev pub LendsMember : Lent → Type 0
LendsMember (lent.Idle number member) = IsMember member
LendsMember (lent.Dial number member) = IsMember member
LendsMember lent.Queue = Unit {0}
LendsMember lent.NoneLeft = Unit {0}
LendsMember lent.Worn = Unit {0}
