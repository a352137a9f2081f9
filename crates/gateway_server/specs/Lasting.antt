-- A session that goes on over its application's link, by the counts of that link. This project's own.
use Rattle.std.specs.Prelude.{◌≡◌, ◌≤◌, ◌⊎◌, [], true}
use Rattle.link_ends.specs.Counts.{one_more, Rose}
use Rattle.link_ends.specs.Link.{LinkState, is_none_told}
use Rattle.gateway_session.specs.declared.need.End.TheVariants as end
use Rattle.gateway_session.specs.declared.need.Need.TheVariants as need
use Rattle.gateway_session.specs.Memory.{State, need_in}
use Rattle.gateway_server.specs.Went.{left_in}

-- no count fell
pub record Lasts (old now : LinkState) : Type 0 where
  pub faults : one_more old.faults ≤ one_more now.faults
  pub ends : one_more old.ends ≤ one_more now.ends
  pub stuck : one_more old.stuck ≤ one_more now.stuck

-- where the application ended the session, its link's counts tell it
pub record LeftBy (old now : LinkState) (state : State) : Type 0 where
  pub left : need_in state ≡ need.Done end.AppEnded → (Rose old.ends now.ends × (left_in state ≡ [])) ⊎ Rose old.stuck now.stuck
  pub fault : need_in state ≡ need.Done end.AppFault → Rose old.faults now.faults

-- nothing was read of it, and it took nothing, where it tells that
pub record IsUnused (link : LinkState) : Type 0 where
  pub heard : is_none_told link.heard ≡ true
  pub taken : is_none_told link.taken ≡ true
