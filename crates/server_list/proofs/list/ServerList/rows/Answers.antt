use Rattle.server_list.specs.Inside.{listing_of}
use Rattle.server_list.proofs.Sound.{members_numbered, members_within}
use Rattle.server_list.proofs.list.ServerList.rows.Goals as goal

pub returns-clause-members : goal.returns-clause-members
returns-clause-members c = rw (← c.self.view_is) (members_within (listing_of c.self.inside).rows c.self.invariant.sound)

pub returns-clause-numbered : goal.returns-clause-numbered
returns-clause-numbered c = rw (← c.self.view_is) (members_numbered (listing_of c.self.inside).rows c.self.invariant.sound)
