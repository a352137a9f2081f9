use Rattle.std.proofs.Common.{refl}
use Rattle.server_list.specs.Inside.{length-listing}
use Rattle.server_list.proofs.list.ServerList.is_empty.Goals as goal

pub returns : goal.returns
returns c = rw (← c.self.view_is, length-listing c.self.inside c.self.invariant) refl
