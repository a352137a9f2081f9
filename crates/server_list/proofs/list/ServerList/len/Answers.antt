use Rattle.std.proofs.Common.{sym}
use Rattle.server_list.specs.Inside.{length-listing}
use Rattle.server_list.proofs.list.ServerList.len.Goals as goal

pub returns-clause-len : goal.returns-clause-len
returns-clause-len c = rw (← c.self.view_is) (sym (length-listing c.self.inside c.self.invariant))
