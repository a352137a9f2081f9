use Rattle.server_list.proofs.Keeping.{blanks_are_kept}
use Rattle.server_list.proofs.list.ServerList.new.Goals as goal

pub invariant_of-result : goal.invariant_of-result
invariant_of-result c = blanks_are_kept
