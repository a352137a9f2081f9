use Rattle.server_list.proofs.Written.{written_read}
use Rattle.server_list.proofs.laws.written_list_is_read.Goals as goal

pub returns : goal.returns
returns c = written_read
