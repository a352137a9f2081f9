use Rattle.requester_core.proofs.Whole.{reply_found, reply_only}
use Rattle.requester_core.proofs.laws.whole_replies_are_read.Goals as goal

pub returns-clause-found : goal.returns-clause-found
returns-clause-found c = reply_found

pub returns-clause-only : goal.returns-clause-only
returns-clause-only c = reply_only
