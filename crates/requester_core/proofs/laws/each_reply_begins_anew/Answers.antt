use Rattle.requester_core.proofs.Whole.{first_reply, begun_reply, next_reply}
use Rattle.requester_core.proofs.laws.each_reply_begins_anew.Goals as goal

pub returns-clause-quiet : goal.returns-clause-quiet
returns-clause-quiet c = first_reply

pub returns-clause-begun : goal.returns-clause-begun
returns-clause-begun c = begun_reply

pub returns-clause-next : goal.returns-clause-next
returns-clause-next c = next_reply
