use Rattle.requester_core.proofs.Calls.{same_talk, same_answers}
use Rattle.requester_core.proofs.laws.calls_are_the_rounds.Goals as goal

pub returns-clause-talk : goal.returns-clause-talk
returns-clause-talk c = same_talk

pub returns-clause-answers : goal.returns-clause-answers
returns-clause-answers c = same_answers
