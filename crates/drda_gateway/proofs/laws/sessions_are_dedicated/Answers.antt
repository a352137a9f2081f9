use Rattle.drda_gateway.proofs.Headline.{all_dedicated}
use Rattle.drda_gateway.proofs.laws.sessions_are_dedicated.Goals as goal

pub returns : goal.returns
returns c = all_dedicated
