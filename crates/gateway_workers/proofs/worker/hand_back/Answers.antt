use Rattle.gateway_workers.specs.Back.{IsServed}
use Rattle.gateway_workers.proofs.Working.{hands_back}
use Rattle.gateway_workers.proofs.worker.hand_back.Goals as goal

pub returns-clause-door : goal.returns-clause-door
returns-clause-door g c =
    hands_back (IsServed g.A.Link.state) (g.D.Door.state c.args.door.now) (g.D.Door.state c.back.new.self) c.args.done c.in-Some.done
    c.match-matches.matches c.in-Some.is c.requires c.back.ensures
