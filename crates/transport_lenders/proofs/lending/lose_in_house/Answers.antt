use Rattle.transport_lenders.proofs.Dials.{lost_dials, same_dials}
use Rattle.transport_lenders.proofs.lending.lose_in_house.Goals as goal

pub returns-clause-dials : goal.returns-clause-dials
returns-clause-dials g c =
    let house = c.args.house.now in
    same_dials _ _ _ c.lost.ensures (lost_dials house.decided.pool c.args.grant.number house.decided.dials)
