use Rattle.transport_lenders.proofs.Dials.{given_dials, same_dials}
use Rattle.transport_lenders.proofs.lending.give_to_house.Goals as goal

pub returns-clause-dials : goal.returns-clause-dials
returns-clause-dials g c =
    let house = c.args.house.now in
    same_dials _ _ _ c.give_back.ensures.house (given_dials house.decided.pool c.args.transport.grant.number c.args.transport.grant.member house.decided.dials)
