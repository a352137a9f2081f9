use Rattle.transport_lenders.proofs.Dials.{left_dials, same_dials}
use Rattle.transport_lenders.proofs.lending.leave_house.Goals as goal

pub returns-clause-dials : goal.returns-clause-dials
returns-clause-dials g c =
    let house = c.args.house.now in
    same_dials _ _ _ c.leave.ensures (left_dials house.decided.pool c.args.session house.decided.dials)
