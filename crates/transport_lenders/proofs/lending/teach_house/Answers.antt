use Rattle.transport_lenders.proofs.Dials.{learned_dials, same_dials}
use Rattle.transport_lenders.proofs.lending.teach_house.Goals as goal

pub returns-clause-dials : goal.returns-clause-dials
returns-clause-dials g c =
    let house = c.args.house.now in
    same_dials _ _ _ c.learn.ensures (learned_dials house.decided.pool c.args.list.now house.decided.dials)
