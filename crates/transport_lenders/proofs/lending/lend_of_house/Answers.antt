use Rattle.transport_pool.specs.House.{terms_of}
use Rattle.transport_lenders.proofs.Suiting.{lent_answer, lent_suits}
use Rattle.transport_lenders.proofs.lending.lend_of_house.Goals as goal

pub returns-clause-answer : goal.returns-clause-answer
returns-clause-answer g c =
    let house = c.args.house.now in
    lent_answer (terms_of c.args.session c.args.tried c.args.fresh) house.decided.pool.list.rows house.resting _ c.lend.result c.lend.ensures.lent

pub returns-clause-suits : goal.returns-clause-suits
returns-clause-suits g c =
    let house = c.args.house.now in
    let terms = terms_of c.args.session c.args.tried c.args.fresh in
    lent_suits house.decided.pool terms c.lend.result
    (lent_answer terms house.decided.pool.list.rows house.resting _ c.lend.result c.lend.ensures.lent)
