use Rattle.transport_pool.proofs.Finding.{found_there, found_member}
use Rattle.transport_pool.proofs.rows.last_of.Goals as goal

pub returns-clause-there : goal.returns-clause-there
returns-clause-there c = found_there c.args.member c.args.transports.now _ c.search_back-found.ensures

pub returns-clause-member : goal.returns-clause-member
returns-clause-member c = found_member c.args.member c.args.transports.now _ c.search_back-found.ensures
