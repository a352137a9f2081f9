use Rattle.std.proofs.Common.{sym, subst}
use Rattle.transport_pool.specs.Grants.{IsAtRest}
use Rattle.gateway_server.proofs.Gripping.{give_rests}
use Rattle.gateway_server.proofs.calls.release.Goals as goal

pub rest-requires : goal.rest-requires
rest-requires g c = subst IsAtRest (sym c.mark.ensures) (give_rests c.args.session.now c.requires.need c.requires.rests)
