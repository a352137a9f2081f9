use Rattle.std.proofs.Common.{sym, subst, true}
use Rattle.gateway_server.specs.Leases.{held_by}
use Rattle.gateway_server.proofs.Gripping.{Kept, end_feeds}
use Rattle.gateway_server.proofs.feeding.feed_end.Goals as goal

kept : (c : goal.After-on_app_end) → Kept (held_by c.args.session.now) (held_by c.on_app_end.new.self)
kept c =
    subst (λ state. Kept (held_by c.args.session.now) (held_by state)) (sym c.on_app_end.ensures) (end_feeds true c.args.failed c.args.session.now)

pub returns-clause-grip : goal.returns-clause-grip
returns-clause-grip c = (kept c).grip

pub returns-clause-rests : goal.returns-clause-rests
returns-clause-rests c = (kept c).rest c.requires.rests
