use Rattle.std.proofs.Common.{rules, ◌==◌, not}
use Rattle.std.proofs.lemmas.Fn.{filter_same}
use Rattle.transport_pool.proofs.rows.remove_number.Goals as goal

pub returns-clause-items : goal.returns-clause-items
returns-clause-items c = filter_same _ (λ transport. not (transport.number == c.args.number)) _ (λ x b f called. search rules) _ _ c.retain.ensures.filtered
