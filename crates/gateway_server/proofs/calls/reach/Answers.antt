use Rattle.std.proofs.Common.{rules, refl, Ok, Err}
use Rattle.gateway_server.proofs.calls.reach.Goals as goal

pub returns-in-Ok-clause-call : goal.returns-in-Ok-clause-call
returns-in-Ok-clause-call g c = (Ok c.in-Ok.link, search rules, search rules, refl, refl)

pub returns-in-Err-clause-call : goal.returns-in-Err-clause-call
returns-in-Err-clause-call g c = (Err c.in-Err.field-0, search rules, search rules, refl, refl)
