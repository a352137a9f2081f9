use Rattle.std.proofs.Common.{◌≡◌, ◌≤◌, sym, subst, length, rules}
use Rattle.gateway_workers.specs.Back.{IsServed}
use Rattle.gateway_workers.specs.Workers.{WereServed}
use Rattle.serve_command.specs.Serve.{all_seen}
use Rattle.serve_command.proofs.Rows.{some_rows}
use Rattle.serve_command.proofs.serving.serve_all.Goals as goal

pub new-requires-clause-listed : goal.new-requires-clause-listed
new-requires-clause-listed g c =
    some_rows c.list_of-list.result c.as_slice.result.now c.list_of-list.ensures
    (subst (λ weights. 1 ≤ length weights) (sym c.as_slice.ensures.value) c.requires.some)

-- what was served is that of the ends that were taken
pub returns : goal.returns
returns g c =
    let served = c.in_ok-sessions.field-0 in
    let same : c.replace-taken.result.items ≡ c.args.ends.now.items = search rules in
    subst (λ ends. WereServed (IsServed g.A.Link.state) (all_seen g.D.Door.state g.N.Dial.state ends)
    (all_seen g.D.Door.state g.N.Dial.state served.ends.items) served.sessions served.dials served.door_failed served.refused) same
    c.in_ok-sessions.ensures
