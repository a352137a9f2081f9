use Rattle.std.proofs.Common.{◌≡◌, Some, length, map, string_bytes, arith, rules}
use Rattle.std.proofs.lemmas.List.{length-map}
use Rattle.program_ends.specs.Ends.{Took, BrokeOff}
use Rattle.gateway_workers.specs.Back.{IsServed}
use Rattle.gateway_workers.specs.Workers.{seen}
use Rattle.server_words.specs.Serve.{said_in}
use Rattle.serve_command.specs.Serve.{said_for, all_seen}
use Rattle.serve_command.proofs.Telling.{as_said, all_told}
use Rattle.serve_command.proofs.serving.serve.Goals as goal

pub returns-in-Ok-Some-clause-done : goal.returns-in-Ok-Some-clause-done
returns-in-Ok-Some-clause-done g c = λ done.
    let says : Some (said_in c.in-Ok-Some.said) ≡ said_for (map string_bytes c.args.words.now) c.len.result = search rules in
    let count : c.len.result ≡ length (all_seen g.D.Door.state g.N.Dial.state c.args.ends.now.items) =
    omega (arith, c.len.ensures, c.args.ends.now.ok.0, length-map c.args.ends.now.items (seen g.D.Door.state (λ dial. (g.N.Dial.state dial).calls))) in
    as_said Took (IsServed g.A.Link.state) _ c.len.result (said_in c.in-Ok-Some.said) _ _ _ _ says count (c.serve_as_said.ensures.done done)

pub returns-in-Ok-Some-clause-sink_fault : goal.returns-in-Ok-Some-clause-sink_fault
returns-in-Ok-Some-clause-sink_fault g c = λ fault.
    let says : Some (said_in c.in-Ok-Some.said) ≡ said_for (map string_bytes c.args.words.now) c.len.result = search rules in
    let count : c.len.result ≡ length (all_seen g.D.Door.state g.N.Dial.state c.args.ends.now.items) =
    omega (arith, c.len.ensures, c.args.ends.now.ok.0, length-map c.args.ends.now.items (seen g.D.Door.state (λ dial. (g.N.Dial.state dial).calls))) in
    as_said BrokeOff (IsServed g.A.Link.state) _ c.len.result (said_in c.in-Ok-Some.said) _ _ _ _ says count (c.serve_as_said.ensures.sink_fault fault)

pub returns-in-Ok-Some-clause-serves : goal.returns-in-Ok-Some-clause-serves
returns-in-Ok-Some-clause-serves g c = λ said says no_fault no_write.
    all_told (IsServed g.A.Link.state) c.serve_as_said.result c.in-Ok-Some.said.sessions _ _ _ _ c.serve_as_said.ensures.statuses
    c.serve_as_said.ensures.door_fault c.serve_as_said.ensures.sink_fault no_fault no_write
