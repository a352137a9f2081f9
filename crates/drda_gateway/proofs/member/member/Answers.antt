use Rattle.std.proofs.Common.{◌≡◌, Some, length, map, string_bytes, arith, rules}
use Rattle.std.proofs.lemmas.List.{length-map}
use Rattle.program_ends.specs.Ends.{Took, BrokeOff}
use Rattle.member_server.specs.Doors.{IsServed}
use Rattle.group_store.specs.Store.{store_meaning}
use Rattle.server_words.specs.Member.{said_in}
use Rattle.drda_gateway.specs.Member.{said_for}
use Rattle.drda_gateway.proofs.Membering.{as_said, all_told}
use Rattle.drda_gateway.proofs.member.member.Goals as goal

pub returns-in-Ok-Some-clause-done : goal.returns-in-Ok-Some-clause-done
returns-in-Ok-Some-clause-done g c = λ done.
    let says : Some (said_in c.in-Ok-Some.said) ≡ said_for (map string_bytes c.args.words.now) c.len.result = search rules in
    let count : c.len.result ≡ length (map g.D.Door.state c.args.doors.now.items) =
    omega (arith, c.len.ensures, c.args.doors.now.ok.0, length-map c.args.doors.now.items g.D.Door.state) in
    as_said Took (IsServed g.A.Link.state store_meaning) _ c.len.result (said_in c.in-Ok-Some.said) _ _ _ _ says count (c.serve.ensures.done done)

pub returns-in-Ok-Some-clause-sink_fault : goal.returns-in-Ok-Some-clause-sink_fault
returns-in-Ok-Some-clause-sink_fault g c = λ fault.
    let says : Some (said_in c.in-Ok-Some.said) ≡ said_for (map string_bytes c.args.words.now) c.len.result = search rules in
    let count : c.len.result ≡ length (map g.D.Door.state c.args.doors.now.items) =
    omega (arith, c.len.ensures, c.args.doors.now.ok.0, length-map c.args.doors.now.items g.D.Door.state) in
    as_said BrokeOff (IsServed g.A.Link.state store_meaning) _ c.len.result (said_in c.in-Ok-Some.said) _ _ _ _ says count (c.serve.ensures.sink_fault fault)

pub returns-in-Ok-Some-clause-serves : goal.returns-in-Ok-Some-clause-serves
returns-in-Ok-Some-clause-serves g c = λ said says no_fault no_write.
    all_told (IsServed g.A.Link.state store_meaning) c.serve.result c.in-Ok-Some.said.sessions _ _ _ _ c.serve.ensures.statuses c.serve.ensures.door_fault
    c.serve.ensures.sink_fault no_fault no_write
