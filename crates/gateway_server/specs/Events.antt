-- What a call comes to, and what its session is told of it. This project's own.
use Rattle.std.specs.Prelude.{ℕ, ◌==◌, true, false, if◌then◌else◌, List, ◌++◌, take, Option, option_map, Result, Ok, Err}
use Rattle.gateway_session.specs.declared.loss.LossWhy.TheVariants as why
use Rattle.gateway_session.specs.Inputs.{Input}
use Rattle.gateway_session.specs.Inputs as input
use Rattle.gateway_server.specs.declared.event.Event.{Event}
use Rattle.gateway_server.specs.declared.event.Event.TheVariants as event

-- ---- what calls come to

-- a read of the application's link, and a write to it
abbrev pub event_heard : {F : Type 0} → Result ℕ F → Event
event_heard (Ok n) = if n == 0 then event.End false else event.Take n
event_heard (Err failed) = event.End true

abbrev pub event_said : {F : Type 0} → Result ℕ F → Event
event_said (Ok n) = if n == 0 then event.End false else event.Say n
event_said (Err failed) = event.End true

-- a write to the link that is held, and a read of it
abbrev pub event_sent : {F : Type 0} → Result ℕ F → Event
event_sent (Ok n) = event.Send n false
event_sent (Err failed) = event.Send 0 true

abbrev pub event_back : {F : Type 0} → Result ℕ F → Event
event_back (Ok n) = event.Back n false
event_back (Err failed) = event.Back 0 true

-- a dial
abbrev pub event_dialled : {L F : Type 0} → Result L F → Event
event_dialled (Ok link) = event.Dial true
event_dialled (Err failed) = event.Dial false

-- ---- what a session is told, where the bytes that came are the first of these

abbrev pub input_of : List ℕ → Event → Input
input_of bytes (event.Take n) = input.App (take n bytes)
input_of bytes (event.End failed) = input.AppEnd failed
input_of bytes (event.Lend lent) = input.Lend lent
input_of bytes (event.Dial reached) = input.Dialled reached
input_of bytes (event.Send n failed) = if failed then input.Lose why.Fault else input.Sent n
input_of bytes (event.Back n failed) = if failed then input.Lose why.Fault else input.Back (take n bytes)
input_of bytes event.Give = input.Given
input_of bytes (event.Say n) = input.Said n

-- ---- the bytes of the application's link

-- those that were read from it, where it tells that, after an input
abbrev pub heard_after : Option (List ℕ) → Input → Option (List ℕ)
heard_after told (input.App piece) = option_map (λ before. before ++ piece) told
heard_after told _ = told

-- those that it took, where these were to be said
abbrev pub taken_after : Option (List ℕ) → Input → List ℕ → Option (List ℕ)
taken_after told (input.Said count) bytes = option_map (λ before. before ++ take count bytes) told
taken_after told _ bytes = told
