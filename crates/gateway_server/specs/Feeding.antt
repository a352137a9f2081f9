-- What an input makes of a session, whether it finds its memory or not. This project's own.
use Rattle.std.specs.Prelude.{ℕ, Bool, true, false}
use Rattle.gateway_session.specs.Memory.{State, Runs, Closes, step, said_in, app_end_in, out_of_memory, to_say_of, rest_after_said, without_list}
use Rattle.gateway_session.specs.Inputs.{Input, after_input}
use Rattle.gateway_session.specs.Inputs as input

-- it finds its memory
abbrev pub fed : Input → State → State
fed (input.Said count) state = said_in count state
fed (input.AppEnd failed) state = app_end_in failed state
fed i state = step (after_input i) state

-- it doesn't; what a session says that closes already takes no memory
abbrev pub starved_saying : ℕ → State → State
starved_saying count (Runs s) = out_of_memory (rest_after_said count) (Runs s)
starved_saying count (Closes closing) = said_in count (Closes closing)

abbrev pub starved : Input → State → State
starved (input.Said count) state = starved_saying count state
starved i state = out_of_memory to_say_of state

-- it does, or doesn't
abbrev pub after_feeding : Bool → Input → State → State
after_feeding true i state = fed i state
after_feeding false i state = starved i state

-- after a turn: a list of members that was told is asked for
abbrev pub after_turn : Bool → Input → State → State
after_turn memory i state = without_list (after_feeding memory i state)
