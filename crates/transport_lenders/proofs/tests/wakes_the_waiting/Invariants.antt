use Rattle.transport_lenders.proofs.tests.wakes_the_waiting.Given as goal

abbrev pub ghosts-take_turns-X-Ledger : goal.ghosts-take_turns-X-Ledger
ghosts-take_turns-X-Ledger g a = record { name = a.calls.name; parts = a.calls.parts }

abbrev pub ghosts-take_turns-Y-Ledger : goal.ghosts-take_turns-Y-Ledger
ghosts-take_turns-Y-Ledger g a = record { name = a.dials.name; parts = a.dials.parts }
