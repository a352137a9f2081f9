use Rattle.std.proofs.Common.{◌≡◌, drop}
use Rattle.drda_gateway.specs.World.{after_all, events_of, start_world}
use Rattle.drda_gateway.proofs.world.run_script.Given as goal

-- the events of the lines that are left lead to where those of all lines lead
abbrev pub invariant-loop-line : goal.invariant-loop-line
invariant-loop-line l =
    after_all l.world (events_of l.world (drop l.line-index l.lines)) ≡ after_all start_world (events_of start_world l.lines)
