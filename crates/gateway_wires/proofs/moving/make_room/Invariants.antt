use Rattle.std.proofs.Common.{suc, ◌-◌, length}
use Rattle.gateway_wires.proofs.Rooms.{Makes}
use Rattle.gateway_wires.proofs.moving.make_room.Given as goal

abbrev pub invariant-loop-lines : goal.invariant-loop-lines
invariant-loop-lines g l = Makes l.number l.initial.lines.items l.lines.items

abbrev pub decreases-loop-lines : goal.decreases-loop-lines
decreases-loop-lines g l = suc l.number - length l.lines.items
