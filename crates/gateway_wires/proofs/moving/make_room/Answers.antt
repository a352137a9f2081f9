use Rattle.std.proofs.Common.{arith}
use Rattle.gateway_wires.proofs.Rooms.{makes_more}
use Rattle.gateway_wires.proofs.moving.make_room.Goals as goal

pub loop-lines-preserved : goal.loop-lines-preserved
loop-lines-preserved g c =
    rw c.in_ok-push.ensures.items (makes_more c.args.number c.args.lines.now.items c.loop-lines.lines.items c.loop-lines.invariant (omega arith))
