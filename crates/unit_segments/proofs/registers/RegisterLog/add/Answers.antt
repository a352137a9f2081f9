use Rattle.unit_segments.specs.Registers.{set_of}
use Rattle.unit_segments.proofs.Registering.{set_fits, room_for}
use Rattle.unit_segments.proofs.registers.RegisterLog.add.Goals as goal

pub put-requires-clause-room : goal.put-requires-clause-room
put-requires-clause-room c =
    room_for (record { key = c.in_ok-key.key; statement = c.args.sqlstt.now }) c.args.self.now c.len-count.result c.has-is_set.result c.is_full.result
    c.len-count.ensures.len c.len-count.ensures.most c.has-is_set.ensures c.is_full.ensures c.if-is_full.false

pub put-requires-clause-size : goal.put-requires-clause-size
put-requires-clause-size c =
    set_fits c.args.sqlstt.now (set_of c.args.sqlstt.now).size c.is_too_long.result c.is_too_long.ensures.long c.if-is_too_long.false
    c.is_too_long.ensures.size
