use Rattle.transport_pool.proofs.pool.Pool.lend.Goals as goal

pub lend_of-requires-clause-room : goal.lend_of-requires-clause-room
lend_of-requires-clause-room c = rw c.leave-2.ensures (c.must_wait.ensures.room c.if-must_wait.false)
