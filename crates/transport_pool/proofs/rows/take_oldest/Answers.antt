use Rattle.std.proofs.Common.{◌≡◌, slice_index_or, rules}
use Rattle.transport_pool.proofs.Keeps.{length_without_found}
use Rattle.transport_pool.proofs.rows.take_oldest.Goals as goal

pub returns-clause-len : goal.returns-clause-len
returns-clause-len c =
    let e : c.index-oldest.result.now ≡ slice_index_or c.args.idle.now.items 0 c.index-oldest.result.now = search rules in
    rw c.remove_number.ensures.items (length_without_found c.args.idle.now.items c.index-oldest.result.now c.requires e)
