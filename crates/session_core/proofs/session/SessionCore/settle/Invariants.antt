use Rattle.std.proofs.Common.{◌≡◌, length}
use Rattle.reply_texts.specs.RdbName.{characters_of}
use Rattle.plain_model.specs.Core.{Nothing, settle_segments}
use Rattle.session_core.proofs.session.SessionCore.settle.Given as goal

abbrev pub invariant-loop-self : goal.invariant-loop-self
invariant-loop-self l = record {
  owed : l.self.owed ≡ Nothing;
  settled : (settle_segments (characters_of l.rdb) l.self.segments l.self).core ≡ (settle_segments (characters_of l.rdb) l.fn.self.segments l.fn.self).core;
}

abbrev pub decreases-loop-self : goal.decreases-loop-self
decreases-loop-self l = length l.self.segments
