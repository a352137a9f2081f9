use Rattle.std.proofs.Common.{◌≡◌, ◌++◌, length}
use Rattle.std.specs.List.{AllByRecursion}
use Rattle.reply_texts.specs.RdbName.{characters_of}
use Rattle.plain_model.specs.Group.{IsCommand}
use Rattle.plain_model.specs.Local.{answered_locally}
use Rattle.session_core.proofs.local.answer_locally.Given as goal

abbrev pub invariant-loop-command : goal.invariant-loop-command
invariant-loop-command l = record {
  commands : AllByRecursion IsCommand l.left;
  stopped : (answered_locally (characters_of l.rdb) l.left l.standing).stopped ≡ (answered_locally (characters_of l.rdb) l.fn.segment l.fn.standing).stopped;
  standing : (answered_locally (characters_of l.rdb) l.left l.standing).standing ≡ (answered_locally (characters_of l.rdb) l.fn.segment l.fn.standing).standing;
  replies : l.replies ++ (answered_locally (characters_of l.rdb) l.left l.standing).replies
      ≡ l.fn.replies ++ (answered_locally (characters_of l.rdb) l.fn.segment l.fn.standing).replies;
}

abbrev pub decreases-loop-command : goal.decreases-loop-command
decreases-loop-command l = length l.left
