-- What is owed to an application whose conversation with a server was lost: DRDA, volume 1, units of work. Which error it is, and
-- that some losses need no word, is this project's own.
use Rattle.std.specs.Prelude.{◌||◌, if◌then◌else◌}
use Rattle.requester_core.specs.declared.lost.Lost.{Lost}
use Rattle.requester_core.specs.declared.lost.Owed.TheVariants.{Rerouted, Unknown}
use Rattle.requester_core.specs.declared.lost.Verdict.{Verdict}
use Rattle.requester_core.specs.declared.lost.Verdict.TheVariants.{Again, Owe}

-- Whether a commit was done that was sent isn't known. A unit of work that has answered something, or that holds the conversation
-- behind its end, is gone. Any other one runs again.
abbrev pub decided : Lost → Verdict
decided lost = if lost.commit_sent then Owe Unknown else (if lost.spoken || lost.pinned then Owe Rerouted else Again)
