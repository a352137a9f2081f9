-- What a journal keeps: this project's own.
use Rattle.std.specs.Prelude.{◌≤◌, length}
use Rattle.std.specs.VecDeque.{deque_capacity}
use Rattle.transport_pool.specs.Journal.{JournalState, most_entries}
use Rattle.transport_pool.specs.declared.journal.Journal.TheInside.{Inside}

abbrev pub journal_of : Inside → JournalState
journal_of journal = record { start = journal.start; entries = journal.entries.items }

pub record IsKeptJournal (journal : Inside) : Type 0 where
  pub few : length journal.entries.items ≤ most_entries
  pub room : most_entries ≤ deque_capacity journal.entries
