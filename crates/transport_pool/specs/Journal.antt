-- The journal of a pool: its last calls with their answers, and the pool as it stood before the oldest of them. This
-- project's own.
use Rattle.std.specs.Prelude.{◌≡◌, ℕ, if◌then◌else◌, nat_lt, List, [], ◌∷◌, ◌++◌, length}
use Rattle.transport_pool.specs.Counts.{rose}
use Rattle.transport_pool.specs.State.{PoolState}
use Rattle.server_list.specs.Lists.{Listing}
use Rattle.transport_pool.specs.Steps.{Stepped, empty_pool, pool_step}
use Rattle.transport_pool.specs.declared.entry.PoolEntry.{PoolEntry}
use Rattle.transport_pool.specs.declared.entry.PoolCall.{PoolCall}
use Rattle.transport_pool.specs.declared.entry.PoolAnswer.{PoolAnswer}
use Rattle.transport_pool.specs.declared.entry.PoolAnswer.TheVariants.{Idle, Dial}

pub record JournalState : Type 0 where
  pub start : PoolState
  pub entries : List PoolEntry

-- how many entries a journal keeps
abbrev pub most_entries : ℕ
most_entries = 65536

-- without the oldest entry, which the start takes in
abbrev pub forgotten : PoolState → List PoolEntry → JournalState
forgotten start [] = record { start = start; entries = [] }
forgotten start (oldest ∷ others) = record { start = (pool_step start oldest.call).state; entries = others }

-- with room for an entry
abbrev pub with_room : JournalState → JournalState
with_room journal =
    if nat_lt (length journal.entries) most_entries then journal else forgotten journal.start journal.entries

-- with an entry more
abbrev pub with_entry : JournalState → PoolEntry → JournalState
with_entry journal entry =
    record { start = (with_room journal).start; entries = (with_room journal).entries ++ entry ∷ [] }

-- The steps of the entries' calls give their answers, and lead from one pool to another.
abbrev pub Leads : PoolState → List PoolEntry → PoolState → Type 0
Leads start [] now = start ≡ now
Leads start (entry ∷ others) now =
    ((pool_step start entry.call).answer ≡ entry.answer) × Leads (pool_step start entry.call).state others now

-- a pool with its journal and counts
pub record Decided : Type 0 where
  pub pool : PoolState
  pub journal : JournalState
  pub calls : ℕ
  pub dials : ℕ
  pub reuses : ℕ

-- a pool without transports, of which nothing was decided
abbrev pub nothing_decided : ℕ → Listing → Decided
nothing_decided cap list = record {
  pool = empty_pool cap list;
  journal = record { start = empty_pool cap list; entries = [] };
  calls = 0;
  dials = 0;
  reuses = 0;
}

-- a count of dials after an answer
abbrev pub dials_after : PoolAnswer → ℕ → ℕ
dials_after (Dial number member) count = rose count
dials_after _ count = count

-- a count of reuses after an answer
abbrev pub reuses_after : PoolAnswer → ℕ → ℕ
reuses_after (Idle number member) count = rose count
reuses_after _ count = count

abbrev pub after_step : Decided → PoolCall → Stepped → Decided
after_step decided call step = record {
  pool = step.state;
  journal = with_entry decided.journal (record { call = call; answer = step.answer });
  calls = rose decided.calls;
  dials = dials_after step.answer decided.dials;
  reuses = reuses_after step.answer decided.reuses;
}

-- after a call: the pool's step, kept in the journal and counted
abbrev pub decided_after : Decided → PoolCall → Decided
decided_after decided call = after_step decided call (pool_step decided.pool call)
