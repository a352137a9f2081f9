-- What each call of a pool answers and changes, as a function of plain numbers: this project's own.
use Rattle.std.specs.Prelude.{ℕ, ◌+◌, Bool, ◌&&◌, ◌||◌, ◌==◌, nat_lt, nat_le, if◌then◌else◌, List, [], ◌∷◌, ◌++◌, length, slice_index_or}
use Rattle.std.specs.Prelude.{reverse, find, fold, Option, Some, None, is_some}
use Rattle.server_list.specs.Tried.{with_member}
use Rattle.server_list.specs.declared.list.ServerRow.{ServerRow}
use Rattle.server_list.specs.Lists.{Listing}
use Rattle.server_list.specs.Layout.{known_rows, unless_empty}
use Rattle.server_list.specs.Choice.{pick}
use Rattle.transport_pool.specs.State.{PoolState, without, is_among, counts_of, left_by, is_waiting, is_behind}
use Rattle.transport_pool.specs.declared.numbers.Numbered.{Numbered}
use Rattle.transport_pool.specs.declared.entry.PoolCall.{PoolCall}
use Rattle.transport_pool.specs.declared.entry.PoolCall.TheVariants.{Lend, GiveBack, Lost, Learn, Leave}
use Rattle.transport_pool.specs.declared.entry.PoolAnswer.{PoolAnswer}
use Rattle.transport_pool.specs.declared.entry.PoolAnswer.TheVariants.{Idle, Dial, Queue, NoneLeft, Worn, Handed, Nothing}

-- the state after a call, and what it answers
pub record Stepped : Type 0 where
  pub state : PoolState
  pub answer : PoolAnswer

-- ---- lending

-- the session waits no more
abbrev pub after_leave : PoolState → ℕ → PoolState
after_leave pool session = record pool { waiting = left_by session pool.waiting }

-- another session waits before this one, or as many transports are lent as may be
abbrev pub must_wait : PoolState → ℕ → Bool
must_wait pool session = is_behind session pool.waiting || length pool.lent == pool.cap

-- the session waits, at the end where it didn't yet and fewer than 64 do
abbrev pub after_wait : PoolState → ℕ → PoolState
after_wait pool session =
    if is_waiting session pool.waiting || nat_le 64 (length pool.waiting) then pool
    else record pool { waiting = pool.waiting ++ session ∷ [] }

-- the idle transport of this member that was given back last, unless a fresh one is asked for
abbrev pub idle_of : ℕ → Bool → List Numbered → Option Numbered
idle_of member fresh idle = if fresh then None else find (λ transport. transport.member == member) (reverse idle)

-- the next number
abbrev pub next_transport : PoolState → ℕ → Numbered
next_transport pool member = record { number = pool.drawn + 1; member = member }

-- the idle transport where there is one, else the right to dial one with the next number, while there is a next number
abbrev pub lent_out : PoolState → ℕ → Option Numbered → Stepped
lent_out pool member (Some transport) = record {
  state = record pool { idle = without transport.number pool.idle; lent = pool.lent ++ transport ∷ [] };
  answer = Idle transport.number transport.member;
}
lent_out pool member None =
    if pool.drawn == 18446744073709551615 then record { state = pool; answer = Worn }
    else record {
      state = record pool { lent = pool.lent ++ next_transport pool member ∷ []; drawn = pool.drawn + 1 };
      answer = Dial (pool.drawn + 1) member;
    }

-- Where all listed members are tried there is none; where the session must wait it does; else it is lent a transport of
-- the member that is picked. With every answer but Queue it waits no more.
abbrev pub lent_by : PoolState → ℕ → Bool → Option ℕ → Stepped
lent_by pool session fresh None = record { state = after_leave pool session; answer = NoneLeft }
lent_by pool session fresh (Some member) =
    if must_wait pool session then record { state = after_wait pool session; answer = Queue }
    else lent_out (after_leave pool session) member (idle_of member fresh pool.idle)

abbrev pub lend_step : PoolState → ℕ → ℕ → Bool → Stepped
lend_step pool session tried fresh = lent_by pool session fresh (pick pool.list.rows (counts_of pool.lent) tried)

-- ---- giving back and losing

-- how many transports may be idle
abbrev pub most_idle : ℕ
most_idle = 32

-- the one idle longest
abbrev pub oldest_of : List Numbered → Numbered → Numbered
oldest_of idle transport = slice_index_or idle 0 transport

-- one that was lent comes to rest, and where 32 were idle the one idle longest is handed out
abbrev pub rested : PoolState → Numbered → Stepped
rested pool transport =
    if nat_lt (length pool.idle) most_idle
    then record { state = record pool { idle = pool.idle ++ transport ∷ [] }; answer = Nothing }
    else record {
      state = record pool { idle = without (oldest_of pool.idle transport).number pool.idle ++ transport ∷ [] };
      answer = Handed (oldest_of pool.idle transport).number;
    }

-- where the number is lent with its member it comes to rest, else it is handed back
abbrev pub give_step : PoolState → ℕ → ℕ → Stepped
give_step pool number member =
    if is_among number member pool.lent
    then rested (record pool { lent = without number pool.lent }) (record { number = number; member = member })
    else record { state = pool; answer = Handed number }

-- the number is no longer lent
abbrev pub lost_step : PoolState → ℕ → Stepped
lost_step pool number = record { state = record pool { lent = without number pool.lent }; answer = Nothing }

-- ---- learning and leaving

-- a list is newer than another, or neither has a number
abbrev pub is_newer : Listing → Listing → Bool
is_newer list old = nat_lt old.number list.number || (list.number == 0 && old.number == 0)

abbrev pub learned : PoolState → Option Listing → PoolState
learned pool None = pool
learned pool (Some list) = record pool { list = list }

-- a newer list's rows of known members are the list from now on, where there are any
abbrev pub after_learn : PoolState → Listing → PoolState
after_learn pool list = if is_newer list pool.list then learned pool (unless_empty (known_rows pool.known list)) else pool

abbrev pub learn_step : PoolState → Listing → Stepped
learn_step pool list = record { state = after_learn pool list; answer = Nothing }

abbrev pub leave_step : PoolState → ℕ → Stepped
leave_step pool session = record { state = after_leave pool session; answer = Nothing }

-- the set of a list's members
abbrev pub members_of : List ServerRow → ℕ
members_of rows = fold (λ members row. with_member members row.member) 0 rows

-- no transports, and the members of this list alone are known
abbrev pub empty_pool : ℕ → Listing → PoolState
empty_pool cap list = record {
  cap = cap;
  known = members_of list.rows;
  list = list;
  lent = [];
  idle = [];
  waiting = [];
  drawn = 0;
}

-- a lend would answer Queue
abbrev pub would_wait : PoolState → ℕ → ℕ → Bool
would_wait pool session tried =
    is_some (pick pool.list.rows (counts_of pool.lent) tried) && must_wait pool session

-- ---- all calls

-- the state and the answer after one call
unfoldable pub pool_step : PoolState → PoolCall → Stepped
pool_step pool (Lend session tried fresh) = lend_step pool session tried fresh
pool_step pool (GiveBack number member) = give_step pool number member
pool_step pool (Lost number) = lost_step pool number
pool_step pool (Learn list) = learn_step pool list
pool_step pool (Leave session) = leave_step pool session
