-- What a pool of transports knows, as plain numbers. Pools, transports and their numbers are this project's own; that a
-- member may be chosen from a server list is DRDA, volume 3, SRVLST.
use Rattle.std.specs.Prelude.{ℕ, ◌-◌, ◌+◌, Bool, false, not, ◌&&◌, ◌==◌, List, [], ◌∷◌, filter, replicate, slice_set, fold}
use Rattle.std.specs.List.{list_any}
use Rattle.server_list.specs.Lists.{Listing}
use Rattle.server_list.specs.Choice.{lent_to}
use Rattle.transport_pool.specs.declared.numbers.Numbered.{Numbered}

-- How many transports may be lent; the members that can be listed; the list in use; the transports that are lent, and
-- those that are idle, in the order of giving back; the sessions that wait, in order; the greatest number drawn so far.
pub record PoolState : Type 0 where
  pub cap : ℕ
  pub known : ℕ
  pub list : Listing
  pub lent : List Numbered
  pub idle : List Numbered
  pub waiting : List ℕ
  pub drawn : ℕ

-- without the transport of this number
abbrev pub without : ℕ → List Numbered → List Numbered
without number transports = filter (λ transport. not (transport.number == number)) transports

-- a transport with this number and this member is among them
abbrev pub is_among : ℕ → ℕ → List Numbered → Bool
is_among number member transports =
    list_any (λ transport. transport.number == number && transport.member == member) transports

-- one more for the transport's member, where the counts stand in the order of the members' numbers
abbrev pub with_one_more : List ℕ → Numbered → List ℕ
with_one_more counts transport = slice_set counts (transport.member - 1) (lent_to counts transport.member + 1)

-- how many transports each member has of these
abbrev pub counts_of : List Numbered → List ℕ
counts_of transports = fold with_one_more (replicate 32 0) transports

-- without this session
abbrev pub left_by : ℕ → List ℕ → List ℕ
left_by session waiting = filter (λ other. not (other == session)) waiting

abbrev pub is_waiting : ℕ → List ℕ → Bool
is_waiting session waiting = list_any (λ other. other == session) waiting

-- another session waits before this one; all that wait do so before one that doesn't
abbrev pub is_behind : ℕ → List ℕ → Bool
is_behind session [] = false
is_behind session (first ∷ others) = not (first == session)
