-- What holds of a pool at each moment: this project's own.
use Rattle.std.specs.Prelude.{◌≡◌, ℕ, ◌+◌, ◌≤◌, true, ◌==◌, nat_lt, if◌then◌else◌, List, [], ◌∷◌, length}
use Rattle.std.specs.List.{AllByRecursion}
use Rattle.server_list.specs.Tried.{is_member}
use Rattle.server_list.specs.Lists
use Rattle.server_list.specs.declared.list.ServerRow.{ServerRow}
use Rattle.transport_pool.specs.State.{PoolState}
use Rattle.transport_pool.specs.declared.numbers.Numbered.{Numbered}

-- how often a transport has this number
abbrev pub times : ℕ → List Numbered → ℕ
times number [] = 0
times number (transport ∷ others) = (if transport.number == number then 1 else 0) + times number others

-- Each number stands once at most among the idle and the lent transports, and none that is still to be drawn.
abbrev pub AreApart : PoolState → Type 0
AreApart pool =
    (number : ℕ) → times number pool.idle + times number pool.lent + (if nat_lt pool.drawn number then 1 else 0) ≤ 1

-- the limits, which no call passes
pub record IsSound (pool : PoolState) : Type 0 where
  pub most : pool.cap ≤ 32
  pub lent : length pool.lent ≤ pool.cap
  pub idle : length pool.idle ≤ 32
  pub waiting : length pool.waiting ≤ 64
  pub drawn : pool.drawn ≤ 18446744073709551615
  pub lent_members : AllByRecursion (λ transport. is_member transport.member ≡ true) pool.lent
  pub idle_members : AllByRecursion (λ transport. is_member transport.member ≡ true) pool.idle
  pub apart : AreApart pool

-- the rows of a list, each with a member's number, no two the same
abbrev pub RowsAreSound : List ServerRow → Type 0
RowsAreSound rows = Lists.IsSound rows

-- what holds of each pool that calls lead to
pub record Holds (pool : PoolState) : Type 0 where
  pub limits : IsSound pool
  pub rows : RowsAreSound pool.list.rows
