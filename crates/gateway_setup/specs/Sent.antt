-- The lists of members that members send to their clients: DRDA, volume 3, SRVLST. That each member may have a list of its
-- own, and that it never changes, is this project's own.
use Rattle.std.specs.Prelude.{ℕ, ◌-◌, Bool, ◌&&◌, List, Option, Some, None, is_none, if◌then◌else◌, replicate, slice_index_or, slice_set}
use Rattle.std.specs.Option.{unwrap_or}
use Rattle.server_list.specs.Lists.{Listing, no_rows}
use Rattle.server_list.specs.Tried.{is_member}

-- no member sends a list: the members stand in the order of their numbers, from 1 to 32
abbrev pub nothing_sent : List (Option Listing)
nothing_sent = replicate 32 None

-- the list of a member, None where it sends none
abbrev pub sent_by : List (Option Listing) → ℕ → Option Listing
sent_by lists member = if is_member member then slice_index_or lists (member - 1) None else None

-- the same, where one that sends none has no rows
abbrev pub list_of : List (Option Listing) → ℕ → Listing
list_of lists member = unwrap_or (sent_by lists member) no_rows

-- a member that has no list yet
abbrev pub is_free : List (Option Listing) → ℕ → Bool
is_free lists member = is_member member && is_none (sent_by lists member)

-- the lists, where this member has this one, unless it has one already
abbrev pub with_sent : List (Option Listing) → ℕ → Listing → List (Option Listing)
with_sent lists member list = if is_free lists member then slice_set lists (member - 1) (Some list) else lists
