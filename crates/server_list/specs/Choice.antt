-- Which member the next transport goes to. The standard leaves the choice to the requester: DRDA, volume 3, SRVLST,
-- where a weight says how much of the load a server is to have. The rule is this project's own.
use Rattle.std.specs.Prelude.{ℕ, ◌+◌, ◌-◌, ◌*◌, Bool, ◌&&◌, ◌||◌, not, nat_le, nat_lt, List, find, Option, option_map, slice_index_or}
use Rattle.std.specs.List.{list_all}
use Rattle.std.specs.Option.{option_or}
use Rattle.server_list.specs.Tried.{has_member}
use Rattle.server_list.specs.declared.list.ServerRow.{ServerRow}

-- how many transports are lent to a member, where the counts stand in the order of the numbers: this project's own
abbrev pub lent_to : List ℕ → ℕ → ℕ
lent_to lent member = slice_index_or lent (member - 1) 0

-- this project's own
abbrev pub is_untried : ℕ → ServerRow → Bool
is_untried tried row = not (has_member tried row.member)

-- an untried member that is to have load: this project's own
abbrev pub is_candidate : ℕ → ServerRow → Bool
is_candidate tried row = nat_lt 0 row.weight && is_untried tried row

-- With one transport more, the first member has no more of them for its weight than the other: the quotients are compared
-- by products. This project's own.
abbrev pub is_no_fuller : List ℕ → ServerRow → ServerRow → Bool
is_no_fuller lent row other =
    nat_le ((lent_to lent row.member + 1) * other.weight) ((lent_to lent other.member + 1) * row.weight)

-- no fuller than each candidate: this project's own
abbrev pub is_least : List ℕ → ℕ → List ServerRow → ServerRow → Bool
is_least lent tried rows row =
    list_all (λ other. not (is_candidate tried other) || is_no_fuller lent row other) rows

-- a candidate that is no fuller than each candidate: this project's own
abbrev pub is_best : List ℕ → ℕ → List ServerRow → ServerRow → Bool
is_best lent tried rows row =
    is_candidate tried row && is_least lent tried rows row

-- all members of the list are tried
abbrev pub are_tried : List ServerRow → ℕ → Bool
are_tried rows tried = list_all (λ row. has_member tried row.member) rows

-- The member that the next transport goes to: the first best one, else the first untried one, None where all are tried.
-- This project's own.
abbrev pub pick : List ServerRow → List ℕ → ℕ → Option ℕ
pick rows lent tried =
    option_map (λ row. row.member) (option_or (find (is_best lent tried rows) rows) (find (is_untried tried) rows))
