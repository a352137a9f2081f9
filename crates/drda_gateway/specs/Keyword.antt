-- Which lines a script has, and their order. This grammar is this project's choice.
use Rattle.std.specs.Prelude.{ℕ, List, ◌==◌, ◌||◌, Bool, true, false, if◌then◌else◌, length, Option, Some, None, option_and_then, codes}
use Rattle.std.specs.Str.{bytes_eq}
use Rattle.drda_gateway.specs.declared.script.draft.Keyword.{Keyword}
use Rattle.drda_gateway.specs.declared.script.draft.Keyword.TheVariants.{Rdb, Cap, Member, User, App, Take, Settle}
use Rattle.drda_gateway.specs.declared.script.draft.Stage.{Stage}
use Rattle.drda_gateway.specs.declared.script.draft.Stage.TheVariants.{Start, AfterRdb, AfterCap, Members, Users, Body}
use Rattle.drda_gateway.specs.Split.{word}

abbrev pub keyword_by_name : List ℕ → Option Keyword
keyword_by_name name =
    if bytes_eq name (codes "rdb") then Some Rdb
    else (if bytes_eq name (codes "cap") then Some Cap
    else (if bytes_eq name (codes "member") then Some Member
    else (if bytes_eq name (codes "user") then Some User
    else (if bytes_eq name (codes "app") then Some App
    else (if bytes_eq name (codes "take") then Some Take
    else (if bytes_eq name (codes "settle") then Some Settle
    else None))))))

-- how many words a line has, its first word counted
abbrev pub fits_count : Keyword → ℕ → Bool
fits_count Rdb count = count == 2
fits_count Cap count = count == 2
fits_count Member count = count == 3
fits_count User count = count == 3
fits_count App count = count == 2 || count == 3
fits_count Take count = count == 3
fits_count Settle count = count == 2

-- what line these words are, where it may have so many
unfoldable pub keyword_of : List (List ℕ) → Option Keyword
keyword_of words = option_and_then (λ keyword. if fits_count keyword (length words) then Some keyword else None) (keyword_by_name (word 0 words))

-- The header has rdb, cap, the members and the users, in this order, and then the body comes.
abbrev pub stage_after : Stage → Keyword → Option Stage
stage_after Start Rdb = Some AfterRdb
stage_after AfterRdb Cap = Some AfterCap
stage_after AfterCap Member = Some Members
stage_after Members Member = Some Members
stage_after Members User = Some Users
stage_after Users User = Some Users
stage_after Members App = Some Body
stage_after Members Take = Some Body
stage_after Members Settle = Some Body
stage_after Users App = Some Body
stage_after Users Take = Some Body
stage_after Users Settle = Some Body
stage_after Body App = Some Body
stage_after Body Take = Some Body
stage_after Body Settle = Some Body
stage_after _ _ = None

-- the header has an rdb, a cap and a member
abbrev pub is_whole : Stage → Bool
is_whole Start = false
is_whole AfterRdb = false
is_whole AfterCap = false
is_whole Members = true
is_whole Users = true
is_whole Body = true
