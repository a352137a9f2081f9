-- Managers and their levels, as a requester asks for them and a server grants them. DDM, volume 3, MGRLVLLS: four
-- bytes for each manager, its code point and its level.
use Rattle.std.specs.Prelude.{ℕ, min, Bool, false, ◌||◌, ◌==◌, nat_lt, if◌then◌else◌, List, [], ◌∷◌, ◌++◌, find, Option, None, Some}
use Rattle.std.specs.List.{flat_map}
use Rattle.byteorder.specs.Endian.{big_number, big_bytes}
use Rattle.ddm_codepoints.specs.CodePoint.{agent, sqlam, rdb, secmgr, cmntcpip}
use Rattle.access_handshake.specs.declared.manager.ManagerLevel.{ManagerLevel}

-- The managers that a list names, in order. DDM, volume 3, MGRLVLLS; that a rest of fewer than four bytes is passed
-- over is this project's choice.
abbrev pub managers_of : List ℕ → List ManagerLevel
managers_of (a ∷ b ∷ c ∷ d ∷ rest) =
    record { code = big_number 2 (a ∷ b ∷ []); level = big_number 2 (c ∷ d ∷ []) } ∷ managers_of rest
managers_of _ = []

-- the four bytes of one manager: DDM, volume 3, MGRLVLLS
abbrev pub level_pair : ManagerLevel → List ℕ
level_pair manager = big_bytes 2 manager.code ++ big_bytes 2 manager.level

-- the greatest level that the gateway has of a manager: this project's choice
abbrev pub greatest_level : ℕ → ℕ
greatest_level code =
    if code == agent || code == sqlam || code == rdb || code == secmgr then 7 else (if code == cmntcpip then 5 else 0)

-- What is granted of what is asked. DDM, volume 3, MGRLVLLS: the lesser of the two levels, 0 for a manager that the
-- server doesn't have.
abbrev pub granted : ManagerLevel → ManagerLevel
granted asked = record { code = asked.code; level = min asked.level (greatest_level asked.code) }

-- the bytes of the levels that are granted, in the asked order: DDM, volume 3, MGRLVLLS
abbrev pub granted_list : List ManagerLevel → List ℕ
granted_list asked = flat_map (λ manager. level_pair (granted manager)) asked

abbrev pub is_below_seven : Option ManagerLevel → Bool
is_below_seven None = false
is_below_seven (Some asked) = nat_lt asked.level 7

-- SQLAM is asked at a level that doesn't do; where it is named again, the first counts. This project's choice.
abbrev pub is_too_low : List ManagerLevel → Bool
is_too_low asked = is_below_seven (find (λ manager. manager.code == sqlam) asked)
