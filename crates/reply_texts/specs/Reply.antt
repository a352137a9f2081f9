-- Reply messages of a server. DDM, volume 3, at each message; which parameters they have, and in which order, is this
-- project's choice.
use Rattle.std.specs.Prelude.{ℕ, List, [], ◌∷◌, ◌++◌}
use Rattle.byteorder.specs.Endian.{big_bytes}
use Rattle.ddm_objects.specs.Objects.{canonical_object}
use Rattle.ddm_codepoints.specs.CodePoint.{svrcod, rdbnam, uowdsp, codpnt, abnuowrm, enduowrm, cmdnsprm, prccnvrm}
use Rattle.ddm_codepoints.specs.Value.{warning, error}
use Rattle.ddm_codepoints.specs.Character.{padded_name}

-- the severity of what is replied: DDM, volume 3, SVRCOD
abbrev pub severity : ℕ → List ℕ
severity value = canonical_object svrcod (big_bytes 2 value)

-- the unit of work was rolled back without being asked: DDM, volume 3, ABNUOWRM
unfoldable pub abnuow_object : List ℕ → List ℕ
abnuow_object name = canonical_object abnuowrm (severity error ++ canonical_object rdbnam (padded_name name))

-- the unit of work ended in this way: DDM, volume 3, ENDUOWRM
unfoldable pub enduow_object : ℕ → List ℕ
enduow_object disposition = canonical_object enduowrm (severity warning ++ canonical_object uowdsp (disposition ∷ []))

-- the command with this code point isn't known: DDM, volume 3, CMDNSPRM
unfoldable pub cmdnsp_object : ℕ → List ℕ
cmdnsp_object code = canonical_object cmdnsprm (severity error ++ canonical_object codpnt (big_bytes 2 code))

-- the command isn't allowed at this point of the conversation: DDM, volume 3, PRCCNVRM
unfoldable pub prccnv_object : List ℕ
prccnv_object = canonical_object prccnvrm (severity error)
