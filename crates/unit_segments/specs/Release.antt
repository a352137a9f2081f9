-- Asking a member for release at the end of a unit of work: DRDA, volume 3, RDBCMM, RDBRLLBCK, RLSCONV, RTNSETSTT. That both
-- are asked of both commands is this project's own.
use Rattle.std.specs.Prelude.{ℕ, zero, suc, ◌-◌, ◌≤◌, ◌==◌, Bool, ◌||◌, if◌then◌else◌, List, [], ◌∷◌, ◌++◌, map, length, take}
use Rattle.std.specs.Prelude.{Result, Ok, Err}
use Rattle.ddm_objects.specs.declared.fault.ObjFault.{ObjFault}
use Rattle.ddm_objects.specs.Objects.{Found, object_at, canonical_object}
use Rattle.ddm_codepoints.specs.CodeClass.{class_of}
use Rattle.ddm_codepoints.specs.CodePoint.{rlsconv, rtnsetstt}
use Rattle.ddm_codepoints.specs.Value.{release, return_sets}
use Rattle.unit_segments.specs.declared.command.Command.{Command}
use Rattle.unit_segments.specs.Limit.{most_chain_bytes}
use Rattle.unit_segments.specs.Command.{ends_unit, code_of, data_of}
use Rattle.unit_segments.specs.Spelling.{numbered, chain_bytes}

-- ---- parameters without some of them

abbrev pub kept_by : (ℕ → Bool) → List ℕ → Result Found ObjFault → (List ℕ → List ℕ) → List ℕ
kept_by drops bytes (Err fault) others = []
kept_by drops bytes (Ok found) others =
    (if drops found.object.code then [] else take (length bytes - length found.rest) bytes) ++ others found.rest

-- at most count objects
unfoldable pub kept_within : ℕ → (ℕ → Bool) → List ℕ → List ℕ
kept_within zero drops bytes = []
kept_within (suc count) drops [] = []
kept_within (suc count) drops (byte ∷ bytes) =
    kept_by drops (byte ∷ bytes) (object_at 0 (byte ∷ bytes)) (kept_within count drops)

-- Objects one after another, without those whose code points are dropped; the others stand as they came. DDM, volume 3, DDM
-- objects: a collection.
abbrev pub kept_members : (ℕ → Bool) → List ℕ → List ℕ
kept_members drops bytes = kept_within (length bytes) drops bytes

-- ---- asking

-- DRDA, volume 3, RLSCONV, RTNSETSTT
abbrev pub is_asking : ℕ → Bool
is_asking code = code == rlsconv || code == rtnsetstt

-- release, and the SET statements of the unit
abbrev pub asking : List ℕ
asking = canonical_object rlsconv (release ∷ []) ++ canonical_object rtnsetstt (return_sets ∷ [])

-- the command's own parameters but for its own asking, and then this asking
abbrev pub asked_body : List ℕ → List ℕ
asked_body body = canonical_object (code_of body) (kept_members is_asking (data_of body) ++ asking)

-- A command as a member gets it: one that ends a unit asks for release, every other one stays.
abbrev pub asked : Command → Command
asked command = if ends_unit (class_of command.code) then record command { body = asked_body command.body } else command

-- its body is no longer than a chain may be
abbrev pub FitsAChain : Command → Type 0
FitsAChain command = length command.body ≤ most_chain_bytes

-- a segment as a member gets it, numbered from 1
unfoldable pub asked_bytes : List Command → List ℕ
asked_bytes segment = chain_bytes (numbered 1 (map asked segment))
