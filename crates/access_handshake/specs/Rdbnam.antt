-- The answer to the RDBNAM of ACCRDB. DDM, volume 3, ACCRDB, RDBNAM, RDBNFNRM.
use Rattle.std.specs.Prelude.{ℕ, Bool, bytes_eq, is_some, List, ◌++◌, Option, None, Some, if◌then◌else◌}
use Rattle.byteorder.specs.Endian.{big_bytes}
use Rattle.ddm_objects.specs.Objects.{canonical_object}
use Rattle.ddm_codepoints.specs.CodePoint.{rdbnam, svrcod, rdbnfnrm}
use Rattle.ddm_codepoints.specs.Value.{error}
use Rattle.ddm_codepoints.specs.Character.{ebcdic_text, trimmed}
use Rattle.access_handshake.specs.Parameter.{parameter}

-- the parameters have an RDBNAM: DDM, volume 3, ACCRDB
abbrev pub has_rdbnam : List ℕ → Bool
has_rdbnam params = is_some (parameter params rdbnam)

-- A name in EBCDIC is this one in ASCII. That spaces at its end say nothing is this project's choice.
abbrev pub is_name : List ℕ → List ℕ → Bool
is_name asked name = bytes_eq (trimmed asked) (ebcdic_text name)

-- the database with the name that is asked isn't known: DDM, volume 3, RDBNFNRM
abbrev pub rdbnfnrm_object : List ℕ → List ℕ
rdbnfnrm_object asked = canonical_object rdbnfnrm (canonical_object svrcod (big_bytes 2 error) ++ canonical_object rdbnam asked)

abbrev pub answer_to_name : Option (List ℕ) → List ℕ → Option (List ℕ)
answer_to_name None name = None
answer_to_name (Some asked) name = if is_name asked name then None else Some (rdbnfnrm_object asked)

-- RDBNFNRM where the first RDBNAM is another name: DDM, volume 3, ACCRDB
abbrev pub rdbnam_answer : List ℕ → List ℕ → Option (List ℕ)
rdbnam_answer params name = answer_to_name (parameter params rdbnam) name
