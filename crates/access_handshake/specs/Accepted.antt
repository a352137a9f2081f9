-- What a server says of itself where it gives access. DDM, volume 3, ACCRDBRM.
use Rattle.std.specs.Prelude.{ℕ, List, Option, None, Some, option_and_then}
use Rattle.ddm_codepoints.specs.declared.typdef.TypDef.{TypDef}
use Rattle.ddm_codepoints.specs.CodePoint.{prdid, typdefnam, typdefovr}
use Rattle.ddm_codepoints.specs.TypDef.{typdef_of}
use Rattle.access_handshake.specs.declared.accepted.Accepted.{Accepted}
use Rattle.access_handshake.specs.Parameter.{parameter}

abbrev pub accepted : Option (List ℕ) → Option TypDef → Option (List ℕ) → Option Accepted
accepted (Some product) (Some typdef) (Some overrides) =
    Some (record { prdid = product; typdef = typdef; typdefovr = overrides })
accepted _ _ _ = None

-- What ACCRDBRM with these parameters says, where it has a PRDID, a TYPDEFNAM that is known, and a TYPDEFOVR. DDM, volume 3,
-- ACCRDBRM.
abbrev pub accepted_of : List ℕ → Option Accepted
accepted_of params = accepted (parameter params prdid) (option_and_then typdef_of (parameter params typdefnam)) (parameter params typdefovr)
