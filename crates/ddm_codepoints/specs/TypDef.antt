-- How the data of an application are represented: TYPDEFNAM. DDM, volume 3, TYPDEFNAM.
use Rattle.std.specs.Prelude.{ℕ, List, [], ◌∷◌, bytes_eq, Option, None, Some, if◌then◌else◌}
use Rattle.ddm_codepoints.specs.declared.typdef.TypDef.{TypDef}
use Rattle.ddm_codepoints.specs.declared.typdef.TypDef.TheVariants.{Sql370, SqlAsc, SqlX86}
use Rattle.ddm_codepoints.specs.Character.{trimmed}

-- the names in EBCDIC: DDM, volume 3, TYPDEFNAM
abbrev pub qtdsql370 : List ℕ
qtdsql370 = 0xD8 ∷ 0xE3 ∷ 0xC4 ∷ 0xE2 ∷ 0xD8 ∷ 0xD3 ∷ 0xF3 ∷ 0xF7 ∷ 0xF0 ∷ []

abbrev pub qtdsqlasc : List ℕ
qtdsqlasc = 0xD8 ∷ 0xE3 ∷ 0xC4 ∷ 0xE2 ∷ 0xD8 ∷ 0xD3 ∷ 0xC1 ∷ 0xE2 ∷ 0xC3 ∷ []

abbrev pub qtdsqlx86 : List ℕ
qtdsqlx86 = 0xD8 ∷ 0xE3 ∷ 0xC4 ∷ 0xE2 ∷ 0xD8 ∷ 0xD3 ∷ 0xE7 ∷ 0xF8 ∷ 0xF6 ∷ []

-- the type definition with exactly this name: DDM, volume 3, TYPDEFNAM
abbrev pub typdef_named : List ℕ → Option TypDef
typdef_named name =
    if bytes_eq name qtdsql370 then Some Sql370
    else (if bytes_eq name qtdsqlasc then Some SqlAsc
    else (if bytes_eq name qtdsqlx86 then Some SqlX86
    else None))

-- The type definition that TYPDEFNAM has. That spaces at its end say nothing is this project's choice.
unfoldable pub typdef_of : List ℕ → Option TypDef
typdef_of name = typdef_named (trimmed name)
