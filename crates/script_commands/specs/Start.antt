-- The chains by which an application of a script gets access to the database: DDM, volume 3, EXCSAT, ACCSEC, SECCHK, ACCRDB.
-- The first has EXCSAT and ACCSEC, the second SECCHK and ACCRDB: this project's choice.
use Rattle.std.specs.Prelude.{ℕ, true, false, List, ◌++◌, codes}
use Rattle.byteorder.specs.Endian.{big_bytes}
use Rattle.dss_frame.specs.Dss.{canonical}
use Rattle.ddm_objects.specs.Objects.{canonical_object}
use Rattle.ddm_codepoints.specs.declared.typdef.TypDef.TheVariants.{Sql370}
use Rattle.ddm_codepoints.specs.CodePoint.{secchk, accrdb, secmec, usrid, password, rdbnam, rdbacccl, sqlam, prdid, typdefnam, typdefovr, ccsidsbc}
use Rattle.ddm_codepoints.specs.Character.{padded_name}
use Rattle.reply_texts.specs.Text.{codes_in}
use Rattle.access_handshake.specs.Access.{request, hello_object, accsec_object}

-- the mechanism of a user and a password: DDM, volume 3, SECMEC
abbrev pub user_and_password : ℕ
user_and_password = 3

-- CCSID 37
abbrev pub us_english : ℕ
us_english = 37

-- SECCHK: the mechanism, the user, the password and the database
unfoldable pub secchk_object : List ℕ → List ℕ → List ℕ → List ℕ
secchk_object rdb user word =
    canonical_object secchk
    (canonical_object secmec (big_bytes 2 user_and_password)
    ++ (canonical_object usrid (codes_in Sql370 user)
    ++ (canonical_object password (codes_in Sql370 word) ++ canonical_object rdbnam (padded_name rdb))))

-- the manager of the access, and the product
abbrev pub product_parameters : List ℕ
product_parameters = canonical_object rdbacccl (big_bytes 2 sqlam) ++ canonical_object prdid (codes_in Sql370 (codes "SCR01010"))

-- ACCRDB: the manager of the access, the product, the type definition, the database and the CCSID of single bytes
unfoldable pub accrdb_object : List ℕ → List ℕ
accrdb_object rdb =
    canonical_object accrdb
    (product_parameters
    ++ (canonical_object typdefnam (codes_in Sql370 (codes "QTDSQL370"))
    ++ (canonical_object rdbnam (padded_name rdb)
    ++ canonical_object typdefovr (canonical_object ccsidsbc (big_bytes 2 us_english)))))

-- both chains, each numbered from 1
abbrev pub start_bytes : List ℕ → List ℕ → List ℕ → List ℕ
start_bytes rdb user word =
    canonical (request 1 true hello_object)
    ++ (canonical (request 2 false (accsec_object user_and_password rdb))
    ++ (canonical (request 1 true (secchk_object rdb user word)) ++ canonical (request 2 false (accrdb_object rdb))))
