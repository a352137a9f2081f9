-- What a requester sends to a server so that it gives access. DDM, volume 3, EXCSAT, ACCSEC, SECCHK, ACCRDB; DRDA, volume 3,
-- DSS. That each of the two chains is numbered from 1 is this project's choice.
use Rattle.std.specs.Prelude.{ℕ, Bool, true, false, List, [], ◌∷◌, ◌++◌}
use Rattle.std.specs.List.{flat_map}
use Rattle.byteorder.specs.Endian.{big_bytes}
use Rattle.dss_frame.specs.declared.dss.Dss.{Dss}
use Rattle.dss_frame.specs.declared.dss.Kind.TheVariants.{Request}
use Rattle.dss_frame.specs.Dss.{canonical}
use Rattle.ddm_objects.specs.Objects.{canonical_object}
use Rattle.ddm_codepoints.specs.CodePoint.{excsat, accsec, mgrlvlls, secmec, rdbnam, agent, sqlam, rdb, secmgr, cmntcpip}
use Rattle.ddm_codepoints.specs.Character.{padded_name}
use Rattle.access_handshake.specs.declared.access.Access.{Access}
use Rattle.access_handshake.specs.Managers.{greatest_level, level_pair}

-- a request DSS: DRDA, volume 3, DSS
abbrev pub request : ℕ → Bool → List ℕ → Dss
request corr chained body = record { kind = Request; chained = chained; same = false; go_on = false; corr = corr; body = body }

-- the managers that the gateway has, each with its level: DDM, volume 3, MGRLVLLS
abbrev pub own_levels : List ℕ
own_levels =
    flat_map (λ code. level_pair (record { code = code; level = greatest_level code })) (agent ∷ sqlam ∷ rdb ∷ secmgr ∷ cmntcpip ∷ [])

-- EXCSAT with these managers: DDM, volume 3, EXCSAT
abbrev pub hello_object : List ℕ
hello_object = canonical_object excsat (canonical_object mgrlvlls own_levels)

-- a chain of its own
unfoldable pub hello_chain : List ℕ
hello_chain = canonical (request 1 false hello_object)

-- ACCSEC: DDM, volume 3, ACCSEC
unfoldable pub accsec_object : ℕ → List ℕ → List ℕ
accsec_object mechanism name =
    canonical_object accsec (canonical_object secmec (big_bytes 2 mechanism) ++ canonical_object rdbnam (padded_name name))

-- ACCSEC, SECCHK and ACCRDB, one chain: DDM, volume 3, ACCSEC, SECCHK, ACCRDB
abbrev pub access_chain : Access → List ℕ → List ℕ
access_chain access name =
    canonical (request 1 true (accsec_object access.secmec name))
    ++ canonical (request 2 true access.secchk)
    ++ canonical (request 3 false access.accrdb)
