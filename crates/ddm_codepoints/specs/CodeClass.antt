-- What code points stand for. The code points and their names are those of DDM, volume 3; that they are put into these
-- classes is this project's own.
use Rattle.std.specs.Prelude.{ℕ, Bool, true, false, ◌==◌, List, [], ◌∷◌, codes, find, Option, None, Some, option_map}
use Rattle.ddm_codepoints.specs.declared.code_class.Entry.{Entry}
use Rattle.ddm_codepoints.specs.declared.code_class.CodeClass.{CodeClass}
use Rattle.ddm_codepoints.specs.declared.code_class.CodeClass.TheVariants.{Access, Pass, UnitEnd, Object, Reply, Unknown}
use Rattle.ddm_codepoints.specs.CodePoint.{excsat, accsec, secchk, accrdb, rdbcmm, rdbrllbck, bgnbnd, bndsqlstt, clsqry, cntqry}
use Rattle.ddm_codepoints.specs.CodePoint.{drppkg, dscsqlstt, endbnd, excsqlimm, excsqlstt, opnqry, prpsqlstt, rebind, excsqlset, fdodsc}
use Rattle.ddm_codepoints.specs.CodePoint.{extdta, fdodta, excsatrd, accsecrd, sqlcard, sqldard, sqldta, sqldtard, sqlstt, qrydsc}
use Rattle.ddm_codepoints.specs.CodePoint.{qrydta, srvlst, sqlattr, codpnt, typdefnam, typdefovr, prdid, srvclsnm, svrcod, synerrcd}
use Rattle.ddm_codepoints.specs.CodePoint.{srvrlslv, extnam, srvnam, rlsconv, ccsidsbc, ccsiddbc, ccsidmbc, usrid, password, secmec}
use Rattle.ddm_codepoints.specs.CodePoint.{secchkcd, mgrlvlls, rtnsetstt, rdbacccl, rdbnam, pkgnamcsn, qryblksz, uowdsp, crrtkn, mgrlvlrm}
use Rattle.ddm_codepoints.specs.CodePoint.{secchkrm, agnprmrm, rsclmtrm, prccnvrm, syntaxrm, cmdnsprm, valnsprm, accrdbrm, qrynoprm, rdbnacrm}
use Rattle.ddm_codepoints.specs.CodePoint.{opnqryrm, endqryrm, enduowrm, abnuowrm, rdbnfnrm, sqlerrrm}

-- a code point, its class and its name
pub record Known : Type 0 where
  pub code : ℕ
  pub class : CodeClass
  pub name : List ℕ

abbrev pub known : ℕ → CodeClass → List ℕ → Known
known code class name = record { code = code; class = class; name = name }

-- the code points that have a class: DDM, volume 3
abbrev pub table : List Known
table =
    known excsat Access (codes "EXCSAT")
    ∷ known accsec Access (codes "ACCSEC")
    ∷ known secchk Access (codes "SECCHK")
    ∷ known accrdb Access (codes "ACCRDB")
    ∷ known rdbcmm UnitEnd (codes "RDBCMM")
    ∷ known rdbrllbck UnitEnd (codes "RDBRLLBCK")
    ∷ known bgnbnd Pass (codes "BGNBND")
    ∷ known bndsqlstt Pass (codes "BNDSQLSTT")
    ∷ known clsqry Pass (codes "CLSQRY")
    ∷ known cntqry Pass (codes "CNTQRY")
    ∷ known drppkg Pass (codes "DRPPKG")
    ∷ known dscsqlstt Pass (codes "DSCSQLSTT")
    ∷ known endbnd Pass (codes "ENDBND")
    ∷ known excsqlimm Pass (codes "EXCSQLIMM")
    ∷ known excsqlstt Pass (codes "EXCSQLSTT")
    ∷ known opnqry Pass (codes "OPNQRY")
    ∷ known prpsqlstt Pass (codes "PRPSQLSTT")
    ∷ known rebind Pass (codes "REBIND")
    ∷ known excsqlset Pass (codes "EXCSQLSET")
    ∷ known fdodsc Object (codes "FDODSC")
    ∷ known extdta Object (codes "EXTDTA")
    ∷ known fdodta Object (codes "FDODTA")
    ∷ known excsatrd Object (codes "EXCSATRD")
    ∷ known accsecrd Object (codes "ACCSECRD")
    ∷ known sqlcard Object (codes "SQLCARD")
    ∷ known sqldard Object (codes "SQLDARD")
    ∷ known sqldta Object (codes "SQLDTA")
    ∷ known sqldtard Object (codes "SQLDTARD")
    ∷ known sqlstt Object (codes "SQLSTT")
    ∷ known qrydsc Object (codes "QRYDSC")
    ∷ known qrydta Object (codes "QRYDTA")
    ∷ known srvlst Object (codes "SRVLST")
    ∷ known sqlattr Object (codes "SQLATTR")
    ∷ known codpnt Object (codes "CODPNT")
    ∷ known typdefnam Object (codes "TYPDEFNAM")
    ∷ known typdefovr Object (codes "TYPDEFOVR")
    ∷ known prdid Object (codes "PRDID")
    ∷ known srvclsnm Object (codes "SRVCLSNM")
    ∷ known svrcod Object (codes "SVRCOD")
    ∷ known synerrcd Object (codes "SYNERRCD")
    ∷ known srvrlslv Object (codes "SRVRLSLV")
    ∷ known extnam Object (codes "EXTNAM")
    ∷ known srvnam Object (codes "SRVNAM")
    ∷ known rlsconv Object (codes "RLSCONV")
    ∷ known ccsidsbc Object (codes "CCSIDSBC")
    ∷ known ccsiddbc Object (codes "CCSIDDBC")
    ∷ known ccsidmbc Object (codes "CCSIDMBC")
    ∷ known usrid Object (codes "USRID")
    ∷ known password Object (codes "PASSWORD")
    ∷ known secmec Object (codes "SECMEC")
    ∷ known secchkcd Object (codes "SECCHKCD")
    ∷ known mgrlvlls Object (codes "MGRLVLLS")
    ∷ known rtnsetstt Object (codes "RTNSETSTT")
    ∷ known rdbacccl Object (codes "RDBACCCL")
    ∷ known rdbnam Object (codes "RDBNAM")
    ∷ known pkgnamcsn Object (codes "PKGNAMCSN")
    ∷ known qryblksz Object (codes "QRYBLKSZ")
    ∷ known uowdsp Object (codes "UOWDSP")
    ∷ known crrtkn Object (codes "CRRTKN")
    ∷ known mgrlvlrm Reply (codes "MGRLVLRM")
    ∷ known secchkrm Reply (codes "SECCHKRM")
    ∷ known agnprmrm Reply (codes "AGNPRMRM")
    ∷ known rsclmtrm Reply (codes "RSCLMTRM")
    ∷ known prccnvrm Reply (codes "PRCCNVRM")
    ∷ known syntaxrm Reply (codes "SYNTAXRM")
    ∷ known cmdnsprm Reply (codes "CMDNSPRM")
    ∷ known valnsprm Reply (codes "VALNSPRM")
    ∷ known accrdbrm Reply (codes "ACCRDBRM")
    ∷ known qrynoprm Reply (codes "QRYNOPRM")
    ∷ known rdbnacrm Reply (codes "RDBNACRM")
    ∷ known opnqryrm Reply (codes "OPNQRYRM")
    ∷ known endqryrm Reply (codes "ENDQRYRM")
    ∷ known enduowrm Reply (codes "ENDUOWRM")
    ∷ known abnuowrm Reply (codes "ABNUOWRM")
    ∷ known rdbnfnrm Reply (codes "RDBNFNRM")
    ∷ known sqlerrrm Reply (codes "SQLERRRM")
    ∷ []

-- the entry with this code point in a table as the code has it: this project's own
unfoldable pub entry_of : List Entry → ℕ → Option Entry
entry_of entries code = find (λ entry. entry.0 == code) entries

-- the entry of a code point
abbrev pub known_of : ℕ → Option Known
known_of code = find (λ known. known.code == code) table

abbrev pub class_or_unknown : Option Known → CodeClass
class_or_unknown (Some known) = known.class
class_or_unknown None = Unknown

-- whether a code point of this class is a command: this project's own
abbrev pub is_command : CodeClass → Bool
is_command Access = true
is_command Pass = true
is_command UnitEnd = true
is_command Object = false
is_command Reply = false
is_command Unknown = false

-- what a code point stands for: this project's own
unfoldable pub class_of : ℕ → CodeClass
class_of code = class_or_unknown (known_of code)

-- the name of a code point: DDM, volume 3
unfoldable pub name_of : ℕ → Option (List ℕ)
name_of code = option_map (λ known. known.name) (known_of code)
