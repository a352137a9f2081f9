-- The code points of DDM that the gateway knows, by the standard's names. DDM, volume 3; those of SRVLST, RLSCONV and
-- RTNSETSTT are this project's own.
use Rattle.std.specs.Prelude.{ℕ}

-- commands that lead to access: DDM, volume 3
abbrev pub excsat : ℕ
excsat = 0x1041

abbrev pub accsec : ℕ
accsec = 0x106D

abbrev pub secchk : ℕ
secchk = 0x106E

abbrev pub accrdb : ℕ
accrdb = 0x2001

-- commands that end a unit of work: DDM, volume 3
abbrev pub rdbcmm : ℕ
rdbcmm = 0x200E

abbrev pub rdbrllbck : ℕ
rdbrllbck = 0x200F

-- commands to a database that was accessed: DDM, volume 3
abbrev pub bgnbnd : ℕ
bgnbnd = 0x2002

abbrev pub bndsqlstt : ℕ
bndsqlstt = 0x2004

abbrev pub clsqry : ℕ
clsqry = 0x2005

abbrev pub cntqry : ℕ
cntqry = 0x2006

abbrev pub drppkg : ℕ
drppkg = 0x2007

abbrev pub dscsqlstt : ℕ
dscsqlstt = 0x2008

abbrev pub endbnd : ℕ
endbnd = 0x2009

abbrev pub excsqlimm : ℕ
excsqlimm = 0x200A

abbrev pub excsqlstt : ℕ
excsqlstt = 0x200B

abbrev pub opnqry : ℕ
opnqry = 0x200C

abbrev pub prpsqlstt : ℕ
prpsqlstt = 0x200D

abbrev pub rebind : ℕ
rebind = 0x2010

abbrev pub excsqlset : ℕ
excsqlset = 0x2014

-- objects and parameters: DDM, volume 3
abbrev pub fdodsc : ℕ
fdodsc = 0x0010

abbrev pub extdta : ℕ
extdta = 0x146C

abbrev pub fdodta : ℕ
fdodta = 0x147A

abbrev pub excsatrd : ℕ
excsatrd = 0x1443

abbrev pub accsecrd : ℕ
accsecrd = 0x14AC

abbrev pub sqlcard : ℕ
sqlcard = 0x2408

abbrev pub sqldard : ℕ
sqldard = 0x2411

abbrev pub sqldta : ℕ
sqldta = 0x2412

abbrev pub sqldtard : ℕ
sqldtard = 0x2413

abbrev pub sqlstt : ℕ
sqlstt = 0x2414

abbrev pub qrydsc : ℕ
qrydsc = 0x241A

abbrev pub qrydta : ℕ
qrydta = 0x241B

abbrev pub srvlst : ℕ
srvlst = 0x244E

abbrev pub sqlattr : ℕ
sqlattr = 0x2450

abbrev pub codpnt : ℕ
codpnt = 0x000C

abbrev pub typdefnam : ℕ
typdefnam = 0x002F

abbrev pub typdefovr : ℕ
typdefovr = 0x0035

abbrev pub prdid : ℕ
prdid = 0x112E

abbrev pub srvclsnm : ℕ
srvclsnm = 0x1147

abbrev pub svrcod : ℕ
svrcod = 0x1149

abbrev pub synerrcd : ℕ
synerrcd = 0x114A

abbrev pub srvrlslv : ℕ
srvrlslv = 0x115A

abbrev pub extnam : ℕ
extnam = 0x115E

abbrev pub srvnam : ℕ
srvnam = 0x116D

abbrev pub rlsconv : ℕ
rlsconv = 0x119F

abbrev pub ccsidsbc : ℕ
ccsidsbc = 0x119C

abbrev pub ccsiddbc : ℕ
ccsiddbc = 0x119D

abbrev pub ccsidmbc : ℕ
ccsidmbc = 0x119E

abbrev pub usrid : ℕ
usrid = 0x11A0

abbrev pub password : ℕ
password = 0x11A1

abbrev pub secmec : ℕ
secmec = 0x11A2

abbrev pub secchkcd : ℕ
secchkcd = 0x11A4

abbrev pub mgrlvlls : ℕ
mgrlvlls = 0x1404

abbrev pub rtnsetstt : ℕ
rtnsetstt = 0x210E

abbrev pub rdbacccl : ℕ
rdbacccl = 0x210F

abbrev pub rdbnam : ℕ
rdbnam = 0x2110

abbrev pub pkgnamcsn : ℕ
pkgnamcsn = 0x2113

abbrev pub qryblksz : ℕ
qryblksz = 0x2114

abbrev pub uowdsp : ℕ
uowdsp = 0x2115

abbrev pub crrtkn : ℕ
crrtkn = 0x2135

-- reply messages: DDM, volume 3
abbrev pub mgrlvlrm : ℕ
mgrlvlrm = 0x1210

abbrev pub secchkrm : ℕ
secchkrm = 0x1219

abbrev pub agnprmrm : ℕ
agnprmrm = 0x1232

abbrev pub rsclmtrm : ℕ
rsclmtrm = 0x1233

abbrev pub prccnvrm : ℕ
prccnvrm = 0x1245

abbrev pub syntaxrm : ℕ
syntaxrm = 0x124C

abbrev pub cmdnsprm : ℕ
cmdnsprm = 0x1250

abbrev pub valnsprm : ℕ
valnsprm = 0x1252

abbrev pub accrdbrm : ℕ
accrdbrm = 0x2201

abbrev pub qrynoprm : ℕ
qrynoprm = 0x2202

abbrev pub rdbnacrm : ℕ
rdbnacrm = 0x2204

abbrev pub opnqryrm : ℕ
opnqryrm = 0x2205

abbrev pub endqryrm : ℕ
endqryrm = 0x220B

abbrev pub enduowrm : ℕ
enduowrm = 0x220C

abbrev pub abnuowrm : ℕ
abnuowrm = 0x220D

abbrev pub rdbnfnrm : ℕ
rdbnfnrm = 0x2211

abbrev pub sqlerrrm : ℕ
sqlerrrm = 0x2213

-- managers: DDM, volume 3
abbrev pub agent : ℕ
agent = 0x1403

abbrev pub sqlam : ℕ
sqlam = 0x2407

abbrev pub rdb : ℕ
rdb = 0x240F

abbrev pub secmgr : ℕ
secmgr = 0x1440

abbrev pub cmntcpip : ℕ
cmntcpip = 0x1474

abbrev pub unicodemgr : ℕ
unicodemgr = 0x1C08
