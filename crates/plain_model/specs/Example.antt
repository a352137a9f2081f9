-- A small group, and what its sessions are sent: cases that are worked out by hand. No standard speaks of them: they are this
-- project's own.
use Rattle.std.specs.Prelude.{◌≡◌, ℕ, suc, ◌==◌, ◌||◌, ◌&&◌, Bool, true, false, not, if◌then◌else◌, List, [], ◌∷◌, ◌++◌, codes, replicate}
use Rattle.std.specs.Prelude.{Option}
use Rattle.std.specs.List.{flat_map}
use Rattle.dss_frame.specs.declared.dss.Dss.{Dss}
use Rattle.dss_frame.specs.declared.dss.Kind.TheVariants as kind
use Rattle.ddm_codepoints.specs.CodePoint.{excsat, accsec, secchk, accrdb, rdbcmm, rdbrllbck, opnqry, excsqlimm, excsqlset, rdbnam, rlsconv}
use Rattle.reply_texts.specs.Closing.{last}
use Rattle.unit_segments.specs.declared.command.Command.{Command}
use Rattle.unit_segments.specs.Command.{data_of, has}
use Rattle.plain_model.specs.Group.{Meaning}
use Rattle.plain_model.specs.Begun.{Chain}
use Rattle.plain_model.specs.Plain.{Event, What, Begin, Sent, Run, Answer, start, plain, out_of}
use Rattle.plain_model.specs.Told.{Outcome, committed, commits_of, told}

-- ---- the group: its data count the commits that are done, and a unit counts its commands and knows whether it has a cursor

pub record ExampleUnit : Type 0 where
  pub ran : ℕ
  pub cursor : Bool

abbrev pub no_unit : ExampleUnit
no_unit = record { ran = 0; cursor = false }

-- SECCHKRM with SECCHKCD 0
abbrev pub secchkrm : List ℕ
secchkrm = 0x00 ∷ 0x0F ∷ 0x12 ∷ 0x19 ∷ 0x00 ∷ 0x06 ∷ 0x11 ∷ 0x49 ∷ 0x00 ∷ 0x00 ∷ 0x00 ∷ 0x05 ∷ 0x11 ∷ 0xA4 ∷ 0x00 ∷ []

-- ACCRDBRM with SVRCOD 0, PRDID GRP01010, QTDSQL370 and CCSIDSBC 37
abbrev pub accrdbrm : List ℕ
accrdbrm =
    0x00 ∷ 0x2D ∷ 0x22 ∷ 0x01 ∷ 0x00 ∷ 0x06 ∷ 0x11 ∷ 0x49 ∷ 0x00 ∷ 0x00 ∷ 0x00 ∷ 0x0C ∷ 0x11 ∷ 0x2E ∷ 0xC7 ∷ 0xD9 ∷ 0xD7 ∷ 0xF0 ∷ 0xF1 ∷ 0xF0
    ∷ 0xF1 ∷ 0xF0 ∷ 0x00 ∷ 0x0D ∷ 0x00 ∷ 0x2F ∷ 0xD8 ∷ 0xE3 ∷ 0xC4 ∷ 0xE2 ∷ 0xD8 ∷ 0xD3 ∷ 0xF3 ∷ 0xF7 ∷ 0xF0 ∷ 0x00 ∷ 0x0A ∷ 0x00 ∷ 0x35 ∷ 0x00
    ∷ 0x06 ∷ 0x11 ∷ 0x9C ∷ 0x00 ∷ 0x25 ∷ []

-- SQLCARD of success
abbrev pub success : List ℕ
success = 0x00 ∷ 0x05 ∷ 0x24 ∷ 0x08 ∷ 0xFF ∷ []

-- ENDUOWRM with this UOWDSP, and then with RLSCONV where release is granted
abbrev pub enduowrm : ℕ → Bool → List ℕ
enduowrm disposition granted =
    if granted
    then 0x00 ∷ 0x14 ∷ 0x22 ∷ 0x0C ∷ 0x00 ∷ 0x06 ∷ 0x11 ∷ 0x49 ∷ 0x00 ∷ 0x04 ∷ 0x00 ∷ 0x05 ∷ 0x21 ∷ 0x15 ∷ disposition
    ∷ 0x00 ∷ 0x05 ∷ 0x11 ∷ 0x9F ∷ 0xF2 ∷ []
    else 0x00 ∷ 0x0F ∷ 0x22 ∷ 0x0C ∷ 0x00 ∷ 0x06 ∷ 0x11 ∷ 0x49 ∷ 0x00 ∷ 0x04 ∷ 0x00 ∷ 0x05 ∷ 0x21 ∷ 0x15 ∷ disposition ∷ []

-- A SQLCARD with SQLCODE 303122688, SQLSTATE 00000 and no name of a procedure, whose bytes are SVRCOD 240 too
abbrev pub two_faced : List ℕ
two_faced = 0x00 ∷ 0x16 ∷ 0x24 ∷ 0x08 ∷ 0x00 ∷ 0x12 ∷ 0x11 ∷ 0x49 ∷ 0x00 ∷ replicate 5 0xF0 ++ replicate 8 0x40

-- release is granted where it is asked and no cursor is left
abbrev pub grants : ExampleUnit → Command → Bool
grants u c = has (data_of c.body) rlsconv && not u.cursor

abbrev pub ending : ℕ → ExampleUnit → Command → List Dss
ending disposition u c = last kind.Reply c.corr (enduowrm disposition (grants u c)) ∷ last kind.Object c.corr success ∷ []

-- success; for a command that names a database it is told twice, and the other time is an error too
abbrev pub done_replies : Command → List Dss
done_replies c =
    if has (data_of c.body) rdbnam
    then last kind.Object c.corr success ∷ last kind.Reply c.corr two_faced ∷ []
    else last kind.Object c.corr success ∷ []

abbrev pub example_replies : ℕ → ExampleUnit → Command → List Dss
example_replies s u c =
    if c.code == secchk then last kind.Reply c.corr secchkrm ∷ []
    else (if c.code == accrdb then last kind.Reply c.corr accrdbrm ∷ []
    else (if c.code == rdbcmm then ending 1 u c
    else (if c.code == rdbrllbck then ending 2 u c
    else done_replies c)))

abbrev pub example_data : ℕ → ExampleUnit → Command → ℕ
example_data s u c = if c.code == rdbcmm then suc s else s

abbrev pub example_unit : ℕ → ExampleUnit → Command → ExampleUnit
example_unit s u c =
    if c.code == rdbcmm then record { ran = 0; cursor = u.cursor }
    else (if c.code == rdbrllbck || (c.code == secchk || c.code == accrdb) then no_unit
    else record { ran = suc u.ran; cursor = if c.code == opnqry then true else u.cursor })

abbrev pub example : Meaning ℕ ExampleUnit
example = record { fresh = no_unit; base = λ st. no_unit; data_after = example_data; unit_after = example_unit; replies = example_replies }

-- ---- commands

abbrev pub sample : List ℕ
sample = codes "SAMPLE"

abbrev pub command : ℕ → ℕ → List ℕ → Command
command code number body = record { code = code; corr = number; go_on = false; at = 0; body = body; objects = [] }

abbrev pub excsat_at : ℕ → Command
excsat_at number = command excsat number (0x00 ∷ 0x04 ∷ 0x10 ∷ 0x41 ∷ [])

-- with mechanism 3
abbrev pub accsec_at : ℕ → Command
accsec_at number = command accsec number (0x00 ∷ 0x0A ∷ 0x10 ∷ 0x6D ∷ 0x00 ∷ 0x06 ∷ 0x11 ∷ 0xA2 ∷ 0x00 ∷ 0x03 ∷ [])

-- of ALICE, with mechanism 4
abbrev pub secchk_at : ℕ → Command
secchk_at number = command secchk number
    (0x00 ∷ 0x13 ∷ 0x10 ∷ 0x6E ∷ 0x00 ∷ 0x06 ∷ 0x11 ∷ 0xA2 ∷ 0x00 ∷ 0x04 ∷ 0x00 ∷ 0x09 ∷ 0x11 ∷ 0xA0 ∷ 0xC1 ∷ 0xD3 ∷ 0xC9 ∷ 0xC3 ∷ 0xC5 ∷ [])

-- of SAMPLE, with QTDSQL370
abbrev pub accrdb_at : ℕ → Command
accrdb_at number = command accrdb number
    (0x00 ∷ 0x1B ∷ 0x20 ∷ 0x01 ∷ 0x00 ∷ 0x0D ∷ 0x00 ∷ 0x2F ∷ 0xD8 ∷ 0xE3 ∷ 0xC4 ∷ 0xE2 ∷ 0xD8 ∷ 0xD3 ∷ 0xF3 ∷ 0xF7 ∷ 0xF0
    ∷ 0x00 ∷ 0x0A ∷ 0x21 ∷ 0x10 ∷ 0xE2 ∷ 0xC1 ∷ 0xD4 ∷ 0xD7 ∷ 0xD3 ∷ 0xC5 ∷ [])

abbrev pub insert : Command
insert = command excsqlimm 1 (0x00 ∷ 0x04 ∷ 0x20 ∷ 0x0A ∷ [])

abbrev pub set : Command
set = command excsqlset 1 (0x00 ∷ 0x04 ∷ 0x20 ∷ 0x14 ∷ [])

-- of SAMPLE
abbrev pub set_at_sample : Command
set_at_sample = command excsqlset 1
    (0x00 ∷ 0x0E ∷ 0x20 ∷ 0x14 ∷ 0x00 ∷ 0x0A ∷ 0x21 ∷ 0x10 ∷ 0xE2 ∷ 0xC1 ∷ 0xD4 ∷ 0xD7 ∷ 0xD3 ∷ 0xC5 ∷ [])

abbrev pub open_cursor : Command
open_cursor = command opnqry 1 (0x00 ∷ 0x04 ∷ 0x20 ∷ 0x0C ∷ [])

abbrev pub commit : Command
commit = command rdbcmm 1 (0x00 ∷ 0x04 ∷ 0x20 ∷ 0x0E ∷ [])

abbrev pub roll_back : Command
roll_back = command rdbrllbck 1 (0x00 ∷ 0x04 ∷ 0x20 ∷ 0x0F ∷ [])

-- ---- events of session 1

abbrev pub events : List What → List Event
events [] = []
events (what ∷ whats) = record { session = 1; what = what } ∷ events whats

-- the segment in work is sent, one command of it runs, and it is answered
abbrev pub one_command : List What
one_command = Sent ∷ Run ∷ Answer ∷ []

abbrev pub runs : Command → List What
runs c = Begin (Chain (c ∷ [])) ∷ one_command

-- EXCSAT and ACCSEC in one chain, SECCHK and ACCRDB in another
abbrev pub begins : List What
begins = Begin (Chain (excsat_at 1 ∷ accsec_at 2 ∷ [])) ∷ Begin (Chain (secchk_at 1 ∷ accrdb_at 2 ∷ [])) ∷ []

abbrev pub access : List What
access = begins ++ one_command ++ one_command

-- ---- what is sent

-- EXCSATRD and ACCSECRD
abbrev pub greeting : List ℕ
greeting =
    0x00 ∷ 0x27 ∷ 0xD0 ∷ 0x43 ∷ 0x00 ∷ 0x01 ∷ 0x00 ∷ 0x21 ∷ 0x14 ∷ 0x43 ∷ 0x00 ∷ 0x0A ∷ 0x11 ∷ 0x47 ∷ 0xC4 ∷ 0xD9 ∷ 0xC4 ∷ 0xC1 ∷ 0xC7 ∷ 0xE6
    ∷ 0x00 ∷ 0x0B ∷ 0x11 ∷ 0x6D ∷ 0xC7 ∷ 0xC1 ∷ 0xE3 ∷ 0xC5 ∷ 0xE6 ∷ 0xC1 ∷ 0xE8 ∷ 0x00 ∷ 0x08 ∷ 0x11 ∷ 0x5A ∷ 0xC7 ∷ 0xE6 ∷ 0xF0 ∷ 0xF1
    ∷ 0x00 ∷ 0x10 ∷ 0xD0 ∷ 0x03 ∷ 0x00 ∷ 0x02 ∷ 0x00 ∷ 0x0A ∷ 0x14 ∷ 0xAC ∷ 0x00 ∷ 0x06 ∷ 0x11 ∷ 0xA2 ∷ 0x00 ∷ 0x03 ∷ []

-- and then SECCHKRM and ACCRDBRM
abbrev pub welcome : List ℕ
welcome =
    greeting ++ (0x00 ∷ 0x15 ∷ 0xD0 ∷ 0x42 ∷ 0x00 ∷ 0x01 ∷ []) ++ secchkrm ++ (0x00 ∷ 0x33 ∷ 0xD0 ∷ 0x02 ∷ 0x00 ∷ 0x02 ∷ []) ++ accrdbrm

-- SQLCARD of success, alone
abbrev pub done : List ℕ
done = 0x00 ∷ 0x0B ∷ 0xD0 ∷ 0x03 ∷ 0x00 ∷ 0x01 ∷ 0x00 ∷ 0x05 ∷ 0x24 ∷ 0x08 ∷ 0xFF ∷ []

-- ENDUOWRM with this UOWDSP, and SQLCARD
abbrev pub unit_ended : ℕ → List ℕ
unit_ended disposition =
    0x00 ∷ 0x15 ∷ 0xD0 ∷ 0x52 ∷ 0x00 ∷ 0x01 ∷ 0x00 ∷ 0x0F ∷ 0x22 ∷ 0x0C ∷ 0x00 ∷ 0x06 ∷ 0x11 ∷ 0x49 ∷ 0x00 ∷ 0x04 ∷ 0x00 ∷ 0x05 ∷ 0x21 ∷ 0x15 ∷ disposition
    ∷ done

-- ABNUOWRM of SAMPLE, and SQLCARD with these bytes of SQLCODE and SQLSTATE
abbrev pub rolled_back : List ℕ → List ℕ
rolled_back card =
    (0x00 ∷ 0x26 ∷ 0xD0 ∷ 0x52 ∷ 0x00 ∷ 0x01 ∷ 0x00 ∷ 0x20 ∷ 0x22 ∷ 0x0D ∷ 0x00 ∷ 0x06 ∷ 0x11 ∷ 0x49 ∷ 0x00 ∷ 0x08 ∷ 0x00 ∷ 0x16 ∷ 0x21 ∷ 0x10
    ∷ 0xE2 ∷ 0xC1 ∷ 0xD4 ∷ 0xD7 ∷ 0xD3 ∷ 0xC5 ∷ replicate 12 0x40)
    ++ (0x00 ∷ 0x1E ∷ 0xD0 ∷ 0x03 ∷ 0x00 ∷ 0x01 ∷ 0x00 ∷ 0x18 ∷ 0x24 ∷ 0x08 ∷ 0x00 ∷ []) ++ card ++ replicate 8 0x40 ++ (0xFF ∷ 0xFF ∷ [])

-- SQLCODE -30108 with SQLSTATE 08506 and 08007, and -30081 with 08001 and 08007
abbrev pub rerouted : List ℕ
rerouted = rolled_back (0xFF ∷ 0xFF ∷ 0x8A ∷ 0x64 ∷ 0xF0 ∷ 0xF8 ∷ 0xF5 ∷ 0xF0 ∷ 0xF6 ∷ [])

abbrev pub unknown : List ℕ
unknown = rolled_back (0xFF ∷ 0xFF ∷ 0x8A ∷ 0x64 ∷ 0xF0 ∷ 0xF8 ∷ 0xF0 ∷ 0xF0 ∷ 0xF7 ∷ [])

abbrev pub ended : List ℕ
ended = rolled_back (0xFF ∷ 0xFF ∷ 0x8A ∷ 0x7F ∷ 0xF0 ∷ 0xF8 ∷ 0xF0 ∷ 0xF0 ∷ 0xF1 ∷ [])

abbrev pub ended_unknown : List ℕ
ended_unknown = rolled_back (0xFF ∷ 0xFF ∷ 0x8A ∷ 0x7F ∷ 0xF0 ∷ 0xF8 ∷ 0xF0 ∷ 0xF0 ∷ 0xF7 ∷ [])

-- AGNPRMRM
abbrev pub no_access_left : List ℕ
no_access_left = 0x00 ∷ 0x10 ∷ 0xD0 ∷ 0x02 ∷ 0x00 ∷ 0x01 ∷ 0x00 ∷ 0x0A ∷ 0x12 ∷ 0x32 ∷ 0x00 ∷ 0x06 ∷ 0x11 ∷ 0x49 ∷ 0x00 ∷ 0x10 ∷ []

-- ---- a case

-- What session 1 is sent, how often its first unit is committed and what is told of it, how many commits the data count, how
-- many commands the unit of its conversation then has, and the number of the unit in work.
pub record Comes (whats : List What) (out : List ℕ) (commits : ℕ) (outcome : Option Outcome) (shared ran unit : ℕ) : Type 0 where
  pub sent : out_of (plain sample example (start example 0) (events whats)) 1 ≡ out
  pub committed_times : commits_of 1 1 (committed sample example (start example 0) (events whats)) ≡ commits
  pub is_told : told sample example (start example 0) (events whats) 1 1 ≡ outcome
  pub data_are : (plain sample example (start example 0) (events whats)).shared ≡ shared
  pub unit_is : ((plain sample example (start example 0) (events whats)).session 1).held.ran ≡ ran
  pub in_work : ((plain sample example (start example 0) (events whats)).session 1).core.unit ≡ unit

-- ---- more commands, and what they are answered

-- a code point that is no command, after which the chain goes on or doesn't
abbrev pub unknown_first : Bool → Command
unknown_first go_on = record { code = 0xFFFF; corr = 1; go_on = go_on; at = 0; body = 0x00 ∷ 0x04 ∷ 0xFF ∷ 0xFF ∷ []; objects = [] }

abbrev pub excsat_second : Command
excsat_second = excsat_at 2

-- CMDNSPRM, chained or alone
abbrev pub cmdnsp_reply : Bool → List ℕ
cmdnsp_reply chained =
    0x00 ∷ 0x16 ∷ 0xD0 ∷ (if chained then 0x42 else 0x02) ∷ 0x00 ∷ 0x01 ∷ 0x00 ∷ 0x10 ∷ 0x12 ∷ 0x50 ∷ 0x00 ∷ 0x06 ∷ 0x11 ∷ 0x49 ∷ 0x00 ∷ 0x08
    ∷ 0x00 ∷ 0x06 ∷ 0x00 ∷ 0x0C ∷ 0xFF ∷ 0xFF ∷ []

-- EXCSATRD with number 2
abbrev pub excsat_reply : List ℕ
excsat_reply =
    0x00 ∷ 0x27 ∷ 0xD0 ∷ 0x03 ∷ 0x00 ∷ 0x02 ∷ 0x00 ∷ 0x21 ∷ 0x14 ∷ 0x43 ∷ 0x00 ∷ 0x0A ∷ 0x11 ∷ 0x47 ∷ 0xC4 ∷ 0xD9 ∷ 0xC4 ∷ 0xC1 ∷ 0xC7 ∷ 0xE6
    ∷ 0x00 ∷ 0x0B ∷ 0x11 ∷ 0x6D ∷ 0xC7 ∷ 0xC1 ∷ 0xE3 ∷ 0xC5 ∷ 0xE6 ∷ 0xC1 ∷ 0xE8 ∷ 0x00 ∷ 0x08 ∷ 0x11 ∷ 0x5A ∷ 0xC7 ∷ 0xE6 ∷ 0xF0 ∷ 0xF1 ∷ []

-- PRCCNVRM
abbrev pub prccnv_reply : List ℕ
prccnv_reply = 0x00 ∷ 0x10 ∷ 0xD0 ∷ 0x02 ∷ 0x00 ∷ 0x01 ∷ 0x00 ∷ 0x0A ∷ 0x12 ∷ 0x45 ∷ 0x00 ∷ 0x06 ∷ 0x11 ∷ 0x49 ∷ 0x00 ∷ 0x08 ∷ []

-- SQLCARDs of success to 64 commands of one chain, which have one number
abbrev pub sets_done : List ℕ
sets_done = flat_map (λ bytes. bytes) (replicate 63 (0x00 ∷ 0x0B ∷ 0xD0 ∷ 0x53 ∷ 0x00 ∷ 0x01 ∷ 0x00 ∷ 0x05 ∷ 0x24 ∷ 0x08 ∷ 0xFF ∷ [])) ++ done

-- SQLCARD of success, and the one that is an error too, to one command
abbrev pub done_twice : List ℕ
done_twice = (0x00 ∷ 0x0B ∷ 0xD0 ∷ 0x53 ∷ 0x00 ∷ 0x01 ∷ 0x00 ∷ 0x05 ∷ 0x24 ∷ 0x08 ∷ 0xFF ∷ 0x00 ∷ 0x1C ∷ 0xD0 ∷ 0x02 ∷ 0x00 ∷ 0x01 ∷ []) ++ two_faced
