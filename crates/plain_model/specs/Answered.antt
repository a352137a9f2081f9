-- The segment in work is answered. DRDA, volume 3, ENDUOWRM, EXCSQLSET; DDM, volume 3, SECCHKRM, ACCRDBRM, RSCLMTRM. What runs
-- again without a word, and how much of it, is this project's own.
use Rattle.std.specs.Prelude.{ℕ, suc, Bool, true, false, not, ◌==◌, ◌&&◌, nat_le, if◌then◌else◌, List, [], ◌∷◌, ◌++◌, length}
use Rattle.std.specs.Prelude.{Option, Some, None}
use Rattle.std.specs.List.{list_any}
use Rattle.dss_frame.specs.declared.dss.Dss.{Dss}
use Rattle.ddm_codepoints.specs.CodePoint.{secchk, accrdb}
use Rattle.reply_texts.specs.Closing.{limit_reply}
use Rattle.unit_segments.specs.declared.command.Command.{Command}
use Rattle.unit_segments.specs.declared.registers.RegisterFault.{RegisterFault}
use Rattle.unit_segments.specs.declared.registers.RegisterFault.TheVariants as fault
use Rattle.unit_segments.specs.declared.stripped.Stripped.{Stripped}
use Rattle.unit_segments.specs.Segment.{goes_on_a_run}
use Rattle.unit_segments.specs.Spelling.{chain_bytes, join}
use Rattle.unit_segments.specs.Strip.{tells_error}
use Rattle.unit_segments.specs.Accepts.{sets_only}
use Rattle.plain_model.specs.Standing.{Standing, after_secchk, after_accrdb, after_end, log_with}
use Rattle.plain_model.specs.Group.{told_typdef}
use Rattle.plain_model.specs.Core.{Core, After, LimitKind, Registers, Set, Limit, first, others, number_in, settled, finished}

-- ---- where the session stands then

abbrev pub standing_after : Standing → List Command → Stripped → Standing
standing_after st [] r = st
standing_after st (command ∷ commands) r =
    if command.code == secchk then after_secchk st command r.replies
    else (if command.code == accrdb then after_accrdb st command r.replies
    else (if r.ended then after_end st r.sets
    else st))

-- ---- what runs again

-- how many commands, and how many bytes of them in one chain, a session keeps to run again: this project's choice
abbrev pub most_again : ℕ
most_again = 64

abbrev pub most_again_bytes : ℕ
most_again_bytes = 262144

-- commands of a unit, and not one of access
abbrev pub is_work : List Command → Bool
is_work [] = false
is_work (command ∷ commands) = goes_on_a_run command

abbrev pub fit : List Command → Bool
fit again = nat_le (length again) most_again && nat_le (length (chain_bytes again)) most_again_bytes

-- No error is told: so none of the commands kept the rest of them from running, nor would one if they ran again as a chain of
-- their own. DDM, volume 3, SVRCOD.
abbrev pub without_error : List Dss → Bool
without_error replies = not (list_any tells_error replies)

-- the segment in work was answered by these, all of it ran, and it can be run again with what the unit answered before
abbrev pub joins_again : List Dss → Core → Bool
joins_again replies k =
    without_error replies && (sets_only k.typdef (first k.segments) replies && (not k.spoken && fit (k.again ++ first k.segments)))

abbrev pub with_work : Stripped → Core → Core
with_work r k =
    if joins_again r.replies k then record k { again = k.again ++ first k.segments } else record k { spoken = true }

-- the unit of work ended
abbrev pub with_end : Stripped → Core → Core
with_end r k = record k { pinned = not r.granted; spoken = false; again = []; unit = suc k.unit }

abbrev pub unit_after : Stripped → Core → Core
unit_after r k = if r.ended then with_end r k else (if is_work (first k.segments) then with_work r k else k)

-- ---- the core after it

-- the segments that are left: none after an error that stops the chain
abbrev pub left_after : Stripped → List (List Command) → List (List Command)
left_after r segments = if r.stop then [] else others segments

-- the segment leaves, and its replies are kept
abbrev pub with_replies : Stripped → Core → Core
with_replies r k = record k {
  standing = standing_after k.standing (first k.segments) r;
  typdef = told_typdef k.typdef r.replies;
  segments = left_after r k.segments;
  kept = k.kept ++ r.replies;
  sent = false;
}

abbrev pub answered_core : Stripped → Core → Core
answered_core r k = with_replies r (unit_after r k)

-- ---- a register too many, or too long

abbrev pub limit_of : RegisterFault → LimitKind
limit_of fault.TooMany = Registers
limit_of fault.TooLong = Set
limit_of fault.NoMemory = Registers

-- what is wrong with the registers that the unit has set
abbrev pub register_fault : Stripped → Core → Option RegisterFault
register_fault r k = if r.ended then (log_with k.standing r.sets).fault else None

-- the reply is finished, and RSCLMTRM and the end follow as a chain of their own
abbrev pub past_limit : ℕ → LimitKind → Core → After
past_limit number kind k = record {
  core = record k { segments = []; kept = []; end = Some (Limit kind) };
  said = join k.kept ++ limit_reply number;
  moved = false;
}

abbrev pub answered_by : List ℕ → ℕ → Option RegisterFault → Core → After
answered_by name number None k = finished (settled name k)
answered_by name number (Some why) k = past_limit number (limit_of why) k

-- The segment in work was answered so.
unfoldable pub answered : List ℕ → Stripped → Core → After
answered name r k = answered_by name (number_in (first k.segments)) (register_fault r k) (answered_core r k)
