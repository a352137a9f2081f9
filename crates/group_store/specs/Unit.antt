-- What a conversation has of its own. DDM, volume 3, EXCSAT, ACCSEC, SECCHK, ACCRDB; DRDA, volume 1, units of work; DRDA, volume
-- 3, EXCSQLSET, PRPSQLSTT, OPNQRY.
use Rattle.std.specs.Prelude.{ℕ, ◌+◌, Bool, List, [], filter, unwrap_or}
use Rattle.std.specs.List.{AllByRecursion}
use Rattle.std.specs.Ordering.{nat_cmp}
use Rattle.std.specs.declared.cmp.Ordering.{Ordering}
use Rattle.std.specs.Map.{lookup}
use Rattle.std.specs.BTreeMap.{is_at}
use Rattle.ddm_codepoints.specs.declared.typdef.TypDef.{TypDef}
use Rattle.ddm_codepoints.specs.declared.typdef.TypDef.TheVariants.{Sql370}
use Rattle.access_handshake.specs.declared.stage.Stage.{Stage}
use Rattle.access_handshake.specs.declared.stage.Stage.TheVariants.{Checked, Accessed}
use Rattle.member_statements.specs.declared.register.Register.{Register}
use Rattle.member_statements.specs.declared.register.Register.TheVariants.{Schema, Degree, Path, Numbered}
use Rattle.member_statements.specs.Register.{IsRegister}
use Rattle.group_store.specs.Rows.{Writes}

-- ---- registers: the order in which they are told, CURRENT SCHEMA, CURRENT DEGREE, CURRENT PATH, and R1 to R99

abbrev pub register_rank : Register → ℕ
register_rank Schema = 0
register_rank Degree = 1
register_rank Path = 2
register_rank (Numbered number) = number + 3

abbrev pub register_order : Register → Register → Ordering
register_order a b = nat_cmp (register_rank a) (register_rank b)

-- registers that are set, in this order, with their values
abbrev pub Registers : Type 0
Registers = List (Register × List ℕ)

-- each of them has a name
abbrev pub AreRegisters : Registers → Type 0
AreRegisters registers = AllByRecursion (λ entry. IsRegister entry.0) registers

-- ---- cursors

-- the rows that aren't fetched yet, each its key and its text, and whether a commit holds the cursor
pub record CursorState : Type 0 where
  pub held : Bool
  pub rows : List (ℕ × List ℕ)

-- open cursors by the numbers of their sections, in order
abbrev pub Cursors : Type 0
Cursors = List (ℕ × CursorState)

-- ---- a unit

pub record UnitState : Type 0 where
  pub stage : Stage
  -- the user's name, in ASCII, from Checked on
  pub user : List ℕ
  -- how the requester represents data, at Accessed
  pub typdef : TypDef
  -- the registers that were set since ACCRDB
  pub registers : Registers
  -- what the open unit of work has written
  pub writes : Writes
  -- the sections that have a prepared SELECT, in order, and whether it was prepared WITH HOLD
  pub prepared : List (ℕ × Bool)
  pub cursors : Cursors

-- nothing is kept besides the stage
abbrev pub nothing_at : Stage → UnitState
nothing_at stage =
    record { stage = stage; user = []; typdef = Sql370; registers = []; writes = []; prepared = []; cursors = [] }

-- this user may go on
abbrev pub checked_as : List ℕ → UnitState
checked_as user = record (nothing_at Checked) { user = user }

-- this user accessed the database, with data in this type definition, and did nothing yet
abbrev pub accessed_as : List ℕ → TypDef → UnitState
accessed_as user typdef = record (nothing_at Accessed) { user = user; typdef = typdef }

-- CURRENT SCHEMA, which is the user's name until it is set
abbrev pub schema_of : UnitState → List ℕ
schema_of unit = unwrap_or (lookup (is_at (register_order Schema)) unit.registers) unit.user

-- ---- the end of a unit of work: DRDA, volume 1, units of work

-- a commit: what is prepared and the cursors that aren't held are dropped
abbrev pub after_commit : UnitState → UnitState
after_commit unit = record unit { writes = []; prepared = []; cursors = filter (λ cursor. cursor.1.held) unit.cursors }

-- a roll back: held cursors are dropped too
abbrev pub after_roll_back : UnitState → UnitState
after_roll_back unit = record unit { writes = []; prepared = []; cursors = [] }
