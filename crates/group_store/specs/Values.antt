-- Which values are the small group's, and what a session's standing says of the unit of its conversation. DRDA, volume 3,
-- EXCSQLSET: the registers are kept over the ends of units; this is this project's own.
use Rattle.std.specs.Prelude.{◌≡◌, ℕ, suc, ◌≤◌, ◌⊎◌, IsTrue, List, [], ◌∷◌, ◌++◌, length, map}
use Rattle.std.specs.List.{AllByRecursion}
use Rattle.byteorder.specs.Endian.{big_bytes}
use Rattle.ddm_codepoints.specs.declared.typdef.TypDef.{TypDef}
use Rattle.reply_texts.specs.Text.{codes_in}
use Rattle.access_handshake.specs.declared.stage.Stage.{Stage}
use Rattle.access_handshake.specs.declared.stage.Stage.TheVariants.{Accessed}
use Rattle.unit_segments.specs.Command.{data_of}
use Rattle.unit_segments.specs.Registers.{Register as Logged, key_of}
use Rattle.member_statements.specs.declared.register.Register.{Register}
use Rattle.member_statements.specs.Register.{IsRegister, set_text}
use Rattle.member_statements.specs.Statement.{is_inner_text}
use Rattle.plain_model.specs.Standing.{Standing, register_typdef}
use Rattle.plain_model.specs.Group.{Values}
use Rattle.group_store.specs.Access.{user_in}
use Rattle.group_store.specs.Unit.{register_rank, Registers, UnitState}
use Rattle.group_store.specs.Store.{StoreState, base}

-- ---- registers that were set

-- a register that has a name, and a value that a SET statement can give
pub record IsSet (entry : Register × List ℕ) : Type 0 where
  pub named : IsRegister entry.0
  pub value : IsTrue (is_inner_text entry.1)

-- in the order in which they are told, each once, from this rank on
abbrev pub AreOrdered : ℕ → Registers → Type 0
AreOrdered least [] = Unit {0}
AreOrdered least (entry ∷ registers) = (least ≤ register_rank entry.0) × AreOrdered (suc (register_rank entry.0)) registers

pub record AreSet (registers : Registers) : Type 0 where
  pub each : AllByRecursion IsSet registers
  pub order : AreOrdered 0 registers

-- ---- the log of a session

-- the data of the SQLSTT that sets a register: DRDA, volume 3, SQLSTT
abbrev pub set_data : TypDef → Register × List ℕ → List ℕ
set_data typdef entry =
    0 ∷ big_bytes 4 (length (set_text entry.0 entry.1)) ++ codes_in typdef (set_text entry.0 entry.1) ++ 0xFF ∷ []

-- how a session keeps what it was told of a register
abbrev pub logged : TypDef → Register × List ℕ → Logged
logged typdef entry = record { key = key_of typdef (set_data typdef entry); statement = set_data typdef entry }

abbrev pub IsAmong : {X : Type 0} → X → List X → Type 0
IsAmong x [] = ⊥
IsAmong x (y ∷ ys) = (x ≡ y) ⊎ IsAmong x ys

-- the unit has this register, with whatever value
abbrev pub HasRegister : Register → Registers → Type 0
HasRegister register registers = (value : List ℕ) × IsAmong (register, value) registers

-- The database was accessed as the session gave it, and the session's log sets registers that the unit has.
pub record IsAccessed (st : Standing) (u : UnitState) : Type 0 where
  pub stage : u.stage ≡ Accessed
  pub user : u.user ≡ user_in (data_of st.access.secchk)
  pub typdef : u.typdef ≡ register_typdef st.access
  pub registers : AreSet u.registers
  pub told : Registers
  pub log : st.log ≡ map (logged (register_typdef st.access)) told
  pub each : AllByRecursion IsSet told
  pub within : (entry : Register × List ℕ) → IsAmong entry told → HasRegister entry.0 u.registers

-- before access it is the one to which the session's commands lead
abbrev pub StandsAt : Stage → Standing → UnitState → Type 0
StandsAt Accessed st u = IsAccessed st u
StandsAt _ st u = u ≡ base st

abbrev pub Stands : Standing → UnitState → Type 0
Stands st u = StandsAt st.stage st u

-- ---- the group's values

abbrev pub IsUnit : UnitState → Type 0
IsUnit u = AreSet u.registers

abbrev pub store_values : Values StoreState UnitState
store_values = record { shared = λ s. Unit {0}; unit = IsUnit; stands = Stands }
