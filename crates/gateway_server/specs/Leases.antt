-- What a run holds of a pool, and that it is the transport that its session holds. This project's own.
use Rattle.std.specs.Prelude.{ℕ, ◌≡◌, Bool, true, false, ◌&&◌, ◌||◌, not, nat_eq, Option, Some, None, Result, Ok, Err}
use Rattle.access_handshake.specs.declared.stage.Mark.{Mark}
use Rattle.requester_core.specs.Talk.{Talking}
use Rattle.gateway_session.specs.declared.held.Held.{Held}
use Rattle.gateway_session.specs.declared.loss.Lent.{Lent}
use Rattle.gateway_session.specs.declared.loss.Lent.TheVariants as lent
use Rattle.gateway_session.specs.Session.{mark_by_talk}
use Rattle.gateway_session.specs.Steps.{is_attached}
use Rattle.gateway_session.specs.Memory.{State, Runs, Closes}
use Rattle.transport_pool.specs.Counts.{rose}
use Rattle.transport_pool.specs.declared.lend.Lend.{Lend}
use Rattle.transport_pool.specs.declared.lend.Lend.TheVariants as lend
use Rattle.transport_pool.specs.Grants.{Granted}
use Rattle.gateway_server.specs.declared.lease.Lease.{Lease}
use Rattle.gateway_server.specs.declared.lease.Lease.TheVariants as lease

-- a transport by its number: none, one that isn't dialled yet, or one that is
pub data Grip : Type 0 where
  Free : Grip
  Allowed : (number : ℕ) → Grip
  Dialled : (number : ℕ) → Grip

-- ---- of a session

abbrev pub grip_by_talk : ℕ → Option Talking → Grip
grip_by_talk number None = Allowed number
grip_by_talk number (Some talking) = Dialled number

abbrev pub grip_of_held : Option Held → Grip
grip_of_held None = Free
grip_of_held (Some held) = grip_by_talk held.number held.talk

-- the transport that is held, of a session that may have found no memory
abbrev pub held_by : State → Option Held
held_by (Runs s) = s.held
held_by (Closes closing) = None

abbrev pub grip_in : State → Grip
grip_in state = grip_of_held (held_by state)

-- its conversation is Attached, and nothing that was read is left over
abbrev pub is_at_rest : Mark → Bool
is_at_rest mark = is_attached mark.stage && nat_eq mark.unread 0

-- a transport that is to be given back is at rest
abbrev pub rests : Option Held → Bool
rests None = true
rests (Some held) = not held.released || is_at_rest (mark_by_talk held.talk)

abbrev pub rests_in : State → Bool
rests_in state = rests (held_by state)

-- ---- of a run

module _ {L : Type 0} where
  abbrev pub grip_of : Lease L → Grip
  grip_of lease.Nothing = Free
  grip_of (lease.Granted grant) = Allowed grant.number
  grip_of (lease.Dialled grant link) = Dialled grant.number

  -- a count of lends that were answered Dial, after a lend that left this to hold
  abbrev pub granted_in : Lease L → ℕ → ℕ
  granted_in (lease.Granted grant) count = rose count
  granted_in _ count = count

  abbrev pub is_granted : Lease L → Bool
  is_granted (lease.Granted grant) = true
  is_granted _ = false

  abbrev pub is_dialled : Lease L → Bool
  is_dialled (lease.Dialled grant link) = true
  is_dialled _ = false

  -- the right to it
  abbrev pub grant_in : Lease L → Option Granted
  grant_in lease.Nothing = None
  grant_in (lease.Granted grant) = Some grant
  grant_in (lease.Dialled grant link) = Some grant

  -- what is held after a lend
  abbrev pub lease_of : Lend L → Lease L
  lease_of (lend.Idle transport) = lease.Dialled transport.grant transport.link
  lease_of (lend.Dial grant) = lease.Granted grant
  lease_of _ = lease.Nothing

  -- what a session is told of a lend
  abbrev pub lent_of : Lend L → Lent
  lent_of (lend.Idle transport) = lent.Idle transport.grant.number transport.grant.member
  lent_of (lend.Dial grant) = lent.Dial grant.number grant.member
  lent_of lend.Queue = lent.Queue
  lent_of (lend.NoneLeft listed) = lent.NoneLeft
  lent_of (lend.Worn spent) = lent.Worn

  -- what is held after a dial
  abbrev pub lease_dialled : {F : Type 0} → Granted → Result L F → Lease L
  lease_dialled grant (Ok link) = lease.Dialled grant link
  lease_dialled grant (Err failed) = lease.Granted grant

-- ---- after an input

-- what a run holds after an input, before a loss
abbrev pub grip_lent : Lent → Grip
grip_lent (lent.Idle number member) = Dialled number
grip_lent (lent.Dial number member) = Allowed number
grip_lent _ = Free

abbrev pub dialled_grip : Grip → Grip
dialled_grip Free = Free
dialled_grip (Allowed number) = Dialled number
dialled_grip (Dialled number) = Dialled number

-- a session holds nothing, or the transport that its run does
abbrev pub Follows : Grip → Grip → Type 0
Follows Free run = Unit {0}
Follows (Allowed number) run = Allowed number ≡ run
Follows (Dialled number) run = Dialled number ≡ run
