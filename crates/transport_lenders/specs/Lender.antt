-- What a lender of transports answers, and what it makes of its pool where it tells that. This project's own.
use Rattle.std.specs.Prelude.{◌≡◌, ℕ, false, Option, Some, None}
use Rattle.server_list.specs.Tried.{has_member}
use Rattle.transport_pool.specs.State.{PoolState}
use Rattle.transport_pool.specs.Steps.{pool_step}
use Rattle.transport_pool.specs.declared.entry.PoolCall.{PoolCall}
use Rattle.transport_pool.specs.declared.entry.PoolAnswer.{PoolAnswer}
use Rattle.transport_pool.specs.declared.entry.PoolAnswer.TheVariants as answer
use Rattle.transport_pool.specs.declared.terms.Terms.{Terms}
use Rattle.transport_pool.specs.declared.lend.Lend.{Lend}
use Rattle.transport_pool.specs.declared.lend.Lend.TheVariants as lend

-- where the pool is told, this call is a step of it
abbrev pub Steps : Option PoolState → PoolCall → Option PoolState → Type 0
Steps (Some pool) call now = now ≡ Some (pool_step pool call).state
Steps None call now = now ≡ None

-- where the pool is told, this is what the step answers
abbrev pub Answers : Option PoolState → PoolCall → PoolAnswer → Type 0
Answers (Some pool) call answer = (pool_step pool call).answer ≡ answer
Answers None call answer = Unit {0}

-- where the pool is told, these are the members that can be listed
abbrev pub Knows : Option PoolState → ℕ → Type 0
Knows (Some pool) known = pool.known ≡ known
Knows None known = Unit {0}

module _ {L : Type 0} where
  -- what a lend handed out, as plain numbers
  abbrev pub answer_of : Lend L → PoolAnswer
  answer_of (lend.Idle transport) = answer.Idle transport.grant.number transport.grant.member
  answer_of (lend.Dial grant) = answer.Dial grant.number grant.member
  answer_of lend.Queue = answer.Queue
  answer_of (lend.NoneLeft listed) = answer.NoneLeft
  answer_of (lend.Worn spent) = answer.Worn

  -- An idle transport is lent only where no fresh one is wanted, and none of a member that was tried.
  abbrev pub Suits : Terms → Lend L → Type 0
  Suits terms (lend.Idle transport) = (terms.fresh ≡ false) × (has_member terms.tried transport.grant.member ≡ false)
  Suits terms (lend.Dial grant) = has_member terms.tried grant.member ≡ false
  Suits terms _ = Unit {0}
