-- How the shares of a lender behind a lock rise: one of a ledger of the pool's calls, and one of a ledger of its lends that were
-- answered Dial. This project's own.
use Rattle.std.specs.Prelude.{◌≡◌, ◌<◌, ℕ, ◌+◌, Bool, true, false, min}
use Rattle.transport_pool.specs.declared.lend.Lend.{Lend}
use Rattle.transport_pool.specs.declared.lend.Lend.TheVariants.{Dial, Queue}
use Rattle.link_ends.specs.Counts.{greatest}

-- a count of 64 bits that stands for so many
abbrev pub up_to_greatest : ℕ → ℕ
up_to_greatest count = min count greatest

-- the amounts of the two shares
pub record Amounts : Type 0 where
  pub calls : ℕ
  pub dials : ℕ

abbrev pub amounts : ℕ → ℕ → Amounts
amounts calls dials = record { calls = calls; dials = dials }

-- after a call that isn't a lend: one more call
pub record IsCalled (old new : Amounts) : Type 0 where
  pub calls : new.calls ≡ old.calls + 1
  pub dials : new.dials ≡ old.dials

module _ {L : Type 0} where
  -- one where the answer is Dial
  abbrev pub dials_of : Lend L → ℕ
  dials_of (Dial grant) = 1
  dials_of _ = 0

  abbrev pub is_queue : Lend L → Bool
  is_queue Queue = true
  is_queue _ = false

  -- After a lend that was answered so: a call for each time that the pool was asked, and one dial where the answer is Dial. It is
  -- never Queue.
  pub record HasLent (old : Amounts) (answer : Lend L) (new : Amounts) : Type 0 where
    pub calls : old.calls < new.calls
    pub dials : new.dials ≡ old.dials + dials_of answer
    pub lent : is_queue answer ≡ false
