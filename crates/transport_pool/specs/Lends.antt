-- What a lend hands out, tied to what was decided: this project's own.
use Rattle.std.specs.Prelude.{◌≡◌, ℕ, true, List, IsSomeAnd}
use Rattle.server_list.specs.declared.list.ServerRow.{ServerRow}
use Rattle.transport_pool.specs.Counts.{rose}
use Rattle.transport_pool.specs.Steps.{members_of}
use Rattle.transport_pool.specs.Grants.{Resting, is_within}
use Rattle.transport_pool.specs.House.{HouseState, numbered_so, answer_to, lend_of}
use Rattle.transport_pool.specs.declared.entry.PoolAnswer.{PoolAnswer}
use Rattle.transport_pool.specs.declared.entry.PoolAnswer.TheVariants as answer
use Rattle.transport_pool.specs.declared.terms.Terms.{Terms}
use Rattle.transport_pool.specs.declared.lend.Lend.{Lend}
use Rattle.transport_pool.specs.declared.lend.Lend.TheVariants as lend

module _ {L : Type 0} where
  -- the same transport, lent on these terms
  abbrev pub lent_on : Terms → Resting L → Resting L
  lent_on terms transport = record transport { grant = record transport.grant { terms = terms } }

  -- A lend on these terms hands out what was decided: the resting transport of that number, the right to dial the next one,
  -- or the listed members. All of these have the lend's terms.
  abbrev pub IsLent : Terms → List ServerRow → List (Resting L) → PoolAnswer → Lend L → Type 0
  IsLent terms rows resting (answer.Idle number member) result =
      IsSomeAnd (numbered_so number resting) (λ transport. (transport.grant.member ≡ member) × (result ≡ lend.Idle (lent_on terms transport)))
  IsLent terms rows resting (answer.Dial number member) result =
      result ≡ lend.Dial (record { number = number; member = member; terms = terms })
  IsLent terms rows resting answer.Queue result = result ≡ lend.Queue
  IsLent terms rows resting answer.NoneLeft result =
      result ≡ lend.NoneLeft (record { members = members_of rows; terms = terms })
  IsLent terms rows resting answer.Worn result = result ≡ lend.Worn (record { terms = terms })
  IsLent terms rows resting _ result = ⊥

  -- what a house hands out by a lend on these terms
  abbrev pub LendsOut : HouseState L → Terms → Lend L → Type 0
  LendsOut house terms result =
      IsLent terms house.decided.pool.list.rows house.resting (answer_to house (lend_of terms)) result

  -- what is handed out has these terms
  abbrev pub HasTerms : Terms → Lend L → Type 0
  HasTerms terms (lend.Idle transport) = transport.grant.terms ≡ terms
  HasTerms terms (lend.Dial grant) = grant.terms ≡ terms
  HasTerms terms lend.Queue = Unit {0}
  HasTerms terms (lend.NoneLeft listed) = listed.terms ≡ terms
  HasTerms terms (lend.Worn spent) = spent.terms ≡ terms

  -- a count of dials after what is handed out
  abbrev pub dialled : Lend L → ℕ → ℕ
  dialled (lend.Dial grant) count = rose count
  dialled _ count = count

  -- members that are told to be listed were all tried
  abbrev pub AllTried : Terms → Lend L → Type 0
  AllTried terms (lend.NoneLeft listed) = is_within listed.members terms.tried ≡ true
  AllTried terms _ = Unit {0}
