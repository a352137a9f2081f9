-- What a call does to the slots and hands out, by what was decided: this project's own.
use Rattle.std.specs.Prelude.{◌≡◌, ◌≢◌, ℕ, ◌≤◌, ◌==◌, true, if◌then◌else◌, List, [], Option, Some, None, IsSomeAnd}
use Rattle.server_list.specs.Tried.{is_member}
use Rattle.server_list.specs.declared.list.ServerRow.{ServerRow}
use Rattle.transport_pool.specs.Sound.{times}
use Rattle.transport_pool.specs.Grants.{Resting}
use Rattle.transport_pool.specs.Slots.{Slots, held, free, under, Leaves, Gains}
use Rattle.transport_pool.specs.Lends.{lent_on, IsLent}
use Rattle.transport_pool.specs.declared.entry.PoolAnswer.{PoolAnswer}
use Rattle.transport_pool.specs.declared.entry.PoolAnswer.TheVariants as answer
use Rattle.transport_pool.specs.declared.terms.Terms.{Terms}
use Rattle.transport_pool.specs.declared.lend.Lend.{Lend}
use Rattle.transport_pool.specs.declared.lend.Lend.TheVariants as lend

module _ {L : Type 0} where
  -- ---- lending

  -- what a lend with this answer needs
  abbrev pub CanLend : PoolAnswer → Slots L → Type 0
  CanLend (answer.Idle number member) slots = times number (held slots) ≡ 1
  CanLend (answer.Dial number member) slots = is_member member ≡ true
  CanLend (answer.Handed number) slots = ⊥
  CanLend answer.Nothing slots = ⊥
  CanLend _ slots = Unit {0}

  -- what it does to the slots
  abbrev pub MovesLent : PoolAnswer → Slots L → Slots L → Type 0
  MovesLent (answer.Idle number member) old new = Leaves number old new
  MovesLent _ old new = new ≡ old

  -- what it hands out
  abbrev pub HandsOut : Terms → List ServerRow → Slots L → PoolAnswer → Lend L → Type 0
  HandsOut terms rows slots (answer.Idle number member) result =
      IsSomeAnd (under number slots) (λ transport. result ≡ lend.Idle (lent_on terms transport))
  HandsOut terms rows slots told result = IsLent terms rows [] told result

  -- ---- giving back

  -- what the giving back of this transport needs, with this answer
  abbrev pub CanRest : Resting L → PoolAnswer → Slots L → Type 0
  CanRest transport answer.Nothing slots = (1 ≤ free slots) × (times transport.grant.number (held slots) ≡ 0)
  CanRest transport (answer.Handed number) slots =
      number ≢ transport.grant.number
      → (times number (held slots) ≡ 1) × (times transport.grant.number (held slots) ≡ 0)
  CanRest transport _ slots = ⊥

  -- one is taken out, and this one put in
  pub record Exchanges (transport : Resting L) (number : ℕ) (old new : Slots L) : Type 0 where
    pub between : Slots L
    pub left : Leaves number old between
    pub gained : Gains transport between new

  -- what it does to the slots
  abbrev pub MovesGiven : Resting L → PoolAnswer → Slots L → Slots L → Type 0
  MovesGiven transport answer.Nothing old new = Gains transport old new
  MovesGiven transport (answer.Handed number) old new =
      (number ≡ transport.grant.number → new ≡ old) × (number ≢ transport.grant.number → Exchanges transport number old new)
  MovesGiven transport _ old new = ⊥

  -- what it hands out
  abbrev pub handed_back : Resting L → PoolAnswer → Slots L → Option (Resting L)
  handed_back transport (answer.Handed number) slots =
      if number == transport.grant.number then Some transport else under number slots
  handed_back transport _ slots = None
