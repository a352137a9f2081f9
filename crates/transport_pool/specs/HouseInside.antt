-- How a house keeps the links of its idle transports: each in a slot, under its number. This project's own.
use Rattle.std.specs.Prelude.{◌≡◌, ℕ, ◌+◌, List, length, filter_map, IsSomeAnd}
use Rattle.std.specs.List.{AllByRecursion}
use Rattle.transport_pool.specs.Sound.{times}
use Rattle.transport_pool.specs.Grants.{Resting, IsAtRest}
use Rattle.transport_pool.specs.Slots.{Slots, numbered, held, free, under, most_kept}
use Rattle.transport_pool.specs.House.{HouseState}
use Rattle.transport_pool.specs.declared.numbers.Numbered.{Numbered}
use Rattle.transport_pool.specs.declared.house.House.TheInside.{Inside}

module _ {L : Type 0} where
  -- the transports that lie under these numbers, in their order
  abbrev pub in_order : Slots L → List Numbered → List (Resting L)
  in_order slots idle = filter_map (λ transport. under transport.number slots) idle

  -- a transport of this number and this member lies under the number
  abbrev pub Lies : Slots L → Numbered → Type 0
  Lies slots transport = IsSomeAnd (under transport.number slots) (λ there. numbered there ≡ transport)

  -- the slots have the idle transports, and no others
  pub record AreKept (slots : Slots L) (idle : List Numbered) : Type 0 where
    pub room : free slots + length idle ≡ most_kept
    pub counted : (number : ℕ) → times number (held slots) ≡ times number idle
    pub lying : AllByRecursion (Lies slots) idle

  abbrev pub house_of : Inside L → HouseState L
  house_of house = record {
    decided = house.decisions;
    resting = in_order house.slots.slots house.decisions.pool.idle;
    sessions = house.sessions;
    tickets = house.tickets;
  }

  abbrev pub AreAtRest : List (Resting L) → Type 0
  AreAtRest resting = AllByRecursion (λ transport. IsAtRest transport.mark) resting

  pub record IsHoused (house : Inside L) : Type 0 where
    pub kept : AreKept house.slots.slots house.decisions.pool.idle
    pub still : AreAtRest (in_order house.slots.slots house.decisions.pool.idle)
