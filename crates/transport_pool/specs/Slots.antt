-- Where the links of idle transports lie: slots under keys, each with nothing or with a link at rest. This project's own.
use Rattle.std.specs.Prelude.{◌≡◌, ◌≢◌, ℕ, ◌+◌, Bool, true, false, ◌==◌, if◌then◌else◌, List, [], ◌∷◌, Option, Some, None}
use Rattle.transport_pool.specs.Grants.{Resting}
use Rattle.transport_pool.specs.Sound.{times}
use Rattle.transport_pool.specs.declared.numbers.Numbered.{Numbered}

-- how many slots there are: as many as transports may be lent and idle
abbrev pub most_kept : ℕ
most_kept = 64

-- no slot, one with nothing, or one with a transport
abbrev pub Slot : Type 0 → Type 0
Slot L = Option (Option (Resting L))

-- the slots, in the order of their keys
abbrev pub Slots : Type 0 → Type 0
Slots L = List (Slot L)

module _ {L : Type 0} where
  -- a transport as plain numbers
  abbrev pub numbered : Resting L → Numbered
  numbered transport = record { number = transport.grant.number; member = transport.grant.member }

  -- the transport of this number lies there
  abbrev pub holds : ℕ → Slot L → Bool
  holds number (Some (Some transport)) = transport.grant.number == number
  holds number _ = false

  -- a slot with nothing
  abbrev pub is_free : Slot L → Bool
  is_free (Some None) = true
  is_free _ = false

  -- no slot, or one with nothing
  abbrev pub is_blank : Slot L → Bool
  is_blank (Some (Some transport)) = false
  is_blank _ = true

  -- the transports that lie there, as plain numbers
  abbrev pub held : Slots L → List Numbered
  held [] = []
  held (Some (Some transport) ∷ slots) = numbered transport ∷ held slots
  held (_ ∷ slots) = held slots

  -- how many slots have nothing
  abbrev pub free : Slots L → ℕ
  free [] = 0
  free (Some None ∷ slots) = 1 + free slots
  free (_ ∷ slots) = free slots

  -- the transport of this number
  abbrev pub under : ℕ → Slots L → Option (Resting L)
  under number [] = None
  under number (Some (Some transport) ∷ slots) =
      if transport.grant.number == number then Some transport else under number slots
  under number (_ ∷ slots) = under number slots

  -- the slot with this number is emptied
  pub record Leaves (number : ℕ) (old new : Slots L) : Type 0 where
    pub freed : free new ≡ free old + 1
    pub counted : (n : ℕ) → times n (held new) + (if number == n then 1 else 0) ≡ times n (held old)
    pub others : (n : ℕ) → n ≢ number → under n new ≡ under n old

  -- a slot with nothing takes this transport
  pub record Gains (transport : Resting L) (old new : Slots L) : Type 0 where
    pub filled : free new + 1 ≡ free old
    pub counted : (n : ℕ) → times n (held new) ≡ times n (held old) + (if transport.grant.number == n then 1 else 0)
    pub others : (n : ℕ) → n ≢ transport.grant.number → under n new ≡ under n old
    pub own : under transport.grant.number new ≡ Some transport
