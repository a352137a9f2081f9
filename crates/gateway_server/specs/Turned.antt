-- One turn: exactly one call of the application's link, of the held link, of the dial or of the lender, as the need says; and what
-- the lender is told besides. This project's own.
use Rattle.std.specs.Prelude.{◌≡◌, ◌<◌, ℕ, Bool, true, false, List, length, Option, Some, None, Result}
use Rattle.link_ends.specs.declared.source.Failed.{Failed}
use Rattle.link_ends.specs.Link.{LinkState, IsHeard, IsSaid}
use Rattle.link_ends.specs.Doors.{DialState, after_dial}
use Rattle.server_list.specs.Lists.{Listing}
use Rattle.server_list.specs.Layout.{read_list}
use Rattle.transport_pool.specs.Grants.{Granted, Resting}
use Rattle.transport_pool.specs.House.{terms_of}
use Rattle.transport_pool.specs.declared.terms.Terms.{Terms}
use Rattle.transport_pool.specs.declared.lend.Lend.{Lend}
use Rattle.gateway_session.specs.declared.need.Need.{Need}
use Rattle.gateway_session.specs.declared.need.Need.TheVariants as need
use Rattle.gateway_session.specs.declared.loss.Lent.TheVariants as lent
use Rattle.gateway_session.specs.Memory.{State, need_in, id_in, tries_in, held_in, list_in, mark_in, to_send_in, to_say_in}
use Rattle.gateway_server.specs.declared.lease.Lease.{Lease}
use Rattle.gateway_server.specs.declared.lease.Lease.TheVariants as lease
use Rattle.gateway_server.specs.declared.event.Event.{Event}
use Rattle.gateway_server.specs.declared.event.Event.TheVariants as event
use Rattle.gateway_server.specs.Leases.{lease_of, lent_of, lease_dialled}
use Rattle.gateway_server.specs.Events.{event_heard, event_said, event_sent, event_back, event_dialled, input_of}
use Rattle.gateway_server.specs.Feeding.{after_feeding, after_turn}

-- ---- what the lender is told besides

module _ {K D : Type 0} (loses : D → Granted → D → Type 0) where
  -- where the session holds nothing now, what its run holds was lost
  abbrev pub Lost : Option ℕ → Lease K → D → Lease K → D → Type 0
  Lost (Some number) l d l' d' = (l' ≡ l) × (d' ≡ d)
  Lost None lease.Nothing d l' d' = (l' ≡ lease.Nothing) × (d' ≡ d)
  Lost None (lease.Granted grant) d l' d' = (l' ≡ lease.Nothing) × loses d grant d'
  Lost None (lease.Dialled grant link) d l' d' = (l' ≡ lease.Nothing) × loses d grant d'

module _ {D : Type 0} (knows : D → ℕ → Type 0) (learns : D → Listing → D → Type 0) where
  abbrev pub Learns : Option Listing → D → D → Type 0
  Learns None d d' = d' ≡ d
  Learns (Some list) d d' = learns d list d'

  -- a list of members that was told, if it spells known ones
  abbrev pub Learned : Option (List ℕ) → D → D → Type 0
  Learned None d d' = d' ≡ d
  Learned (Some bytes) d d' = (known : ℕ) × knows d known × Learns (read_list bytes known) d d'

-- a session that was to wait and found no memory waits no more
abbrev pub Left : {D : Type 0} → (D → ℕ → D → Type 0) → Event → Bool → ℕ → D → D → Type 0
Left leaves (event.Lend lent.Queue) false id d d' = leaves d id d'
Left leaves _ memory id d d' = d' ≡ d

abbrev pub is_done : Need → Bool
is_done (need.Done end) = true
is_done _ = false

-- ---- the call

module _
    {A K N D : Type 0}
    (astate : A → LinkState)
    (areads : A → List ℕ → Result ℕ Failed → List ℕ → A → Type 0)
    (awrites : A → List ℕ → Result ℕ Failed → A → Type 0)
    (kstate : K → LinkState)
    (kreads : K → List ℕ → Result ℕ Failed → List ℕ → K → Type 0)
    (kwrites : K → List ℕ → Result ℕ Failed → K → Type 0)
    (nstate : N → DialState)
    (dials : N → ℕ → Result K Failed → N → Type 0)
    (lends : D → Terms → Lend K → D → Type 0)
    (gives : D → Resting K → D → Type 0)
    (a a' : A) (n n' : N) (d d' : D) (l' : Lease K) (bytes : List ℕ) (e : Event)
  where
    abbrev pub Dials : Lease K → Type 0
    Dials (lease.Granted grant) =
        (r : Result K Failed) × dials n grant.member r n' × (nstate n' ≡ after_dial r (nstate n)) × (e ≡ event_dialled r)
        × (l' ≡ lease_dialled grant r) × (a' ≡ a) × (d' ≡ d)
    Dials _ = ⊥

    abbrev pub Sends : List ℕ → Lease K → Type 0
    Sends piece (lease.Dialled grant link) =
        (r : Result ℕ Failed) × (link' : K) × kwrites link piece r link' × IsSaid r (kstate link) (kstate link') piece × (e ≡ event_sent r)
        × (l' ≡ lease.Dialled grant link') × (a' ≡ a) × (n' ≡ n) × (d' ≡ d)
    Sends piece _ = ⊥

    abbrev pub Reads : Lease K → Type 0
    Reads (lease.Dialled grant link) =
        (before : List ℕ) × (r : Result ℕ Failed) × (link' : K) × kreads link before r bytes link'
        × IsHeard r (kstate link) (kstate link') before bytes × (e ≡ event_back r) × (0 < length before)
        × (l' ≡ lease.Dialled grant link') × (a' ≡ a) × (n' ≡ n) × (d' ≡ d)
    Reads _ = ⊥

    abbrev pub Gives : State → Lease K → Type 0
    Gives s (lease.Dialled grant link) =
        gives d (record { grant = grant; link = link; mark = mark_in s }) d' × (e ≡ event.Give) × (l' ≡ lease.Nothing) × (a' ≡ a) × (n' ≡ n)
    Gives s _ = ⊥

    -- With the read of the bytes, where there is one, into a buffer with room.
    abbrev pub Hears : Lease K → Type 0
    Hears l =
        (before : List ℕ) × (r : Result ℕ Failed) × areads a before r bytes a' × IsHeard r (astate a) (astate a') before bytes × (e ≡ event_heard r)
        × (0 < length before) × (l' ≡ l) × (n' ≡ n) × (d' ≡ d)

    abbrev pub Says : List ℕ → Lease K → Type 0
    Says piece l =
        (r : Result ℕ Failed) × awrites a piece r a' × IsSaid r (astate a) (astate a') piece × (e ≡ event_said r) × (l' ≡ l) × (n' ≡ n) × (d' ≡ d)

    abbrev pub Lends : State → Type 0
    Lends s =
        (x : Lend K) × lends d (terms_of (id_in s) (tries_in s).tried (tries_in s).fresh) x d' × (e ≡ event.Lend (lent_of x)) × (l' ≡ lease_of x)
        × (a' ≡ a) × (n' ≡ n)

    -- the call that is needed, and no other
    abbrev pub Calls : State → Need → Lease K → Type 0
    Calls s need.App l = Hears l
    Calls s need.Lend l = Lends s
    Calls s need.Dial l = Dials l
    Calls s need.Send l = Sends (to_send_in s) l
    Calls s need.Back l = Reads l
    Calls s need.Give l = Gives s l
    Calls s need.Say l = Says (to_say_in s) l
    Calls s (need.Done end) l = ⊥

-- ---- the turn

module _
    {A K N D : Type 0}
    (astate : A → LinkState)
    (areads : A → List ℕ → Result ℕ Failed → List ℕ → A → Type 0)
    (awrites : A → List ℕ → Result ℕ Failed → A → Type 0)
    (kstate : K → LinkState)
    (kreads : K → List ℕ → Result ℕ Failed → List ℕ → K → Type 0)
    (kwrites : K → List ℕ → Result ℕ Failed → K → Type 0)
    (nstate : N → DialState)
    (dials : N → ℕ → Result K Failed → N → Type 0)
    (lends : D → Terms → Lend K → D → Type 0)
    (gives : D → Resting K → D → Type 0)
    (loses : D → Granted → D → Type 0)
    (knows : D → ℕ → Type 0)
    (learns : D → Listing → D → Type 0)
    (leaves : D → ℕ → D → Type 0)
  where
    -- The call that is needed, with what it leaves of the lender and what the run holds then; the session is fed with what it came to,
    -- and finds its memory or not; then a loss, a list and a leaving are told the lender.
    pub record Turned (a a' : A) (n n' : N) (d d' : D) (l l' : Lease K) (bytes : List ℕ) (e : Event) (memory : Bool) (s s' : State) : Type 0 where
      pub called : D
      pub holding : Lease K
      pub settled : D
      pub taught : D
      pub call : Calls astate areads awrites kstate kreads kwrites nstate dials lends gives a a' n n' d called holding bytes e s (need_in s) l
      pub fed : s' ≡ after_turn memory (input_of bytes e) s
      pub loss : Lost loses (held_in (after_feeding memory (input_of bytes e) s)) holding called l' settled
      pub list : Learned knows learns (list_in (after_feeding memory (input_of bytes e) s)) settled taught
      pub leaving : Left leaves e memory (id_in s') taught d'
