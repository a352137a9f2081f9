-- A pool with its links: what was decided, as plain numbers, and the links of the idle transports beside them. This
-- project's own.
use Rattle.std.specs.Prelude.{ℕ, ◌+◌, Bool, ◌==◌, nat_lt, not, if◌then◌else◌, List, [], ◌∷◌, ◌++◌, filter, find, Option, Some, None}
use Rattle.server_list.specs.Lists.{Listing}
use Rattle.transport_pool.specs.Steps.{pool_step}
use Rattle.transport_pool.specs.Journal.{Decided, nothing_decided, decided_after}
use Rattle.transport_pool.specs.Grants.{Resting}
use Rattle.transport_pool.specs.declared.entry.PoolCall.{PoolCall}
use Rattle.transport_pool.specs.declared.entry.PoolCall.TheVariants as call
use Rattle.transport_pool.specs.declared.entry.PoolAnswer.{PoolAnswer}
use Rattle.transport_pool.specs.declared.entry.PoolAnswer.TheVariants as answer
use Rattle.transport_pool.specs.declared.terms.Terms.{Terms}

-- What was decided; the transports that are idle, in the order of giving back; how many session numbers there are, and how
-- many of these were given out.
pub record HouseState (L : Type 0) : Type 0 where
  pub decided : Decided
  pub resting : List (Resting L)
  pub sessions : ℕ
  pub tickets : ℕ

-- a house without transports
abbrev pub empty_house : {L : Type 0} → ℕ → Listing → ℕ → HouseState L
empty_house cap list sessions = record {
  decided = nothing_decided cap list;
  resting = [];
  sessions = sessions;
  tickets = 0;
}

-- what a house answers to a call
abbrev pub answer_to : {L : Type 0} → HouseState L → PoolCall → PoolAnswer
answer_to house call = (pool_step house.decided.pool call).answer

-- after a call that moves no link
abbrev pub called : {L : Type 0} → HouseState L → PoolCall → HouseState L
called house call = record house { decided = decided_after house.decided call }

-- the transport of this number
abbrev pub numbered_so : {L : Type 0} → ℕ → List (Resting L) → Option (Resting L)
numbered_so number resting = find (λ transport. transport.grant.number == number) resting

-- without the transport of this number
abbrev pub but_for : {L : Type 0} → ℕ → List (Resting L) → List (Resting L)
but_for number resting = filter (λ transport. not (transport.grant.number == number)) resting

-- ---- lending

-- with the answer Idle the transport of that number rests no more
abbrev pub rests_lent : {L : Type 0} → PoolAnswer → List (Resting L) → List (Resting L)
rests_lent (answer.Idle number member) resting = but_for number resting
rests_lent _ resting = resting

-- what a lend is asked with
abbrev pub terms_of : ℕ → ℕ → Bool → Terms
terms_of session tried fresh = record { session = session; tried = tried; fresh = fresh }

abbrev pub lend_of : Terms → PoolCall
lend_of terms = call.Lend terms.session terms.tried terms.fresh

-- after a lend on these terms
abbrev pub after_lend : {L : Type 0} → HouseState L → Terms → HouseState L
after_lend house terms =
    record (called house (lend_of terms)) { resting = rests_lent (answer_to house (lend_of terms)) house.resting }

-- ---- giving back

abbrev pub give_of : {L : Type 0} → Resting L → PoolCall
give_of transport = call.GiveBack transport.grant.number transport.grant.member

-- What rests after this transport was given back. Where it is handed back itself nothing changes; where another is handed
-- out that one rests no more.
abbrev pub rests_given : {L : Type 0} → PoolAnswer → Resting L → List (Resting L) → List (Resting L)
rests_given (answer.Handed number) transport resting =
    if number == transport.grant.number then resting else but_for number resting ++ transport ∷ []
rests_given _ transport resting = resting ++ transport ∷ []

-- the transport that is handed out: this one itself, or the resting one of the number that is told
abbrev pub handed_out : {L : Type 0} → PoolAnswer → Resting L → List (Resting L) → Option (Resting L)
handed_out (answer.Handed number) transport resting =
    if number == transport.grant.number then Some transport else numbered_so number resting
handed_out _ transport resting = None

-- after this transport was given back
abbrev pub after_give : {L : Type 0} → HouseState L → Resting L → HouseState L
after_give house transport =
    record (called house (give_of transport)) {
      resting = rests_given (answer_to house (give_of transport)) transport house.resting;
    }

-- ---- session numbers

-- the next session number, while there is one
abbrev pub next_ticket : {L : Type 0} → HouseState L → Option ℕ
next_ticket house = if nat_lt house.tickets house.sessions then Some (house.tickets + 1) else None

abbrev pub after_ticket : {L : Type 0} → HouseState L → HouseState L
after_ticket house = if nat_lt house.tickets house.sessions then record house { tickets = house.tickets + 1 } else house
