-- Calls that lend nothing leave the count of dials.
use Rattle.std.proofs.Common.{◌≡◌, ℕ, ◌==◌, Bool, true, false, cond, List, [], ◌∷◌, ◌++◌, length, nat_lt, refl, ap, ◌∙◌}
use Rattle.server_list.specs.Lists.{Listing}
use Rattle.transport_pool.specs.State.{PoolState, without, is_among}
use Rattle.transport_pool.specs.Steps.{Stepped, oldest_of, most_idle, rested, pool_step}
use Rattle.transport_pool.specs.Journal.{dials_after}
use Rattle.transport_pool.specs.House.{HouseState}
use Rattle.transport_pool.specs.declared.numbers.Numbered.{Numbered}
use Rattle.transport_pool.specs.declared.entry.PoolCall.TheVariants.{GiveBack, Lost, Learn, Leave}
use Rattle.transport_pool.specs.declared.entry.PoolAnswer.TheVariants.{Handed, Nothing}

rested_dials : (pool : PoolState) (t : Numbered) (count : ℕ) → dials_after (rested pool t).answer count ≡ count
rested_dials pool t count =
    let rests : Stepped = record { state = record pool { idle = pool.idle ++ t ∷ [] }; answer = Nothing } in
    let hands : Stepped = record {
      state = record pool { idle = without (oldest_of pool.idle t).number pool.idle ++ t ∷ [] };
      answer = Handed (oldest_of pool.idle t).number;
    } in
    elim (nat_lt (length pool.idle) most_idle) as (λ b. let r : Stepped = cond b rests hands in dials_after r.answer count ≡ count) [
      | true ↦ refl
      | false ↦ refl
    ]

pub given_dials : (pool : PoolState) (number member count : ℕ) → dials_after (pool_step pool (GiveBack number member)).answer count ≡ count
unfolding pool_step
given_dials pool number member count =
    let t : Numbered = record { number = number; member = member } in
    let less : PoolState = record pool { lent = without number pool.lent } in
    let back : Stepped = record { state = pool; answer = Handed number } in
    elim (is_among number member pool.lent) as (λ b. let r : Stepped = cond b (rested less t) back in dials_after r.answer count ≡ count) [
      | true ↦ rested_dials less t count
      | false ↦ refl
    ]

pub lost_dials : (pool : PoolState) (number count : ℕ) → dials_after (pool_step pool (Lost number)).answer count ≡ count
unfolding pool_step
lost_dials pool number count = refl

pub learned_dials : (pool : PoolState) (list : Listing) (count : ℕ) → dials_after (pool_step pool (Learn list)).answer count ≡ count
unfolding pool_step
learned_dials pool list count = refl

pub left_dials : (pool : PoolState) (session count : ℕ) → dials_after (pool_step pool (Leave session)).answer count ≡ count
unfolding pool_step
left_dials pool session count = refl

pub same_dials : {L : Type 0} (new now : HouseState L) (count : ℕ) → new ≡ now → now.decided.dials ≡ count → new.decided.dials ≡ count
same_dials {L} new now count e same = ap (λ (house : HouseState L). house.decided.dials) e ∙ same
