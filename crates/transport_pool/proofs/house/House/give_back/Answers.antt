use Rattle.std.proofs.Common.{◌∙◌, ap}
use Rattle.transport_pool.specs.House.{rests_given, handed_out}
use Rattle.transport_pool.specs.HouseInside.{in_order}
use Rattle.transport_pool.specs.declared.entry.PoolAnswer.{PoolAnswer}
use Rattle.transport_pool.specs.declared.entry.PoolCall.TheVariants as call
use Rattle.transport_pool.proofs.Housed.{idle_after, gives_told, kept_along, order_same, shows, still_along, still_given}
use Rattle.transport_pool.proofs.Housed.{can_rest, give_kept, give_order, give_out}
use Rattle.transport_pool.proofs.house.House.give_back.Goals as goal

pub lay_to_rest-requires : goal.lay_to_rest-requires
lay_to_rest-requires g c =
    let house = c.self.inside in
    let t = c.args.transport in
    let answer = rw (c.number.ensures, c.member.ensures.member) at c.decide-answer.ensures.answer in
    let sound = rw c.pool.ensures at c.is_sound.ensures.pool in
    let told = gives_told house.decisions t.grant.number t.grant.member c.decide-answer.result answer sound in
    can_rest house.slots.slots house.decisions.pool _ t c.decide-answer.result told sound c.self.invariant.kept

pub invariant_of-self : goal.invariant_of-self
invariant_of-self g c =
    let house = c.self.inside in
    let t = c.args.transport in
    let answer = rw (c.number.ensures, c.member.ensures.member) at c.decide-answer.ensures.answer in
    let decided = rw (c.number.ensures, c.member.ensures.member) at c.decide-answer.ensures.decided in
    let sound = rw c.pool.ensures at c.is_sound.ensures.pool in
    let told = gives_told house.decisions t.grant.number t.grant.member c.decide-answer.result answer sound in
    let after = idle_after house.decisions _ (call.GiveBack t.grant.number t.grant.member) decided in
    let order = order_same c.lay_to_rest.new.slots.slots _ _ after ∙ give_order house.slots.slots _ house.decisions.pool _ t c.decide-answer.result told
    c.lay_to_rest.ensures.slots in
    record {
      kept = kept_along c.lay_to_rest.new.slots.slots _ _ after (give_kept house.slots.slots _ house.decisions.pool _ t c.decide-answer.result told
          c.lay_to_rest.ensures.slots c.self.invariant.kept);
      still = still_along _ _ order (still_given c.decide-answer.result t (in_order house.slots.slots house.decisions.pool.idle) c.is_at_rest.ensures
          c.self.invariant.still);
    }

pub returns-clause-house : goal.returns-clause-house
returns-clause-house g c =
    let house = c.self.inside in
    let t = c.args.transport in
    let answer = rw (c.number.ensures, c.member.ensures.member) at c.decide-answer.ensures.answer in
    let decided = rw (c.number.ensures, c.member.ensures.member) at c.decide-answer.ensures.decided in
    let sound = rw c.pool.ensures at c.is_sound.ensures.pool in
    let told = gives_told house.decisions t.grant.number t.grant.member c.decide-answer.result answer sound in
    let after = idle_after house.decisions _ (call.GiveBack t.grant.number t.grant.member) decided in
    let order = order_same c.lay_to_rest.new.slots.slots _ _ after ∙ give_order house.slots.slots _ house.decisions.pool _ t c.decide-answer.result told
    c.lay_to_rest.ensures.slots in
    let resting = in_order house.slots.slots house.decisions.pool.idle in
    let answered = ap (λ (a : PoolAnswer). rests_given a t resting) answer in
    rw (← c.self.view_is) (shows _ _ _ _ _ _ decided (order ∙ answered))

pub returns-clause-handed : goal.returns-clause-handed
returns-clause-handed g c =
    let house = c.self.inside in
    let t = c.args.transport in
    let answer = rw (c.number.ensures, c.member.ensures.member) at c.decide-answer.ensures.answer in
    let sound = rw c.pool.ensures at c.is_sound.ensures.pool in
    let told = gives_told house.decisions t.grant.number t.grant.member c.decide-answer.result answer sound in
    let resting = in_order house.slots.slots house.decisions.pool.idle in
    let answered = ap (λ (a : PoolAnswer). handed_out a t resting) answer in
    rw (← c.self.view_is) (c.lay_to_rest.ensures.handed ∙ give_out house.slots.slots house.decisions.pool _ t c.decide-answer.result told c.self.invariant.kept
    ∙ answered)
