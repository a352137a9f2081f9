use Rattle.std.proofs.Common.{◌≡◌, ◌∙◌, ap, subst, sym}
use Rattle.transport_pool.specs.Journal.{Decided, dials_after}
use Rattle.transport_pool.specs.House.{terms_of, rests_lent}
use Rattle.transport_pool.specs.HouseInside.{in_order}
use Rattle.transport_pool.specs.Lends.{IsLent}
use Rattle.transport_pool.specs.declared.entry.PoolAnswer.{PoolAnswer}
use Rattle.transport_pool.specs.declared.entry.PoolCall.TheVariants as call
use Rattle.transport_pool.proofs.Housed.{idle_after, lends_told, kept_along, order_same, shows, still_along, still_lent}
use Rattle.transport_pool.proofs.Housed.{can_lend, lend_kept, lend_order, lend_out, lend_tried, lent_terms}
use Rattle.transport_pool.proofs.house.House.lend.Goals as goal

pub hand_out-requires : goal.hand_out-requires
hand_out-requires g c =
    let house = c.self.inside in
    let sound = rw c.pool.ensures at c.is_sound.ensures.pool in
    let rows = rw c.pool.ensures at c.is_sound.ensures.rows in
    let told = lends_told house.decisions c.args.session c.args.tried c.args.fresh c.decide-answer.result c.decide-answer.ensures.answer rows in
    can_lend house.slots.slots house.decisions.pool _ c.args.tried c.decide-answer.result told sound c.self.invariant.kept

pub invariant_of-self : goal.invariant_of-self
invariant_of-self g c =
    let house = c.self.inside in
    let sound = rw c.pool.ensures at c.is_sound.ensures.pool in
    let rows = rw c.pool.ensures at c.is_sound.ensures.rows in
    let told = lends_told house.decisions c.args.session c.args.tried c.args.fresh c.decide-answer.result c.decide-answer.ensures.answer rows in
    let after = idle_after house.decisions _ (call.Lend c.args.session c.args.tried c.args.fresh) c.decide-answer.ensures.decided in
    let order = order_same c.hand_out.new.slots.slots _ _ after ∙ lend_order house.slots.slots _ house.decisions.pool _ c.args.tried
    c.decide-answer.result told c.hand_out.ensures.slots in
    record {
      kept = kept_along c.hand_out.new.slots.slots _ _ after (lend_kept house.slots.slots _ house.decisions.pool _ c.args.tried c.decide-answer.result
          told c.hand_out.ensures.slots sound c.self.invariant.kept);
      still = still_along _ _ order (still_lent c.decide-answer.result (in_order house.slots.slots house.decisions.pool.idle) c.self.invariant.still);
    }

pub returns-clause-house : goal.returns-clause-house
returns-clause-house g c =
    let house = c.self.inside in
    let rows = rw c.pool.ensures at c.is_sound.ensures.rows in
    let told = lends_told house.decisions c.args.session c.args.tried c.args.fresh c.decide-answer.result c.decide-answer.ensures.answer rows in
    let after = idle_after house.decisions _ (call.Lend c.args.session c.args.tried c.args.fresh) c.decide-answer.ensures.decided in
    let order = order_same c.hand_out.new.slots.slots _ _ after ∙ lend_order house.slots.slots _ house.decisions.pool _ c.args.tried
    c.decide-answer.result told c.hand_out.ensures.slots in
    let resting = in_order house.slots.slots house.decisions.pool.idle in
    let answered = ap (λ (a : PoolAnswer). rests_lent a resting) c.decide-answer.ensures.answer in
    rw (← c.self.view_is) (shows _ _ _ _ _ _ c.decide-answer.ensures.decided (order ∙ answered))

pub returns-clause-lent : goal.returns-clause-lent
returns-clause-lent g c =
    let house = c.self.inside in
    let rows = rw c.pool.ensures at c.is_sound.ensures.rows in
    let told = lends_told house.decisions c.args.session c.args.tried c.args.fresh c.decide-answer.result c.decide-answer.ensures.answer rows in
    let terms = terms_of c.args.session c.args.tried c.args.fresh in
    let out = rw (c.list-list.ensures, c.pool-2.ensures) at c.hand_out.ensures.out in
    let lent = lend_out house.slots.slots house.decisions.pool _ c.args.tried c.decide-answer.result terms c.hand_out.result told c.self.invariant.kept out in
    let P : PoolAnswer → Type 0 =
    λ a. IsLent terms house.decisions.pool.list.rows (in_order house.slots.slots house.decisions.pool.idle) a c.hand_out.result in
    rw (← c.self.view_is) (subst P c.decide-answer.ensures.answer lent)

pub returns-clause-tried : goal.returns-clause-tried
returns-clause-tried g c =
    let house = c.self.inside in
    let rows = rw c.pool.ensures at c.is_sound.ensures.rows in
    let told = lends_told house.decisions c.args.session c.args.tried c.args.fresh c.decide-answer.result c.decide-answer.ensures.answer rows in
    let terms = terms_of c.args.session c.args.tried c.args.fresh in
    let out = rw (c.list-list.ensures, c.pool-2.ensures) at c.hand_out.ensures.out in
    lend_tried house.slots.slots house.decisions.pool _ c.decide-answer.result terms c.hand_out.result told rows out

pub returns-clause-terms : goal.returns-clause-terms
returns-clause-terms g c =
    let house = c.self.inside in
    let rows = rw c.pool.ensures at c.is_sound.ensures.rows in
    let told = lends_told house.decisions c.args.session c.args.tried c.args.fresh c.decide-answer.result c.decide-answer.ensures.answer rows in
    let terms = terms_of c.args.session c.args.tried c.args.fresh in
    let out = rw (c.list-list.ensures, c.pool-2.ensures) at c.hand_out.ensures.out in
    let lent = lend_out house.slots.slots house.decisions.pool _ c.args.tried c.decide-answer.result terms c.hand_out.result told c.self.invariant.kept out in
    let told_by = lent_terms terms house.decisions.pool.list.rows _ c.decide-answer.result c.hand_out.result lent in
    told_by.0

pub returns-clause-dials : goal.returns-clause-dials
returns-clause-dials g c =
    let house = c.self.inside in
    let rows = rw c.pool.ensures at c.is_sound.ensures.rows in
    let told = lends_told house.decisions c.args.session c.args.tried c.args.fresh c.decide-answer.result c.decide-answer.ensures.answer rows in
    let terms = terms_of c.args.session c.args.tried c.args.fresh in
    let out = rw (c.list-list.ensures, c.pool-2.ensures) at c.hand_out.ensures.out in
    let lent = lend_out house.slots.slots house.decisions.pool _ c.args.tried c.decide-answer.result terms c.hand_out.result told c.self.invariant.kept out in
    let told_by = lent_terms terms house.decisions.pool.list.rows _ c.decide-answer.result c.hand_out.result lent in
    let counted : c.decide-answer.new.self.dials ≡ dials_after c.decide-answer.result house.decisions.dials =
    ap (λ (d : Decided). d.dials) c.decide-answer.ensures.decided ∙ ap (λ (a : PoolAnswer). dials_after a house.decisions.dials) (sym
    c.decide-answer.ensures.answer) in
    rw (← c.self.view_is) (counted ∙ sym (told_by.1 house.decisions.dials))
