use Rattle.std.proofs.Common.{sym, ◌∙◌}
use Rattle.transport_pool.specs.Inside.{state_of}
use Rattle.transport_pool.proofs.Keeps.{among_member, lent_apart}
use Rattle.transport_pool.proofs.pool.Pool.is_lent.Goals as goal

pub returns-clause-member : goal.returns-clause-member
returns-clause-member c = λ yes.
    among_member c.args.number c.args.member c.self.inside.lent.items c.self.invariant.sound.lent_members
    (rw c.deref.ensures.value at (sym c.is_among.ensures ∙ yes))

pub returns-clause-unused : goal.returns-clause-unused
returns-clause-unused c = λ yes.
    let h = lent_apart (state_of c.self.inside) c.args.number c.args.member (rw c.deref.ensures.value at (sym c.is_among.ensures
    ∙ yes)) c.self.invariant.sound in
    rw (← c.self.view_is) h.0

pub returns-clause-drawn : goal.returns-clause-drawn
returns-clause-drawn c = λ yes.
    let h = lent_apart (state_of c.self.inside) c.args.number c.args.member (rw c.deref.ensures.value at (sym c.is_among.ensures
    ∙ yes)) c.self.invariant.sound in
    rw (← c.self.view_is) h.1
