use Rattle.server_list.proofs.Picking.{no_pick, picked_member, picked_untried}
use Rattle.server_list.proofs.choice.choose.Goals as goal

pub returns-clause-none : goal.returns-clause-none
returns-clause-none c =
    rw (c.pick-picked.ensures, c.rows.ensures.rows) (no_pick c.args.list.now.rows c.args.lent.now c.args.tried.now)

pub returns-clause-member : goal.returns-clause-member
returns-clause-member c =
    rw (c.pick-picked.ensures, c.rows.ensures.rows) (picked_member c.args.list.now.rows c.args.lent.now c.args.tried.now c.is_sound.ensures)

pub returns-clause-untried : goal.returns-clause-untried
returns-clause-untried c =
    rw (c.pick-picked.ensures, c.rows.ensures.rows) (picked_untried c.args.list.now.rows c.args.lent.now c.args.tried.now c.is_sound.ensures)
