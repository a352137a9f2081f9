use Rattle.std.proofs.Common.{◌∙◌, ap}
use Rattle.group_store.proofs.TakingBack.{taken_back_more}
use Rattle.group_store.specs.Commit.{taken_back}
use Rattle.group_store.proofs.commit.put_one.Goals as goal

pub returns-clause-kept : goal.returns-clause-kept
returns-clause-kept c =
    taken_back_more c.reserve.new.self.items c.push.new.self.items c.in_ok-copy_from_slice.field-0 c.args.place c.in_ok-before.before c.args.version
    c.args.rows.now.entries c.insert.new.self.entries
    (c.in_ok-copy_from_slice.ensures ∙ c.as_slice.ensures) c.in_ok-push.ensures.items c.in_ok-before.ensures.entries
    c.in_ok-before.ensures.old c.in_ok-before.ensures.len
    ∙ ap (λ items. taken_back items c.args.rows.now.entries) c.reserve.ensures.items
