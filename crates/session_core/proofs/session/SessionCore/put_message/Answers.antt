use Rattle.std.proofs.Common.{◌≡◌, ◌∙◌, ◌++◌, arith}
use Rattle.std.proofs.lemmas.Result.{on_ok_weaker}
use Rattle.plain_model.specs.Lost.{message}
use Rattle.session_core.proofs.Cores.{with_message}
use Rattle.session_core.proofs.session.SessionCore.put_message.Goals as goal

pub returns : goal.returns
returns c = on_ok_weaker c.push.result
    (λ e.
    let w : c.push.new.self ≡ c.self.inside.kept ++ message c.args.code c.args.value c.args.self.now =
    e ∙ with_message c.self.inside.kept c.in_ok-message.field-0 c.args.code c.args.value c.first_number-number.result c.args.self.now
    c.first_number-number.ensures c.in_ok-message.ensures in
    grind (arith, w, c.self.view_is))
    c.push.ensures.ok
