use Rattle.std.proofs.Common.{◌∙◌, ap₂}
use Rattle.clap.specs.Simple.{with_rule}
use Rattle.server_words.specs.Command.{serve}
use Rattle.server_words.proofs.command.serve.Goals as goal

pub returns : goal.returns
unfolding serve
returns c =
    c.in_ok-command.ensures.shape c.rest.ensures.local ∙ ap₂ with_rule
    (c.in_ok-arg-5.ensures.shape c.option-5.ensures.local ∙ ap₂ with_rule
    (c.in_ok-arg-4.ensures.shape c.option-4.ensures.local ∙ ap₂ with_rule
    (c.in_ok-arg-3.ensures.shape c.option-3.ensures.local ∙ ap₂ with_rule
    (c.in_ok-arg-2.ensures.shape c.option-2.ensures.local ∙ ap₂ with_rule
    (c.in_ok-arg.ensures.shape c.option.ensures.local ∙ ap₂ with_rule c.new.ensures.app c.option.ensures.rule)
    c.option-2.ensures.rule) c.option-3.ensures.rule) c.option-4.ensures.rule) c.option-5.ensures.rule) c.rest.ensures.rule
