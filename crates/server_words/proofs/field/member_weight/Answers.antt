use Rattle.std.proofs.Common.{◌∙◌, ap}
use Rattle.std.specs.List.{after_first}
use Rattle.script_words.specs.Number.{number_within}
use Rattle.server_words.specs.Field.{is_equals_sign}
use Rattle.server_words.proofs.field.member_weight.Goals as goal

pub returns : goal.returns
returns c =
    c.weight_of.ensures ∙ ap (number_within 0 65535) (c.cut_at.ensures.after ∙ ap (after_first is_equals_sign) c.as_bytes.ensures.value)
