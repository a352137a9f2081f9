use Rattle.std.proofs.Common.{◌==◌}
use Rattle.hex_lines.proofs.FirstLine.{lines_of-first, after_first-shorter}
use Rattle.hex_lines.proofs.line.split_line.Goals as goal

pub returns-clause-lines : goal.returns-clause-lines
returns-clause-lines c =
    rw (c.cut_at.ensures.before, c.cut_at.ensures.after) (lines_of-first c.args.text.now c.requires)

pub returns-clause-shorter : goal.returns-clause-shorter
returns-clause-shorter c =
    rw c.cut_at.ensures.after (after_first-shorter (λ byte. byte == 10) c.args.text.now c.requires)
