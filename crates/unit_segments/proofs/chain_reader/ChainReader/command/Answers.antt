use Rattle.std.proofs.Common.{sym, ◌∙◌}
use Rattle.unit_segments.proofs.Reading.{object_answer, request_answer}
use Rattle.unit_segments.proofs.chain_reader.ChainReader.command.Goals as goal
use Rattle.unit_segments.proofs.chain_reader.ChainReader.command.Goals.{in-Some, in-None}

pub returns-clause-commands : goal.returns-clause-commands
returns-clause-commands c =
    elim c.match-replace.branch [
      | in-Some w ↦ object_answer w.with_object.result c.match-replace.result c.self.inside.commands c.self.inside.begun c.replace.new.dest
          c.self.inside.before c.args.self.now c.args.placed w.in-Some.command w.result-is c.replace.ensures.after
          (sym c.replace.ensures.value ∙ w.in-Some.is) c.self.view_is c.requires.order w.with_object.ensures
      | in-None w ↦ request_answer c.match-replace.result c.self.inside.commands c.self.inside.begun c.replace.new.dest
          c.self.inside.before c.args.self.now c.args.placed w.begin.result w.result-is c.replace.ensures.after
          (sym c.replace.ensures.value ∙ w.in-None.is) c.self.view_is c.requires.order w.begin.ensures
    ]
