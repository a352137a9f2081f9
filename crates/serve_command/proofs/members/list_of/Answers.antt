use Rattle.std.proofs.Common.{◌≡◌, ◌+◌, arith}
use Rattle.serve_command.proofs.Rows.{step}
use Rattle.serve_command.proofs.members.list_of.Goals as goal

pub loop-weight-preserved : goal.loop-weight-preserved
loop-weight-preserved c =
    let number : c.loop-weight.member + 1 ≡ c.loop-weight.weight-index + 1 = omega (arith, c.loop-weight.invariant.member) in
    record {
      list =
          step c.loop-weight.list c.push.new.self c.args.weights.now c.loop-weight.weight-index (c.loop-weight.member + 1) c.loop-weight-test.true
          c.requires c.loop-weight.invariant.list number c.push.ensures.list;
      member = number;
    }
