use Rattle.std.proofs.Common.{◌≡◌, ◌++◌, length}
use Rattle.std.specs.List.{flat_map}
use Rattle.dss_frame.specs.Dss.{canonical}
use Rattle.unit_segments.specs.Spelling.{command_dsss, object_dsss}
use Rattle.script_commands.proofs.write.write_command.Given as goal

abbrev pub invariant-loop-body : goal.invariant-loop-body
invariant-loop-body l =
    l.out ++ flat_map canonical (object_dsss l.command l.followed l.left) ≡ flat_map canonical (command_dsss l.followed l.command)

abbrev pub decreases-loop-body : goal.decreases-loop-body
decreases-loop-body l = length l.left
