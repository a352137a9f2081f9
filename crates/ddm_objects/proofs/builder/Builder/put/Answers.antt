use Rattle.std.proofs.Common.{reverse}
use Rattle.ddm_objects.proofs.Building.Fields.{put_fits, put_is}
use Rattle.ddm_objects.proofs.builder.Builder.put.Goals as goal

pub invariant_of-self-2 : goal.invariant_of-self-2
invariant_of-self-2 c =
    put_fits (reverse c.self.inside.begun.items) c.self.inside.bytes.items c.args.bytes.now c.extend_from_slice.new.self.items c.args.self.now
    c.in_ok-extend_from_slice.ensures.items c.self.view_is c.self.invariant.0 c.requires.room

pub returns-clause-ok : goal.returns-clause-ok
returns-clause-ok c =
    put_is c.self.inside.begun.items c.self.inside.bytes.items c.args.bytes.now c.extend_from_slice.new.self.items c.args.self.now
    c.in_ok-extend_from_slice.ensures.items c.self.view_is c.self.invariant.0 c.requires.begun
