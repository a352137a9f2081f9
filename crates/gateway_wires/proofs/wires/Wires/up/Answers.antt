use Rattle.gateway_wires.proofs.Falling.{member_in}
use Rattle.gateway_wires.proofs.wires.Wires.up.Goals as goal

pub bounds-self-inside-member : goal.bounds-self-inside-member
bounds-self-inside-member g c = member_in c.args.member c.requires
