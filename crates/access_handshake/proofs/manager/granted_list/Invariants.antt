use Rattle.std.proofs.Common.{◌≡◌, ◌*◌, take, length}
use Rattle.access_handshake.specs.Managers.{granted_list}
use Rattle.access_handshake.proofs.manager.granted_list.Given as goal

abbrev pub invariant-loop-manager : goal.invariant-loop-manager
invariant-loop-manager l = record {
  levels : l.list ≡ granted_list (take l.manager-index l.asked);
  size : length l.list ≡ 4 * l.manager-index;
}
