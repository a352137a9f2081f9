use Rattle.std.proofs.Common.{sym, ap, ◌∙◌}
use Rattle.ddm_objects.specs.Members.{Members}
use Rattle.ddm_objects.proofs.Reading.Spelled.{members_again}
use Rattle.ddm_objects.proofs.laws.members_are_one_list.Goals as goal

pub returns : goal.returns
returns c = λ objects others bytes are also.
    ap (λ (m : Members). m.objects) (sym (members_again 0 objects bytes are) ∙ members_again 0 others bytes also)
