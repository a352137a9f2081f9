use Rattle.server_list.proofs.Sets.{has_none, has_with}
use Rattle.server_list.proofs.laws.tried_has_what_was_added.Goals as goal

pub returns : goal.returns
returns c = record { none = has_none; with = has_with }
