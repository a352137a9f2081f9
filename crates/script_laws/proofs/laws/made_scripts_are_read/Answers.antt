use Rattle.script_laws.proofs.Made.{made_is_read}
use Rattle.script_laws.proofs.laws.made_scripts_are_read.Goals as goal

pub returns : goal.returns
returns c = made_is_read
