use Rattle.plain_model.proofs.Sounding.{each_core_is_sound}
use Rattle.plain_model.proofs.laws.each_core_is_sound.Goals as goal

pub returns : goal.returns
returns g c name = each_core_is_sound name g.G.Group.meaning
