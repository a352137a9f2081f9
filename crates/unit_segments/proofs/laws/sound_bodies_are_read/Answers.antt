use Rattle.unit_segments.proofs.Bodies.{sound_read, read_sound}
use Rattle.unit_segments.proofs.laws.sound_bodies_are_read.Goals as goal

pub returns-clause-sound : goal.returns-clause-sound
returns-clause-sound c = sound_read

pub returns-clause-only : goal.returns-clause-only
returns-clause-only c = read_sound
