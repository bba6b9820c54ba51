-- The parts of a sound message are sound, and those of a sound whole message are whole and narrow too.
use Rattle.sb_packet.proofs.FineParts.{fine_cut}
use Rattle.sb_packet.proofs.SoundParts.{sound_cut}
use Rattle.sb_packet.proofs.laws.parts_are_sound.Goals as goal

pub returns-clause-sound : goal.returns-clause-sound
returns-clause-sound c = λ width m some sound. sound_cut width m some sound

pub returns-clause-fine : goal.returns-clause-fine
returns-clause-fine c = λ width m wide sound whole. fine_cut width m wide sound whole
