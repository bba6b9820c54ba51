-- What a packet says is whole.
use Rattle.sb_packet.proofs.FineParts.{packet_whole}
use Rattle.sb_packet.proofs.laws.packets_are_whole.Goals as goal

pub returns : goal.returns
returns c = record { whole = λ p. packet_whole p }
