-- A ring is made for the packets of its flows.
use Rattle.sb_laws.proofs.HostPackets.{packets_planned}
use Rattle.sb_laws.proofs.host_laws.rings_are_made_for_packets.Goals as goal

pub returns : goal.returns
returns c = record { planned = λ network host i d ring t routed is aimed down through. packets_planned network routed host i t is d aimed ring down through }
