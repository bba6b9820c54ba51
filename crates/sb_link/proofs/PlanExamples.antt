-- Which flow a message is of, computed for the ring of requests that crosses the wire of the network in NetworkExample.
use Rattle.std.proofs.Common.{◌≡◌, refl, [], ◌∷◌, ℕ, false, true, Some, None, map}
use Rattle.sb_packet.specs.Messages.{Message, message_of}
use Rattle.sb_packet.specs.Networks.{device_size}
use Rattle.sb_link.specs.RingPlans.{RingFlows, message_flow, is_allowed}
use Rattle.sb_word.specs.declared.command.Op.TheVariants.{ReqRd, RespRd}
use Rattle.sb_packet.proofs.NetworkExample.{four_devices, cpu0_write, cpu0_addition, cpu1_read}

-- What both hosts ask of the devices 2 and 3, behind the wire, goes over it; what they ask of 0 and 1 doesn't.
abbrev over_the_wire : RingFlows
over_the_wire = record {
  devices = 4;
  ranges = map (λ d. record { base = d.base; bytes = device_size d }) four_devices;
  through = (false ∷ false ∷ true ∷ true ∷ []) ∷ (false ∷ false ∷ true ∷ true ∷ []) ∷ [];
}

-- host 0 reads two words of eight bytes from an address on
abbrev read_at : ℕ → Message
read_at address = record { op = ReqRd; atomic = None; size = 3; host = 0; dst = address; src = 0; count = 2; bytes = []; eom = true; qos = 0; prot = 0; eof = false; ex = false; tail = 0 }

-- that host is answered from an address, at another one
abbrev answer_from : ℕ → ℕ → Message
answer_from address to = record (read_at to) { op = RespRd; src = address }

-- A packet to `m0` is of a flow, which doesn't go over the wire.
pub flow_to_m0 : message_flow over_the_wire (message_of cpu0_write) ≡ Some record { host = 0; device = 0 }
flow_to_m0 = refl

pub not_over_the_wire : is_allowed over_the_wire (message_of cpu0_write) ≡ false
not_over_the_wire = refl

-- Those to `m2` and to `rom` go over it.
pub flow_to_m2 : message_flow over_the_wire (message_of cpu0_addition) ≡ Some record { host = 0; device = 2 }
flow_to_m2 = refl

pub m2_over_the_wire : is_allowed over_the_wire (message_of cpu0_addition) ≡ true
m2_over_the_wire = refl

pub flow_to_rom : message_flow over_the_wire (message_of cpu1_read) ≡ Some record { host = 1; device = 3 }
flow_to_rom = refl

-- The last 16 bytes of `m2` are its own; of 16 bytes that begin 8 later it has half, so they are of no flow.
pub last_of_m2 : message_flow over_the_wire (read_at 200688) ≡ Some record { host = 0; device = 2 }
last_of_m2 = refl

pub over_the_end_of_m2 : message_flow over_the_wire (read_at 200696) ≡ None
over_the_end_of_m2 = refl

-- nothing has these addresses
pub at_no_device : is_allowed over_the_wire (read_at 327680) ≡ false
at_no_device = refl

-- An answer is of the flow to the device that it comes from, as long as it goes to its host's addresses, of which 2 ^ 40 is none.
pub answer_of_m2 : message_flow over_the_wire (answer_from 196608 1099511627760) ≡ Some record { host = 0; device = 2 }
answer_of_m2 = refl

pub answer_to_another : message_flow over_the_wire (answer_from 196608 1099511627776) ≡ None
answer_to_another = refl
