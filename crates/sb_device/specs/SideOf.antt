-- What rounds see of a device, by its parts.
use Rattle.sb_link.specs.declared.ends.RxEnd as rx
use Rattle.sb_port.specs.Ports.{PortSide}
use Rattle.sb_node.specs.Sides.{ring_side}
use Rattle.sb_device.specs.Sides.{DeviceSide}
use Rattle.sb_device.specs.declared.device_state.DeviceState.{DeviceState}

-- a device with that memory and journal, at that end and that port
abbrev pub side_of : {U : Type 0} → rx.Ghosts U → DeviceState → U → PortSide → DeviceSide
side_of end state requests answers = record {
  number = state.number;
  memory = state.memory;
  journal = state.journal;
  requests = ring_side end requests;
  answers = answers;
}
