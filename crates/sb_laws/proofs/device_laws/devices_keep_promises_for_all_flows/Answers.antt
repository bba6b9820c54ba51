-- Each flow's device keeps its promise.
use Rattle.sb_laws.proofs.DevicesInNetworks.{all_devices_promise}
use Rattle.sb_laws.proofs.device_laws.devices_keep_promises_for_all_flows.Goals as goal

pub returns : goal.returns
returns c = record { promises = λ network journal m device routed stand. all_devices_promise network routed journal m device stand }
