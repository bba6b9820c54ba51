-- The names of the devices so far are names.
use Rattle.std.proofs.Common.{◌≡◌, true, take}
use Rattle.std.specs.Prelude.{All}
use Rattle.sb_packet.specs.Names.{is_name}
use Rattle.sb_flow.specs.declared.device_plan.DevicePlan.{DevicePlan}
use Rattle.sb_check.proofs.checking.names_are_names.Given as goal

abbrev pub invariant-loop-device : goal.invariant-loop-device
invariant-loop-device l = All (λ (d : DevicePlan). is_name d.name ≡ true) (take l.device-index l.bundle.devices.items)
