-- What a device does with its ring in one turn.
use Rattle.std.specs.Prelude.{◌≡◌, ◌⊎◌, Bool, true, false}
use Rattle.sb_port.specs.Ports.{owes}
use Rattle.sb_node.specs.Steps.{IsRingEmpty, HasPopped}
use Rattle.sb_node.specs.declared.findings.Findings.{Findings}
use Rattle.sb_device.specs.Sides.{DeviceSide}

-- the port wasn't ready, and the ring was left
pub record HasWaited (before after : DeviceSide) (found found_then : Findings) : Type 0 where
  pub owing : owes before.answers.state ≡ true
  pub same : after ≡ before
  pub found_nothing : found_then ≡ found

-- the ring was empty
pub record HasFoundNone (before after : DeviceSide) (found found_then : Findings) : Type 0 where
  pub ready : owes before.answers.state ≡ false
  pub empty : IsRingEmpty before.requests after.requests found found_then
  pub same : after ≡ record before { requests = after.requests }

-- What a device did with its ring: it says whether it popped.
abbrev pub IsRingHandled : DeviceSide → DeviceSide → Findings → Findings → Bool → Type 0
IsRingHandled before after found found_then true = HasPopped before.requests after.requests found found_then
IsRingHandled before after found found_then false = HasWaited before after found found_then ⊎ HasFoundNone before after found found_then
