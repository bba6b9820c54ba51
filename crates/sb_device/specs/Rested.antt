-- What stays of a device where nothing moved.
use Rattle.std.specs.Prelude.{◌≡◌}
use Rattle.std.proofs.Common.{refl, ◌∙◌}
use Rattle.sb_node.specs.Rested.{IsRestedPort, IsRestedRing, rested_port_same, rested_port_then, rested_ring_same, rested_ring_then}
use Rattle.sb_device.specs.Sides.{DeviceSide}

-- nothing moved at a device: it served nothing, and its ends rested
pub record IsRestedDevice (before after : DeviceSide) : Type 0 where
  pub number : after.number ≡ before.number
  pub memory : after.memory ≡ before.memory
  pub journal : after.journal ≡ before.journal
  pub requests : IsRestedRing before.requests after.requests
  pub answers : IsRestedPort before.answers after.answers

-- nothing happened to a device
pub rested_device_same : (d : DeviceSide) → IsRestedDevice d d
rested_device_same d = record {
  number = refl;
  memory = refl;
  journal = refl;
  requests = rested_ring_same d.requests;
  answers = rested_port_same d.answers;
}

-- one thing after another happened to a device
pub rested_device_then : (x y z : DeviceSide) → IsRestedDevice x y → IsRestedDevice y z → IsRestedDevice x z
rested_device_then x y z a b = record {
  number = b.number ∙ a.number;
  memory = b.memory ∙ a.memory;
  journal = b.journal ∙ a.journal;
  requests = rested_ring_then a.requests b.requests;
  answers = rested_port_then a.answers b.answers;
}
