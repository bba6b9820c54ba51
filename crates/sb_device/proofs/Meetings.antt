-- A device that begins, and one whose ends have met the other ones.
use Rattle.std.proofs.Common.{◌≡◌, List, [], refl, sym, subst}
use Rattle.sb_packet.specs.Accesses.{Access}
use Rattle.sb_packet.specs.Memories.{MemoryState}
use Rattle.sb_link.specs.RingPlans.{RingPlan}
use Rattle.sb_link.specs.Prefixes.{IsSubsequence}
use Rattle.sb_packet.specs.declared.entry.Entry.{Entry}
use Rattle.sb_packet.specs.declared.item.Item.{Item}
use Rattle.sb_port.specs.Ports.{PortSide, PortState, IsFit, offered_words}
use Rattle.sb_node.specs.Sides.{RingSide}
use Rattle.sb_node.specs.Kept.{IsPortMet, IsRingMet}
use Rattle.sb_node.proofs.Subsequences.{same_subsequence}
use Rattle.sb_device.specs.Sides.{DeviceSide}
use Rattle.sb_device.specs.Served.{HasServed}
use Rattle.sb_device.specs.Plans.{IsDeviceInOrder}
use Rattle.sb_device.specs.Devices.{IsWholeDevice}

-- a device that has served nothing
pub service_begins : (d : DeviceSide) → d.journal.entries ≡ [] → offered_words d.answers ≡ [] → HasServed d.memory d
service_begins d empty none =
    subst (λ (entries : List Entry). HasServed d.memory (record d { journal = record d.journal { entries = entries } })) (sym empty) (record {
      stepped = refl;
      answered_some = subst (λ (xs : List Access). IsSubsequence xs []) (sym none) (same_subsequence []);
      answered_all = λ sound few. none;
    })

-- in order still, once the ring's end has met the other one
order_with_ring : (d : DeviceSide) (ring : RingSide) → IsRingMet d.requests ring → IsDeviceInOrder d → IsDeviceInOrder (record d { requests = ring })
order_with_ring d ring met o =
    subst (λ (p : RingPlan). IsDeviceInOrder (record d { requests = record ring { plan = p } })) (sym met.plan)
    (subst (λ (list : List Item). IsDeviceInOrder (record d { requests = record ring { plan = d.requests.plan; received = list } })) (sym met.received)
    (record { planned = o.planned; journalled = o.journalled; own_entries = o.own_entries; room = o.room; closes = o.closes }))

-- and once the port's has
order_with_port : (d : DeviceSide) (port : PortSide) → IsPortMet d.answers port → IsDeviceInOrder d → IsDeviceInOrder (record d { answers = port })
order_with_port d port met o =
    subst (λ (p : RingPlan). IsDeviceInOrder (record d { answers = record port { plan = p } })) (sym met.plan)
    (subst (λ (s : PortState). IsDeviceInOrder (record d { answers = record port { plan = d.answers.plan; state = s } })) (sym met.state)
    (record { planned = o.planned; journalled = o.journalled; own_entries = o.own_entries; room = o.room; closes = o.closes }))

-- whole still
pub whole_with_ring : (d : DeviceSide) (ring : RingSide) → IsWholeDevice d → IsRingMet d.requests ring → IsWholeDevice (record d { requests = ring })
whole_with_ring d ring w met = record { fit = w.fit; in_order = order_with_ring d ring met w.in_order }

pub whole_with_port : (d : DeviceSide) (port : PortSide) → IsWholeDevice d → IsPortMet d.answers port → IsWholeDevice (record d { answers = port })
whole_with_port d port w met = record {
  fit = subst (λ (p : RingPlan). IsFit p port.state) (sym met.plan) (subst (λ (s : PortState). IsFit d.answers.plan s) (sym met.state) w.fit);
  in_order = order_with_port d port met w.in_order;
}

-- what a device served it still serves
pub serves_with_ring : (opening : MemoryState) (d : DeviceSide) (ring : RingSide) → HasServed opening d → IsRingMet d.requests ring → HasServed opening (record d { requests = ring })
serves_with_ring opening d ring h met =
    subst (λ (list : List Item). HasServed opening (record d { requests = record ring { received = list } })) (sym met.received)
    (record { stepped = h.stepped; answered_some = h.answered_some; answered_all = h.answered_all })

pub serves_with_port : (opening : MemoryState) (d : DeviceSide) (port : PortSide) → HasServed opening d → IsPortMet d.answers port → HasServed opening (record d { answers = port })
serves_with_port opening d port h met =
    subst (λ (p : RingPlan). HasServed opening (record d { answers = record port { plan = p } })) (sym met.plan)
    (subst (λ (s : PortState). HasServed opening (record d { answers = record port { plan = d.answers.plan; state = s } })) (sym met.state)
    (record { stepped = h.stepped; answered_some = h.answered_some; answered_all = h.answered_all }))
