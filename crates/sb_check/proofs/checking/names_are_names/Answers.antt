-- The next device has a name, and so have all.
use Rattle.std.proofs.Common.{◌≡◌, ◌<◌, ◌≤◌, List, true, length, get_or, subst}
use Rattle.std.specs.Prelude.{All}
use Rattle.std.proofs.lemmas.List.{take_all}
use Rattle.std.proofs.lemmas.List.Elements.{All-map, All-more}
use Rattle.sb_packet.specs.Names.{is_name}
use Rattle.sb_packet.specs.Networks.{NetDevice}
use Rattle.sb_flow.specs.Rows.{device_of}
use Rattle.sb_flow.specs.declared.device_plan.DevicePlan.{DevicePlan}
use Rattle.sb_check.proofs.checking.names_are_names.Goals as goal

pub loop-device-preserved : goal.loop-device-preserved
loop-device-preserved c =
    let items = c.args.bundle.now.devices.items in
    let i = c.loop-device.device-index in
    let d = c.device-item.result in
    let same = c.deref-device-items.ensures.value in
    let at : d ≡ get_or items i d = subst (λ (l : List DevicePlan). d ≡ get_or l i d) same c.device-item.is in
    let below : i < length items = subst (λ (l : List DevicePlan). i < length l) same c.loop-device-test.true in
    All-more (λ (x : DevicePlan). is_name x.name ≡ true) items i d below c.loop-device.invariant (subst (λ (x : DevicePlan). is_name x.name ≡ true) at c.as_slice-name.ensures.named)

pub returns : goal.returns
returns c =
    let items = c.args.bundle.now.devices.items in
    let i = c.loop-device.device-index in
    let all : length items ≤ i = subst (λ (l : List DevicePlan). length l ≤ i) c.deref-device-items.ensures.value c.loop-device-test.false in
    All-map (λ (d : NetDevice). is_name d.name ≡ true) device_of items
    (subst (λ (l : List DevicePlan). All (λ (d : DevicePlan). is_name d.name ≡ true) l) (take_all i items all) c.loop-device.invariant)
