-- Rows that say what the generator says are those of its network.
use Rattle.std.proofs.Common.{◌≡◌, ℕ, List, None, ap, length, map, sym, ◌∙◌}
use Rattle.std.proofs.lemmas.List.{length-map}
use Rattle.sb_flow.specs.Rows.{device_of, host_of, link_of, net_router_of, rows_network}
use Rattle.sb_flow.specs.declared.device_plan.DevicePlan.{DevicePlan}
use Rattle.sb_flow.specs.declared.host_plan.HostPlan.{HostPlan}
use Rattle.sb_flow.specs.declared.link_row.LinkRow.{LinkRow}
use Rattle.sb_flow.specs.declared.router_plan.RouterPlan.{RouterPlan}
use Rattle.sb_packet.specs.Networks.{NetDevice}
use Rattle.sb_gen.specs.Generated.{gen_devices, gen_hosts, gen_links, gen_network, gen_routers}

pub rows_of_number : (number : ℕ) (hosts : List HostPlan) (routers : List RouterPlan) (devices : List DevicePlan) (links : List LinkRow)
    → map host_of hosts ≡ gen_hosts number → map (net_router_of 4) routers ≡ gen_routers → map device_of devices ≡ gen_devices → map link_of links ≡ gen_links
    → rows_network hosts routers devices links None ≡ gen_network number
rows_of_number number hosts routers devices links are_hosts are_routers are_devices are_links =
    let four : length devices ≡ 4 = sym (length-map devices device_of) ∙ ap (λ (ds : List NetDevice). length ds) are_devices in
    rw four cc
