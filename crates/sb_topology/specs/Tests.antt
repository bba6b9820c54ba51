-- What may be wrong with a network whose names are as they should be: each test finds the first of its faults.
use Rattle.std.specs.Prelude.{ℕ, nat_le, length, Option, Some, None, slice_get, Result, Ok, Err}
use Rattle.std.specs.Option.{option_map_or}
use Rattle.sb_packet.specs.Networks.{NetPlace, Network, at_device, at_host, at_router}
use Rattle.sb_flow.specs.Ends.{backward_link, unfit_link, unlinked_place}
use Rattle.sb_flow.specs.Accepted.{misplaced_device, overfull_device, overlapping_device, repeated_id, route_fault, word_count}
use Rattle.sb_flow.specs.declared.place.Place.{Place}
use Rattle.sb_flow.specs.declared.place.Place.TheVariants.{Host, Router, Device}
use Rattle.sb_text.specs.Sentences.{◌>>=◌, unless}
use Rattle.sb_fields.specs.declared.fault.LoadFault.{LoadFault}
use Rattle.sb_fields.specs.declared.fault.LoadFault.TheVariants as faults

-- nothing is wrong where a test finds nothing; else the fault says what it found
unfoldable pub unless_found : {A : Type 0} → (A → LoadFault) → Option A → Result (Unit {0}) LoadFault
unless_found fault None = Ok tt
unless_found fault (Some found) = Err (fault found)

-- a place as faults name it
abbrev pub place_at : NetPlace → Place
place_at (at_host h) = Host h
place_at (at_router r) = Router r
place_at (at_device d) = Device d

-- how many bytes the image of device d has
abbrev pub image_length : Network → ℕ → ℕ
image_length network d = option_map_or (λ device. length device.image) (slice_get network.devices d) 0

-- ids of hosts, and where devices lie
unfoldable pub devices_tested : Network → Result (Unit {0}) LoadFault
devices_tested network = do
  done ← unless_found (λ clash. faults.HostId clash.at) (repeated_id network)
  done ← unless_found faults.Range (misplaced_device network)
  done ← unless_found (λ clash. faults.Overlap clash.at clash.earlier) (overlapping_device network)
  unless_found (λ d. faults.Image d (image_length network d)) (overfull_device network)

-- what links join
unfoldable pub links_tested : Network → Result (Unit {0}) LoadFault
links_tested network = do
  done ← unless_found faults.End (unfit_link network)
  done ← unless_found faults.Backward (backward_link network)
  unless_found (λ place. faults.Unlinked (place_at place)) (unlinked_place network)

-- routes, and the words of all scripts; both ask what the scripts say
unfoldable pub scripts_tested : Network → Result (Unit {0}) LoadFault
scripts_tested network = do
  done ← unless_found (λ route. faults.Route route.router route.device) (route_fault network)
  unless (nat_le (word_count network) 262144) (faults.Budget (word_count network))
