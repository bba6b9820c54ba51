-- Ways, link by link, and the devices that a host aims at, one by one.
use Rattle.std.proofs.Common.{◌≡◌, ◌<◌, ◌≤◌, ℕ, zero, suc, ◌+◌, ◌-◌, Bool, true, false, ◌∷◌, length, get_or, refl, arith, Option, Some, None}
use Rattle.std.specs.Prelude.{filter, if◌then◌else◌}
use Rattle.std.specs.List.{list_any, range_with_len}
use Rattle.std.specs.Option.{option_or}
use Rattle.sb_packet.specs.Networks.{NetDevice, NetHost, Network, has_address}
use Rattle.sb_flow.specs.Ways.{aims_at, is_aimed_at, links_from, next_link}
use Rattle.sb_packet.specs.declared.transaction.Txn.{Txn}
use Rattle.sb_flow.specs.Accepted.{first_told, lost_behind, lost_on_way, overlapping_device}
use Rattle.sb_flow.proofs.Apart.{device_at-is}
use Rattle.sb_flow.proofs.Maps.{list_any_agree}
use Rattle.sb_topology.proofs.Numbers.{numbers_more}

-- what is lost on the rest of a way: behind its next link, or else behind those that follow
pub way_more : (network : Network) (d n i k : ℕ) → i < n → first_told (lost_behind network d) (links_from (n - i) network d (Some k)) ≡ option_or (lost_behind network d k) (first_told (lost_behind network d) (links_from (n - (i + 1)) network d (next_link network d k)))
way_more network d n i k h = let e : n - i ≡ suc (n - (i + 1)) = omega arith in rw e refl

-- nothing, where no link is next
pub way_ends : (network : Network) (d n : ℕ) → first_told (lost_behind network d) (links_from n network d None) ≡ None
way_ends network d zero = refl
way_ends network d (suc n) = refl

-- nor where the way is as long as it may be
pub way_over : (network : Network) (d n i : ℕ) (next : Option ℕ) → n ≤ i → first_told (lost_behind network d) (links_from (n - i) network d next) ≡ None
way_over network d n i next h = let e : n - i ≡ 0 = omega arith in rw e refl

-- the devices that a host aims at, from one on: that one, if it does, and those behind it
pub aims_more : (network : Network) (host : NetHost) (h i n : ℕ) → i < n → first_told (lost_on_way network h) (filter (aims_at network host) (range_with_len i (n - i)))
    ≡ (if aims_at network host i then option_or (lost_on_way network h i) (first_told (lost_on_way network h) (filter (aims_at network host) (range_with_len (i + 1) (n - (i + 1))))) else first_told (lost_on_way network h) (filter (aims_at network host) (range_with_len (i + 1) (n - (i + 1)))))
aims_more network host h i n below = rw (numbers_more i n below) (both (aims_at network host i))
  where
    both : (b : Bool) → first_told (lost_on_way network h) (if b then i ∷ filter (aims_at network host) (range_with_len (i + 1) (n - (i + 1))) else filter (aims_at network host) (range_with_len (i + 1) (n - (i + 1))))
        ≡ (if b then option_or (lost_on_way network h i) (first_told (lost_on_way network h) (filter (aims_at network host) (range_with_len (i + 1) (n - (i + 1))))) else first_told (lost_on_way network h) (filter (aims_at network host) (range_with_len (i + 1) (n - (i + 1)))))
    both true = refl
    both false = refl

-- where devices lie apart, a host aims at one just where some address of its script is in that one's range
pub aimed_here : (network : Network) (host : NetHost) (k : ℕ) (d : NetDevice) → overlapping_device network ≡ None → k < length network.devices
    → aims_at network host k ≡ list_any (λ t. has_address t.addr (get_or network.devices k d)) host.script
aimed_here network host k d apart h = list_any_agree (is_aimed_at network k) (λ (t : Txn). has_address t.addr (get_or network.devices k d)) host.script (λ t. device_at-is network t.addr k d apart h)
