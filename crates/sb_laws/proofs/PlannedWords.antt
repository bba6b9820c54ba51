-- What may go over a ring by its plan is words of its flows.
use Rattle.std.proofs.Common.{◌≡◌, ◌≤◌, ◌<◌, ℕ, ◌+◌, ◌*◌, ◌^◌, Bool, true, false, cond, List, [], ◌∷◌, ◌++◌, length, refl, sym, ap, ◌∙◌, arith, subst, append_assoc, take, inl, inr}
use Rattle.std.specs.Prelude.{◌==◌, ◌||◌, ◌&&◌, ◌⊎◌, nat_le, nat_lt, map, All, Option, Some, None, slice_get, slice_index_or, option_map}
use Rattle.std.specs.List.{list_any, position_from, range_with_len}
use Rattle.std.specs.Option.{option_map_or}
use Rattle.std.proofs.Math.Pow.{pow_pos}
use Rattle.std.proofs.lemmas.Bool.{cases_lt, and_parts}
use Rattle.std.proofs.lemmas.Bool.Decides.{nat_tests}
use Rattle.std.proofs.lemmas.List.{get_or_past, get_or-take, length-take-le}
use Rattle.std.proofs.lemmas.Option.{slice_get-get_or}
use Rattle.std.proofs.lemmas.List.Elements.{All-nil, All-append}
use Rattle.std.proofs.lemmas.List.FromFn.{get_or-map-range_with_len, length-map-range_with_len}
use Rattle.sb_packet.specs.Accesses.{access_at, message_accesses, accesses_of_item}
use Rattle.sb_packet.specs.Messages.{Message, message_of, message_span}
use Rattle.sb_packet.specs.Cuts.{device_place}
use Rattle.sb_packet.specs.Networks.{NetDevice, Network, device_at, device_size, has_address}
use Rattle.sb_packet.specs.Journals.{is_request, device_address}
use Rattle.sb_link.specs.RingPlans.{AddressRange, NetFlow, RingFlows, holds_span, goes_home, goes_through, is_allowed, device_ranges}
use Rattle.sb_link.specs.Traffic.{item_accesses, MayFollow, AreInTurn}
use Rattle.sb_flow.specs.Ways.{NetWay}
use Rattle.sb_flow.specs.Rings.{range_of, network_ranges, flow_table, ring_flows, ring_plan, ring_ways}
use Rattle.sb_packet.specs.declared.item.Item.{Item}
use Rattle.sb_packet.specs.declared.item.Item.TheVariants as items
use Rattle.sb_packet.proofs.Lists.{All-made}
use Rattle.sb_packet.proofs.ReplyAddresses.{word_within}
use Rattle.sb_laws.specs.Flows.{is_of}
use Rattle.sb_laws.specs.NetworkLayouts.{IsRouted, way_flow}
use Rattle.sb_laws.proofs.ListPlaces.{or_left, or_right}
use Rattle.sb_laws.proofs.LinksToDevices.{Passes, found_place, none_found}

-- an item of a table that is made for the first n numbers, and none behind them
pub table_at : {X : Type 0} (f : ℕ → X) (n i : ℕ) (none : X) → i < n → slice_index_or (map f (range_with_len 0 n)) i none ≡ f i
table_at f n i none inside = get_or-map-range_with_len f 0 n i i none inside (omega arith)

-- a test that some pass and that is weaker is passed by some
pub any_weaker : {X : Type 0} (p q : X → Bool) → ((x : X) → p x ≡ true → q x ≡ true) → (xs : List X) → list_any p xs ≡ true → list_any q xs ≡ true
any_weaker p q weaker [] e = e
any_weaker p q weaker (x ∷ xs) e = by_test (p x) refl e (any_weaker p q weaker xs)
  where
    by_test : (b : Bool) → p x ≡ b → (b || list_any p xs) ≡ true → (list_any p xs ≡ true → list_any q xs ≡ true) → (q x || list_any q xs) ≡ true
    by_test true t e later = or_left (q x) (list_any q xs) (weaker x t)
    by_test false t e later = or_right (q x) (list_any q xs) (later e)

-- a flow in the table is that of a way
pub in_table : (ws : List NetWay) (f : NetFlow) → slice_index_or (slice_index_or (flow_table ws) f.host []) f.device false ≡ true → list_any (λ way. (way.host.id == f.host) && (way.device == f.device)) ws ≡ true
in_table ws f e = by_host (cases_lt f.host 32)
  where
    row : List Bool
    row = map (λ d. list_any (λ way. (way.host.id == f.host) && (way.device == d)) ws) (range_with_len 0 32)

    by_device : slice_index_or row f.device false ≡ true → (f.device < 32) ⊎ (32 ≤ f.device) → list_any (λ way. (way.host.id == f.host) && (way.device == f.device)) ws ≡ true
    by_device e (inl inside) = sym (table_at (λ d. list_any (λ way. (way.host.id == f.host) && (way.device == d)) ws) 32 f.device false inside) ∙ e
    by_device e (inr beyond) = let none : slice_index_or row f.device false ≡ false = get_or_past row f.device false (omega (arith, length-map-range_with_len (λ d. list_any (λ way. (way.host.id == f.host) && (way.device == d)) ws) 0 32)) in absurd (let never : true ≡ false = sym e ∙ none in cc)

    by_host : (f.host < 32) ⊎ (32 ≤ f.host) → list_any (λ way. (way.host.id == f.host) && (way.device == f.device)) ws ≡ true
    by_host (inl inside) =
        let at : slice_index_or (flow_table ws) f.host [] ≡ row = table_at (λ id. map (λ d. list_any (λ way. (way.host.id == id) && (way.device == d)) ws) (range_with_len 0 32)) 32 f.host [] inside in
        by_device (ap (λ (r : List Bool). slice_index_or r f.device false) (sym at) ∙ e) (cases_lt f.device 32)
    by_host (inr beyond) =
        let none : slice_index_or (flow_table ws) f.host [] ≡ [] = get_or_past (flow_table ws) f.host [] (omega (arith, length-map-range_with_len (λ id. map (λ d. list_any (λ way. (way.host.id == id) && (way.device == d)) ws) (range_with_len 0 32)) 0 32)) in
        absurd (let never : true ≡ false = sym e ∙ ap (λ (r : List Bool). slice_index_or r f.device false) none in cc)

-- the flow of a message, where it has one
record FlowOf (flows : RingFlows) (m : Message) : Type 0 where
  device : ℕ
  found : position_from (holds_span (device_place m) (message_span m)) 0 (device_ranges flows) ≡ Some device
  through : goes_through flows (record { host = m.host; device = device }) ≡ true

flow_of_allowed : (flows : RingFlows) (m : Message) → is_allowed flows m ≡ true → FlowOf flows m
flow_of_allowed flows m e = by_home (goes_home m) e
  where
    place : Option ℕ
    place = position_from (holds_span (device_place m) (message_span m)) 0 (device_ranges flows)

    by_place : (o : Option ℕ) → place ≡ o → option_map_or (goes_through flows) (option_map (λ d. record { host = m.host; device = d }) o) false ≡ true → FlowOf flows m
    by_place None is e = absurd (cc)
    by_place (Some d) is e = record { device = d; found = is; through = e }

    by_home : (b : Bool) → option_map_or (goes_through flows) (cond b (option_map (λ d. record { host = m.host; device = d }) place) None) false ≡ true → FlowOf flows m
    by_home true e = by_place place refl e
    by_home false e = absurd (cc)

-- a span that a range holds has each of its addresses there
pub in_span : (base size address span x : ℕ) → (nat_le base address && nat_le (address + span) (base + size)) ≡ true → x < span → (nat_le base (address + x) && nat_lt (address + x) (base + size)) ≡ true
in_span base size address span x e below =
    let parts = and_parts (nat_le base address) (nat_le (address + span) (base + size)) e in
    let low_test = parts.0 in
    let high_test = parts.1 in
    let low : base ≤ address = grind (arith, nat_tests) in
    let high : address + span ≤ base + size = grind (arith, nat_tests) in
    let above : nat_le base (address + x) ≡ true = grind (arith, nat_tests) in
    let under : nat_lt (address + x) (base + size) ≡ true = grind (arith, nat_tests) in
    rw (above, under) refl

-- the range at a place of a network's table
abbrev range_at : Network → ℕ → AddressRange
range_at network d = option_map_or range_of (slice_get network.devices d) (record { base = 0; bytes = 0 })

module _ (network : Network) (routed : IsRouted network) where
  -- the device of a span has each of its addresses
  pub span_device : (d address span x : ℕ) → position_from (holds_span address span) 0 (take (length network.devices) (network_ranges network)) ≡ Some d → x < span → option_map_or (has_address (address + x)) (slice_get network.devices d) false ≡ true
  span_device d address span x found below = by_device (slice_get network.devices d) refl
    where
      ranges : List AddressRange
      ranges = take (length network.devices) (network_ranges network)

      place : (j : ℕ) × (d ≡ 0 + j) × Passes (holds_span address span) ranges j
      place = found_place (holds_span address span) 0 d ranges found

      few : length ranges ≡ length network.devices
      few = length-take-le (length network.devices) (network_ranges network) (let h = routed.few in omega (arith, length-map-range_with_len (range_at network) 0 32))

      there : d < length network.devices
      there = let inside = place.2.inside in omega (arith, place.1, few)

      none : AddressRange
      none = record { base = 0; bytes = 0 }

      at : slice_get ranges d ≡ Some (range_at network d)
      at = slice_get-get_or ranges d none (omega (arith, few, there))
          ∙ ap Some (get_or-take (length network.devices) (network_ranges network) d none there ∙ table_at (range_at network) 32 d none (let h = routed.few in omega (arith, there)))

      holds : holds_span address span (range_at network d) ≡ true
      holds =
          let same : d ≡ place.0 = omega (arith, place.1) in
          let passes : option_map_or (holds_span address span) (slice_get ranges d) false ≡ true = ap (λ (n : ℕ). option_map_or (holds_span address span) (slice_get ranges n) false) same ∙ place.2.passes in
          ap (λ (o : Option AddressRange). option_map_or (holds_span address span) o false) (sym at) ∙ passes

      by_device : (o : Option NetDevice) → slice_get network.devices d ≡ o → option_map_or (has_address (address + x)) o false ≡ true
      by_device None e = absurd (let some = slice_get-get_or network.devices d (record { name = []; base = 0; pages = 0; readonly = false; image = [] }) there in cc)
      by_device (Some device) e =
          let range : range_at network d ≡ range_of device = ap (λ (o : Option NetDevice). option_map_or range_of o (record { base = 0; bytes = 0 })) e in
          in_span device.base (device_size device) address span x (ap (holds_span address span) (sym range) ∙ holds) below

  -- an address that a device has is at no other
  pub at_one_device : (d address : ℕ) → option_map_or (has_address address) (slice_get network.devices d) false ≡ true → device_at network address ≡ Some d
  at_one_device d address has = by_place (device_at network address) refl
    where
      by_place : (o : Option ℕ) → device_at network address ≡ o → o ≡ Some d
      by_place None e = absurd (none_found (has_address address) 0 d network.devices e has)
      by_place (Some k) e =
          let place = found_place (has_address address) 0 k network.devices e in
          let same : k ≡ place.0 = omega (arith, place.1) in
          ap Some (same ∙ routed.apart address place.0 d place.2.passes has)

  -- so each word of an allowed message is of one of the ring's flows
  allowed_words : (ring : ℕ) (m : Message) → is_allowed (ring_flows network ring) m ≡ true → All (λ a. list_any (λ way. is_of network (way_flow way) a) (ring_ways network ring) ≡ true) (message_accesses m)
  allowed_words ring m allowed = All-made (λ a. list_any (λ way. is_of network (way_flow way) a) (ring_ways network ring) ≡ true) (access_at m) m.count (λ j below. of_word j below)
    where
      flow : FlowOf (ring_flows network ring) m
      flow = flow_of_allowed (ring_flows network ring) m allowed

      of_word : (j : ℕ) → j < m.count → list_any (λ way. is_of network (way_flow way) (access_at m j)) (ring_ways network ring) ≡ true
      of_word j below =
          let within = word_within m.size m.count j below in
          let some : 0 < 2 ^ m.size = pow_pos m.size in
          let has = span_device flow.device (device_place m) (message_span m) (j * 2 ^ m.size) flow.found (omega (arith, within, some)) in
          let address : device_address (access_at m j) ≡ device_place m + j * 2 ^ m.size = elim (is_request m.op) as (λ b. cond b (m.dst + j * 2 ^ m.size) (m.src + j * 2 ^ m.size) ≡ cond b m.dst m.src + j * 2 ^ m.size) [ true ↦ refl | false ↦ refl ] in
          let at : device_at network (device_address (access_at m j)) ≡ Some flow.device = ap (device_at network) address ∙ at_one_device flow.device (device_place m + j * 2 ^ m.size) has in
          any_weaker (λ way. (way.host.id == m.host) && (way.device == flow.device)) (λ way. is_of network (way_flow way) (access_at m j))
          (λ way e. let parts = and_parts (way.host.id == m.host) (way.device == flow.device) e in
          let host_test = parts.0 in
          let device_test = parts.1 in
          let host : (m.host == way.host.id) ≡ true = grind (arith, nat_tests) in
          let device : (flow.device == way.device) ≡ true = grind (arith, nat_tests) in
          rw (host, at, device) refl) (ring_ways network ring)
          (in_table (ring_ways network ring) (record { host = m.host; device = flow.device }) flow.through)

  -- and so each word of items that went in turn
  pub words_in_turn : (ring : ℕ) (before rest : List Item) → AreInTurn (ring_plan network ring) (before ++ rest) → All (λ a. list_any (λ way. is_of network (way_flow way) a) (ring_ways network ring) ≡ true) (item_accesses rest)
  words_in_turn ring before [] turn = All-nil (λ a. list_any (λ way. is_of network (way_flow way) a) (ring_ways network ring) ≡ true)
  words_in_turn ring before (item ∷ rest) turn =
      All-append (λ a. list_any (λ way. is_of network (way_flow way) a) (ring_ways network ring) ≡ true) (accesses_of_item item) (item_accesses rest) (of_item item (turn before rest item refl))
      (words_in_turn ring (before ++ item ∷ []) rest (subst (AreInTurn (ring_plan network ring)) (sym (append_assoc before (item ∷ []) rest)) turn))
    where
      of_item : (i : Item) → MayFollow (ring_plan network ring) before i → All (λ a. list_any (λ way. is_of network (way_flow way) a) (ring_ways network ring) ≡ true) (accesses_of_item i)
      of_item (items.Packet p) may = allowed_words ring (message_of p) (may.fit p refl).planned.allowed
      of_item items.Close may = All-nil (λ a. list_any (λ way. is_of network (way_flow way) a) (ring_ways network ring) ≡ true)
