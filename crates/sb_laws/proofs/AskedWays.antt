-- No host asks a device for anything where there is no way: all words of a transaction are at the device that has its address.
use Rattle.std.proofs.Common.{◌≡◌, ◌≤◌, ◌<◌, ℕ, ◌+◌, ◌*◌, ◌/◌, ◌%◌, ◌^◌, Bool, true, false, cond, List, [], ◌∷◌, length, refl, sym, ap, ◌∙◌, arith, subst}
use Rattle.std.specs.Prelude.{◌==◌, ◌||◌, nat_le, nat_lt, filter, All, Option, Some, None, get_or}
use Rattle.std.specs.List.{find, list_any, enumerate_from, position_from, range_with_len}
use Rattle.std.specs.Option.{option_map_or}
use Rattle.std.proofs.Math.Pow.{pow_pos}
use Rattle.std.proofs.lemmas.Bool.Decides.{nat_tests}
use Rattle.std.proofs.lemmas.List.Elements.{All-nil, All-cons, All-head, All-tail, All-weaker, All-contains_itself}
use Rattle.std.proofs.lemmas.List.FromFn.{length-range_with_len, get_or-range_with_len, length-enumerate_from, get_or-enumerate_from}
use Rattle.std.proofs.lemmas.Bool.{and_parts}
use Rattle.sb_packet.specs.Accesses.{access_at}
use Rattle.sb_packet.specs.Networks.{NetHost, NetDevice, Network, device_at, has_address}
use Rattle.sb_packet.specs.Scripts.{IsTransaction, transaction_message, transaction_accesses, script_accesses}
use Rattle.sb_packet.specs.Journals.{device_address}
use Rattle.sb_link.specs.RingPlans.{NetFlow}
use Rattle.sb_flow.specs.Ways.{is_aimed_at, is_some_number, aims_at, host_ways, network_ways, way_links}
use Rattle.sb_packet.specs.declared.transaction.Txn.{Txn}
use Rattle.sb_packet.proofs.Lists.{All-made, All-joined, filter_none}
use Rattle.sb_packet.proofs.ReplyAddresses.{word_within}
use Rattle.sb_link.proofs.Truths.{same_test}
use Rattle.sb_flow.proofs.FlowWords.{request_asks}
use Rattle.sb_flow.proofs.LinkMarks.{list_any-map}
use Rattle.sb_laws.specs.Flows.{is_of, is_same_flow, is_among_flows, asked_words}
use Rattle.sb_laws.specs.NetworkLayouts.{IsRouted, network_flows, way_flow}
use Rattle.sb_laws.proofs.FlowMembers.{not_true, of_device, same_flow_from}
use Rattle.sb_laws.proofs.ListPlaces.{All-enumerated, any_passing, any_joined}
use Rattle.sb_laws.proofs.Journals.{place_below}
use Rattle.sb_laws.proofs.ScriptFacts.{found_fact}

-- tests that agree find the same place
place_same : (t u : NetDevice → Bool) (i : ℕ) (xs : List NetDevice) → All (λ x. t x ≡ u x) xs → position_from t i xs ≡ position_from u i xs
place_same t u i [] same = refl
place_same t u i (x ∷ xs) same = rw (All-head (λ x. t x ≡ u x) x xs same, place_same t u (i + 1) xs (All-tail (λ x. t x ≡ u x) x xs same)) refl

-- a device of whole pages has all addresses of a page, or none
has_page : (a b : ℕ) (d : NetDevice) → d.base % 4096 ≡ 0 → a / 4096 ≡ b / 4096 → has_address a d ≡ true → has_address b d ≡ true
has_page a b d whole same e =
    let parts = and_parts (nat_le d.base a) (nat_lt a (d.base + d.pages * 4096)) e in
    let low_test = parts.0 in
    let high_test = parts.1 in
    let low : d.base ≤ a = grind (arith, nat_tests) in
    let high : a < d.base + d.pages * 4096 = grind (arith, nat_tests) in
    let from : d.base ≤ b = omega (arith, whole, same, low) in
    let to : b < d.base + d.pages * 4096 = omega (arith, whole, same, high) in
    let above : nat_le d.base b ≡ true = grind (arith, nat_tests) in
    let below : nat_lt b (d.base + d.pages * 4096) ≡ true = grind (arith, nat_tests) in
    rw (above, below) refl

module _ (network : Network) where
  -- two addresses of one page are at one device
  one_page : All (λ d. d.base % 4096 ≡ 0) network.devices → (a b : ℕ) → a / 4096 ≡ b / 4096 → device_at network a ≡ device_at network b
  one_page pages a b same = place_same (has_address a) (has_address b) 0 network.devices
      (All-weaker (λ d. d.base % 4096 ≡ 0) (λ d. has_address a d ≡ has_address b d) (λ d whole. same_test (has_address a d) (has_address b d) (has_page a b d whole same) (has_page b a d whole (sym same))) network.devices pages)

  -- so each word of a transaction is where its address is
  pub word_device : All (λ d. d.base % 4096 ≡ 0) network.devices → (t : Txn) → IsTransaction t → (j : ℕ) → j < t.count → device_at network (t.addr + j * 2 ^ t.size) ≡ device_at network t.addr
  word_device pages t is j below =
      let page : t.addr % 4096 + t.count * 2 ^ t.size ≤ 4096 = is.page in
      let within = word_within t.size t.count j below in
      let some : 0 < 2 ^ t.size = pow_pos t.size in
      one_page pages (t.addr + j * 2 ^ t.size) t.addr (omega (arith, page, within, some))

  -- where no transaction of a script is aimed at a device, no word is
  none_asked : All (λ d. d.base % 4096 ≡ 0) network.devices → (f : NetFlow) (host : NetHost) → All IsTransaction host.script → All (λ t. is_aimed_at network f.device t ≡ false) host.script → All (λ a. is_of network f a ≡ false) (script_accesses host)
  none_asked pages f host transactions away = All-joined (λ a. is_of network f a ≡ false) (λ p. transaction_accesses host p.0 p.1) (enumerate_from 0 host.script)
      (All-enumerated (λ p. All (λ a. is_of network f a ≡ false) (transaction_accesses host p.0 p.1)) 0 host.script (λ i t below. of_one (0 + i) (get_or host.script i t) (transactions i t below) (away i t below)))
    where
      of_one : (i : ℕ) (t : Txn) → IsTransaction t → is_aimed_at network f.device t ≡ false → All (λ a. is_of network f a ≡ false) (transaction_accesses host i t)
      of_one i t is elsewhere = All-made (λ a. is_of network f a ≡ false) (access_at (transaction_message host i t)) t.count
          (λ j below. not_true (is_of network f (access_at (transaction_message host i t) j)) (λ e.
          let at = of_device network f (access_at (transaction_message host i t) j) e in
          let asked : device_address (access_at (transaction_message host i t) j) ≡ t.addr + j * 2 ^ t.size = ap (λ (b : Bool). cond b (t.addr + j * 2 ^ t.size) ((access_at (transaction_message host i t) j).src)) (request_asks t.kind) in
          let here : is_aimed_at network f.device t ≡ true = ap (is_some_number f.device) (sym (word_device pages t is j below)) ∙ ap (λ (n : ℕ). is_some_number f.device (device_at network n)) (sym asked) ∙ at in cc))

  -- a transaction is aimed at a device that there is
  aimed_there : (d : ℕ) (t : Txn) → is_aimed_at network d t ≡ true → d < length network.devices
  aimed_there d t e = by_place (device_at network t.addr) refl e
    where
      by_place : (o : Option ℕ) → device_at network t.addr ≡ o → is_some_number d o ≡ true → d < length network.devices
      by_place None is e = absurd (cc)
      by_place (Some k) is e = let below = place_below (has_address t.addr) 0 k network.devices is in let same : k ≡ d = grind (arith, nat_tests) in omega arith

  aims_there : (host : NetHost) (d : ℕ) → aims_at network host d ≡ true → d < length network.devices
  aims_there host d e = some host.script e
    where
      some : (txns : List Txn) → list_any (is_aimed_at network d) txns ≡ true → d < length network.devices
      some [] e = absurd (cc)
      some (t ∷ txns) e = by_test (is_aimed_at network d t) refl e (some txns)
        where
          by_test : (b : Bool) → is_aimed_at network d t ≡ b → (b || list_any (is_aimed_at network d) txns) ≡ true → (list_any (is_aimed_at network d) txns ≡ true → d < length network.devices) → d < length network.devices
          by_test true t' e later = aimed_there d t t'
          by_test false t' e later = later e

  -- a host's way to a device that it aims at is one of the network's
  way_is_there : (h : ℕ) (x : NetHost) → h < length network.hosts → (d : ℕ) → aims_at network (get_or network.hosts h x) d ≡ true →
      (let f : NetFlow = record { host = (get_or network.hosts h x).id; device = d } in is_among_flows f (network_flows network) ≡ true)
  way_is_there h x inside d aims =
      let host = get_or network.hosts h x in
      let f : NetFlow = record { host = host.id; device = d } in
      let there = aims_there host d aims in
      let p : ℕ × NetHost = (h, x) in
      let counted : d < length (range_with_len 0 (length network.devices)) = rw length-range_with_len there in
      let at : get_or (range_with_len 0 (length network.devices)) d d ≡ d = get_or-range_with_len 0 (length network.devices) d d there ∙ omega arith in
      let numbered : h < length (enumerate_from 0 network.hosts) = rw length-enumerate_from inside in
      let element : get_or (enumerate_from 0 network.hosts) h p ≡ (0 + h, host) = get_or-enumerate_from 0 network.hosts h p inside in
      let own : is_same_flow f (record { host = host.id; device = get_or (range_with_len 0 (length network.devices)) d d }) ≡ true = same_flow_from f (record { host = host.id; device = get_or (range_with_len 0 (length network.devices)) d d }) refl (let same = at in grind (arith, nat_tests)) in
      let passing = any_passing (λ e. is_same_flow f (record { host = host.id; device = e })) (aims_at network host) (range_with_len 0 (length network.devices)) d d counted (ap (aims_at network host) at ∙ aims) own in
      let in_host : list_any (λ way. is_same_flow f (way_flow way)) (host_ways network (0 + h) host) ≡ true =
      list_any-map (λ way. is_same_flow f (way_flow way)) (λ e. record { host = host; device = e; links = way_links network (0 + h) e }) (filter (aims_at network host) (range_with_len 0 (length network.devices))) ∙ passing in
      list_any-map (is_same_flow f) way_flow (network_ways network)
      ∙ any_joined (λ way. is_same_flow f (way_flow way)) (λ p. host_ways network p.0 p.1) (enumerate_from 0 network.hosts) h p numbered
      (subst (λ (q : ℕ × NetHost). list_any (λ way. is_same_flow f (way_flow way)) (host_ways network q.0 q.1) ≡ true) (sym element) in_host)

  none_any : (p : Txn → Bool) (txns : List Txn) → list_any p txns ≡ false → All (λ t. p t ≡ false) txns
  none_any p [] e = All-nil (λ t. p t ≡ false)
  none_any p (t ∷ txns) e = by_test (p t) refl e (none_any p txns)
    where
      by_test : (b : Bool) → p t ≡ b → (b || list_any p txns) ≡ false → (list_any p txns ≡ false → All (λ t. p t ≡ false) txns) → All (λ t. p t ≡ false) (t ∷ txns)
      by_test true is e later = absurd (cc)
      by_test false is e later = All-cons (λ t. p t ≡ false) t txns is (later e)

  -- a host and its place
  record Placed (host : NetHost) : Type 0 where
    place : ℕ
    inside : place < length network.hosts
    is : get_or network.hosts place host ≡ host
    transactions : All IsTransaction host.script

  pub all_ways_law : IsRouted network → (f : NetFlow) → is_among_flows f (network_flows network) ≡ false → asked_words network f ≡ []
  all_ways_law routed f none = by_found (find (λ h. h.id == f.host) network.hosts) refl
    where
      placed : All Placed network.hosts
      placed k host below = let inside = All-contains_itself network.hosts k host below in record { place = inside.0; inside = inside.1; is = inside.2; transactions = routed.scripts.transactions k host below }

      by_found : (o : Option NetHost) → find (λ h. h.id == f.host) network.hosts ≡ o → filter (is_of network f) (option_map_or script_accesses o []) ≡ []
      by_found None e = refl
      by_found (Some host) e =
          let found = found_fact Placed (λ h. h.id == f.host) network.hosts host e placed in
          let own = found.0 in
          let same : host.id ≡ f.host = grind (arith, nat_tests) in
          filter_none (is_of network f) (script_accesses host) (none_asked routed.pages f host found.1.transactions (none_any (is_aimed_at network f.device) host.script
          (not_true (aims_at network host f.device) (λ aims.
          let there = way_is_there found.1.place host found.1.inside f.device (ap (λ (h : NetHost). aims_at network h f.device) found.1.is ∙ aims) in
          let id : (get_or network.hosts found.1.place host).id ≡ f.host = ap (λ (h : NetHost). h.id) found.1.is ∙ same in
          let yes = subst (λ (n : ℕ). (let g : NetFlow = record { host = n; device = f.device } in is_among_flows g (network_flows network) ≡ true)) id there in cc))))
