-- What the devices of a network serve in a round is recorded behind the journal.
use Rattle.std.proofs.Common.{length-append, ◌≡◌, ℕ, zero, suc, ◌<◌, ◌≤◌, Bool, false, List, [], ◌∷◌, ◌++◌, length, drop, set, refl, sym, ap, ◌∙◌, subst, arith}
use Rattle.std.specs.Prelude.{map, filter, All, IsTrue, slice_index_or}
use Rattle.std.specs.List.{range_with_len}
use Rattle.std.proofs.Math.Seq.{drop-append_seam, drop-length}
use Rattle.std.proofs.lemmas.List.Elements.{All-append, All-weaker, filter-append}
use Rattle.std.proofs.lemmas.List.FromFn.{get_or-map-range_with_len}
use Rattle.sb_packet.specs.Journals.{is_in_round_order}
use Rattle.sb_packet.specs.Networks.{Network}
use Rattle.sb_packet.specs.declared.entry.Entry.{Entry}
use Rattle.sb_link.specs.declared.answers.Turn.{Turn}
use Rattle.sb_port.specs.Ports.{PortSide}
use Rattle.sb_node.specs.Sides.{RingSide}
use Rattle.sb_device.specs.Devices.{IsJournalled}
use Rattle.sb_member.specs.Ends.{member_with_port, member_with_ring}
use Rattle.sb_member.specs.Joints.{HasRingMet, MeetAlong, no_node, node_at}
use Rattle.sb_member.specs.Members.{IsKeptMember, IsRestedMember}
use Rattle.sb_member.specs.declared.joint.Joint.{Joint}
use Rattle.sb_member.specs.declared.member.Member.{Member}
use Rattle.sb_member.specs.declared.member.Member.TheVariants.{Host, Router, Device}
use Rattle.sb_net.specs.Running.{AreNetTurns}
use Rattle.sb_net.specs.Recorded.{IsRecorded, device_entries, member_entries, entry_counts, new_entries}
use Rattle.sb_net.specs.Standing.{IsDeviceNode, StandsFor, device_number}
use Rattle.sb_net.proofs.Collected.{all_collected, follows_later, is_of_device, none_collected, ordered-append, ordered_collected, own_collected}

module _ {F T U : Type 0} where
  -- a meeting serves nothing
  entries_with_port : (m : Member F T U) (k : ℕ) (port : PortSide) → member_entries (member_with_port m k port) ≡ member_entries m
  entries_with_port (Host h) k port = refl
  entries_with_port (Router r) k port = refl
  entries_with_port (Device d) k port = refl

  entries_with_ring : (m : Member F T U) (k : ℕ) (ring : RingSide) → member_entries (member_with_ring m k ring) ≡ member_entries m
  entries_with_ring (Host h) k ring = refl
  entries_with_ring (Router r) k ring = refl
  entries_with_ring (Device d) k ring = refl

  -- another node with the same entries stands at a place
  entries_at : (nodes : List (Member F T U)) (i k : ℕ) (y : Member F T U) → member_entries y ≡ member_entries (node_at nodes i) → member_entries (node_at (set nodes i y) k) ≡ member_entries (node_at nodes k)
  entries_at [] i k y same = refl
  entries_at (x ∷ nodes) zero zero y same = same
  entries_at (x ∷ nodes) zero (suc k) y same = refl
  entries_at (x ∷ nodes) (suc i) zero y same = refl
  entries_at (x ∷ nodes) (suc i) (suc k) y same = entries_at nodes i k y same

  entries_met : (j : Joint) (before after : List (Member F T U)) → HasRingMet j before after → (k : ℕ) → member_entries (node_at after k) ≡ member_entries (node_at before k)
  entries_met j before after h k =
      let a_then = member_with_port (node_at before j.from) j.out h.port_then in
      let b_then = member_with_ring (node_at before j.to) j.into h.ring_then in
      let first : (i : ℕ) → member_entries (node_at (set before j.from a_then) i) ≡ member_entries (node_at before i) =
      λ i. entries_at before j.from i a_then (entries_with_port (node_at before j.from) j.out h.port_then) in
      ap (λ (nodes : List (Member F T U)). member_entries (node_at nodes k)) h.nodes
      ∙ entries_at (set before j.from a_then) j.to k b_then (entries_with_ring (node_at before j.to) j.into h.ring_then ∙ sym (first j.to)) ∙ first k

  pub entries_kept : (joints : List Joint) (before after : List (Member F T U)) → MeetAlong joints before after → (k : ℕ) → member_entries (node_at after k) ≡ member_entries (node_at before k)
  entries_kept [] before after h k = ap (λ (nodes : List (Member F T U)). member_entries (node_at nodes k)) h
  entries_kept (j ∷ joints) before after h k = entries_kept joints h.0 after h.2 k ∙ entries_met j before h.0 h.1 k

  -- so each device has as many entries as before
  same_counts : (network : Network) (before after : List (Member F T U)) → ((k : ℕ) → member_entries (node_at after k) ≡ member_entries (node_at before k)) → (places : List ℕ)
      → map (λ d. length (device_entries network after d)) places ≡ map (λ d. length (device_entries network before d)) places
  same_counts network before after same [] = refl
  same_counts network before after same (d ∷ places) =
      ap (λ (entries : List Entry). length entries ∷ map (λ d. length (device_entries network after d)) places) (same (device_number network d))
      ∙ ap (λ (counts : List ℕ). length (device_entries network before d) ∷ counts) (same_counts network before after same places)

  pub counts_kept : (network : Network) (joints : List Joint) (before after : List (Member F T U)) → MeetAlong joints before after → entry_counts network after ≡ entry_counts network before
  counts_kept network joints before after h = same_counts network before after (entries_kept joints before after h) (range_with_len 0 (length network.devices))

  -- what a device serves in a round stands behind what it served before
  journalled_node : (network : Network) (place round : ℕ) (x y : Member F T U) → IsDeviceNode network place x → IsKeptMember round x y → IsJournalled round place (member_entries x) (member_entries y)
  journalled_node network place round (Device x) (Device y) is k = subst (λ (n : ℕ). IsJournalled round n x.journal.entries y.journal.entries) is.number k.journalled
  journalled_node network place round (Device x) (Host y) is k = absurd k
  journalled_node network place round (Device x) (Router y) is k = absurd k
  journalled_node network place round (Host x) y is k = absurd is
  journalled_node network place round (Router x) y is k = absurd is

  -- where nothing moved nothing was served
  rested_node : (x y : Member F T U) → IsRestedMember x y → member_entries y ≡ member_entries x
  rested_node (Host x) (Host y) r = refl
  rested_node (Router x) (Router y) r = refl
  rested_node (Device x) (Device y) r = ap (λ journal. journal.entries) r.journal
  rested_node (Host x) (Router y) r = absurd r
  rested_node (Host x) (Device y) r = absurd r
  rested_node (Router x) (Host y) r = absurd r
  rested_node (Router x) (Device y) r = absurd r
  rested_node (Device x) (Host y) r = absurd r
  rested_node (Device x) (Router y) r = absurd r

  module _ (network : Network) (joints : List Joint) (round : ℕ) (before turned after : List (Member F T U)) (moved : Bool)
      (s : StandsFor network joints before) (h : AreNetTurns round before turned moved) (met : MeetAlong joints turned after) where
    abbrev n : ℕ
    n = length network.devices

    -- what is new of one device
    abbrev given : ℕ → List Entry
    given d = drop (slice_index_or (entry_counts network before) d 0) (device_entries network after d)

    inside : (d : ℕ) → d < n → device_number network d < length before
    inside d lt = let all = s.nodes_count in omega (arith, lt, all)

    journalled : (d : ℕ) → d < n → IsJournalled round d (device_entries network before d) (device_entries network after d)
    journalled d lt = let k = device_number network d in
        subst (IsJournalled round d (device_entries network before d)) (sym (entries_kept joints turned after met k))
        (journalled_node network d round (node_at before k) (node_at turned k) (s.devices d lt) (h.reached k no_node (inside d lt)))

    counted : (d : ℕ) → d < n → slice_index_or (entry_counts network before) d 0 ≡ length (device_entries network before d)
    counted d lt = get_or-map-range_with_len (λ d. length (device_entries network before d)) 0 n d d 0 lt (omega arith)

    is_added : (d : ℕ) (lt : d < n) → given d ≡ (journalled d lt).added
    is_added d lt = let j = journalled d lt in
        ap (λ (i : ℕ). drop i (device_entries network after d)) (counted d lt)
        ∙ ap (drop (length (device_entries network before d))) (sym j.joined)
        ∙ drop-append_seam (device_entries network before d) j.added

    own : (d : ℕ) → d < n → All (λ e. e.device ≡ d) (given d)
    own d lt = subst (All (λ e. e.device ≡ d)) (sym (is_added d lt)) (journalled d lt).devices

    in_round : (d : ℕ) → d < n → All (λ e. e.round ≡ round) (given d)
    in_round d lt = subst (All (λ e. e.round ≡ round)) (sym (is_added d lt)) (journalled d lt).rounds

    pub new_rounds : All (λ e. e.round ≡ round) (new_entries network (entry_counts network before) after)
    new_rounds = all_collected given n (λ e. e.round ≡ round) in_round 0 n (omega arith)

    pub recorded_on : (journal : List Entry) → IsRecorded network journal before → IsRecorded network (journal ++ new_entries network (entry_counts network before) after) after
    recorded_on journal r = let more = new_entries network (entry_counts network before) after in record {
      entries = λ d lt. let j = journalled d lt in
          filter-append (is_of_device d) journal more
          ∙ ap (λ (list : List Entry). list ++ filter (is_of_device d) more) (r.entries d lt)
          ∙ ap (λ (list : List Entry). device_entries network before d ++ list) (own_collected given n own d 0 n (omega arith) (omega (arith, lt)) (omega arith) ∙ is_added d lt)
          ∙ j.joined;
      devices = All-append (λ e. e.device < n) journal more r.devices
          (all_collected given n (λ e. e.device < n) (λ d lt. All-weaker (λ e. e.device ≡ d) (λ e. e.device < n) (λ e same. omega (arith, same, lt)) (given d) (own d lt)) 0 n (omega arith));
    }

    pub ordered_on : (journal : List Entry) → IsTrue (is_in_round_order journal) → All (λ e. e.round < round) journal
        → IsTrue (is_in_round_order (journal ++ new_entries network (entry_counts network before) after))
    ordered_on journal ordered early =
        ordered-append journal (new_entries network (entry_counts network before) after) ordered (ordered_collected given n own round in_round 0 n (omega arith))
        (λ i x lt k y below. let a = early i x lt in let b = new_rounds k y below in follows_later (slice_index_or journal i x) (slice_index_or (new_entries network (entry_counts network before) after) k y) (omega (arith, a, b)))

    -- where no node moved, nothing is new
    pub nothing_new : moved ≡ false → new_entries network (entry_counts network before) after ≡ []
    nothing_new still = none_collected given n (λ d lt. let k = device_number network d in
        let same : device_entries network after d ≡ device_entries network before d = entries_kept joints turned after met k ∙ rested_node (node_at before k) (node_at turned k) (h.rested still k no_node (inside d lt)) in
        ap (λ (i : ℕ). drop i (device_entries network after d)) (counted d lt) ∙ ap (drop (length (device_entries network before d))) same ∙ drop-length (device_entries network before d)) 0 n (omega arith)

    -- each device has at least as many entries as before
    pub served_more : (d : ℕ) → d < n → length (device_entries network before d) ≤ length (device_entries network after d)
    served_more d lt =
        let j = journalled d lt in
        let size = ap (λ (list : List Entry). length list) (sym j.joined) ∙ length-append (device_entries network before d) j.added in
        omega (arith, size)

  -- where no node moved, a journal that has what was served has it still
  pub recorded_still : (network : Network) (joints : List Joint) (round : ℕ) (before after : List (Member F T U)) (journal : List Entry)
      → StandsFor network joints before → AreNetTurns round before after false → IsRecorded network journal before → IsRecorded network journal after
  recorded_still network joints round before after journal s h r = record {
    entries = λ d lt. let all = s.nodes_count in let k = device_number network d in
        r.entries d lt ∙ sym (rested_node (node_at before k) (node_at after k) (h.rested refl k no_node (omega (arith, lt, all))));
    devices = r.devices;
  }
