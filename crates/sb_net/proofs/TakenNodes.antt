-- Nodes that are taken apart, one after another.
use Rattle.std.proofs.Common.{◌≡◌, ℕ, ◌+◌, ◌<◌, List, [], ◌∷◌, ◌++◌, length, map, set, reverse, refl, sym, ap, ◌∙◌, subst, arith, append_assoc, append-nil, ◌≤◌}
use Rattle.std.specs.Prelude.{All, Option, Some, flat_map, slice_index_or, vec_capacity}
use Rattle.std.specs.Option.{option_map}
use Rattle.std.proofs.lemmas.List.{get_or-map, length-append, length-map, length-reverse, map-append, map-set, nil_from_length, reverse-append, reverse-reverse}
use Rattle.std.proofs.lemmas.Grind.{flat_map-append}
use Rattle.sb_packet.proofs.Lists.{All-left, All-right}
use Rattle.sb_link.specs.declared.ends.RxEnd as rx
use Rattle.sb_node.specs.Sides.{RingSide, ring_side}
use Rattle.sb_host.specs.Progress.{TransactionsSide}
use Rattle.sb_device.specs.declared.device_state.DeviceState.{DeviceState}
use Rattle.sb_member.specs.Ends.{ports_of, rings_of}
use Rattle.sb_member.specs.declared.member.Member.{Member}
use Rattle.sb_member.specs.declared.member.Member.TheVariants.{Host, Router, Device}
use Rattle.sb_net.specs.declared.settling.apart.Apart.{Apart}
use Rattle.sb_net.specs.Apart.{HasRoomFor, IsRoomFor, IsTakenApart, end_places, member_memories, member_transactions, memories_of, put_by, ring_ahead, ring_behind}
use Rattle.sb_net.proofs.PutBy.{put_append, put_length}

-- an end that is put is a ring that is put
pub end_put : {U : Type 0} (rx : rx.Ghosts U) (places after : List (Option U)) (end : U) (ring : RingSide) → ring_side rx end ≡ ring → after ≡ set places (rx.planned end).ring (Some end)
    → end_places rx after ≡ set (end_places rx places) (ring_behind ring) (Some ring)
end_put rx places after end ring is put = ap (end_places rx) put ∙ map-set (option_map (ring_side rx)) places (rx.planned end).ring (Some end)
    ∙ ap (λ r. set (end_places rx places) (ring_behind r) (Some r)) is

-- what holds of all that things are mapped to holds of them, mapped
pub mapped_all : {A B : Type 0} (P : B → Type 0) (f : A → B) (xs : List A) → All P (map f xs) → All (λ x. P (f x)) xs
mapped_all P f xs all = λ k d lt. subst P (get_or-map f xs k d (f d) lt) (all k (f d) (omega (arith, lt, length-map xs f)))

-- there are as many places for ends as ends were put
pub ends_stay : {U : Type 0} (rx : rx.Ghosts U) (xs : List RingSide) (places after : List (Option U)) → end_places rx after ≡ put_by ring_behind xs (end_places rx places) → length after ≡ length places
ends_stay rx xs places after put = sym (length-map after (option_map (ring_side rx))) ∙ ap (λ list. length list) put ∙ put_length ring_behind xs (end_places rx places) ∙ length-map places (option_map (ring_side rx))

-- what a list that is turned round is mapped to
map_reverse : {A B : Type 0} (f : A → B) (xs : List A) → map f (reverse xs) ≡ reverse (map f xs)
map_reverse f [] = refl
map_reverse f (x ∷ xs) = ap (map f) (reverse-append (x ∷ []) xs) ∙ map-append f (reverse xs) (x ∷ []) ∙ ap (λ list. list ++ f x ∷ []) (map_reverse f xs) ∙ sym (reverse-append (f x ∷ []) (map f xs))

module _ {F T U : Type 0} where
  -- a node tells of one host at most, and of one device at most
  one_told : (m : Member F T U) → reverse (member_transactions m) ≡ member_transactions m
  one_told (Host h) = refl
  one_told (Router r) = refl
  one_told (Device d) = refl

  one_memory : (m : Member F T U) → reverse (member_memories m) ≡ member_memories m
  one_memory (Host h) = refl
  one_memory (Router r) = refl
  one_memory (Device d) = refl

  -- Of some nodes those are left to be taken apart; what the others tell stands there from the last one on.
  pub record AreTakenSoFar (rx : rx.Ghosts U) (nodes left : List (Member F T U)) (before after : Apart F T U) : Type 0 where
    pub done : List (Member F T U)
    pub split : nodes ≡ left ++ done
    pub ports : after.ports.items ≡ put_by ring_ahead (flat_map ports_of done) before.ports.items
    pub ends : end_places rx after.ends.items ≡ put_by ring_behind (flat_map rings_of done) (end_places rx before.ends.items)
    pub hosts : after.hosts.items ≡ reverse (flat_map member_transactions done)
    pub memories : memories_of after.devices.items ≡ reverse (flat_map member_memories done)
    pub host_room : vec_capacity after.hosts ≡ vec_capacity before.hosts
    pub device_room : vec_capacity after.devices ≡ vec_capacity before.devices

  pub none_taken : (rx : rx.Ghosts U) (nodes : List (Member F T U)) (before : Apart F T U) → before.hosts.items ≡ [] → before.devices.items ≡ [] → AreTakenSoFar rx nodes nodes before before
  none_taken rx nodes before no_hosts no_devices = record {
    done = [];
    split = sym (append-nil nodes);
    ports = refl;
    ends = refl;
    hosts = no_hosts;
    memories = ap memories_of no_devices;
    host_room = refl;
    device_room = refl;
  }

  module _ (rx : rx.Ghosts U) (nodes left new : List (Member F T U)) (node : Member F T U) (before mid : Apart F T U) (so_far : AreTakenSoFar rx nodes left before mid) (is : left ≡ new ++ node ∷ []) where
    regrouped_split : nodes ≡ new ++ (node ∷ so_far.done)
    regrouped_split = so_far.split ∙ ap (λ list. list ++ so_far.done) is ∙ append_assoc new (node ∷ []) so_far.done

    -- all that nodes have is what the first ones have, what the next one has, and what those have that were taken
    parts : {A : Type 0} (f : Member F T U → List A) → flat_map f nodes ≡ flat_map f new ++ (f node ++ flat_map f so_far.done)
    parts f = ap (flat_map f) regrouped_split ∙ flat_map-append f new (node ∷ so_far.done)

    lengths : {A : Type 0} (f : Member F T U → List A) → length (flat_map f so_far.done) + length (f node) ≤ length (flat_map f nodes)
    lengths f =
        let all = ap (λ list. length list) (parts f) in
        let two = length-append (flat_map f new) (f node ++ flat_map f so_far.done) in
        let one = length-append (f node) (flat_map f so_far.done) in
        omega (arith, all, two, one)

    next_of : {A : Type 0} (f : Member F T U → List A) (P : A → Type 0) → All P (flat_map f nodes) → All P (f node)
    next_of f P all = All-left P (f node) (flat_map f so_far.done) (All-right P (flat_map f new) (f node ++ flat_map f so_far.done) (subst (λ list. All P list) (parts f) all))

    -- there is room for the next node
    pub room_for_next : IsRoomFor nodes before → HasRoomFor node mid
    room_for_next room = record {
      ports = subst (λ n. All (λ port. ring_ahead port < n) (ports_of node)) (sym (ap (λ list. length list) so_far.ports ∙ put_length ring_ahead (flat_map ports_of so_far.done) before.ports.items))
          (next_of ports_of (λ port. ring_ahead port < length before.ports.items) room.ports);
      ends = subst (λ n. All (λ ring. ring_behind ring < n) (rings_of node)) (sym (ends_stay rx (flat_map rings_of so_far.done) before.ends.items mid.ends.items so_far.ends))
          (next_of rings_of (λ ring. ring_behind ring < length before.ends.items) room.ends);
      hosts =
          let few = lengths member_transactions in
          let long = ap (λ list. length list) so_far.hosts ∙ length-reverse (flat_map member_transactions so_far.done) in
          let same = so_far.host_room in let fits = room.hosts in
          omega (arith, few, long, same, fits);
      devices =
          let few = lengths member_memories in
          let long = sym (length-map mid.devices.items (λ state. state.memory)) ∙ ap (λ list. length list) so_far.memories ∙ length-reverse (flat_map member_memories so_far.done) in
          let same = so_far.device_room in let fits = room.devices in
          omega (arith, few, long, same, fits);
    }

    -- and one node more is taken
    pub one_more_taken : (after : Apart F T U) → IsTakenApart rx node mid after → AreTakenSoFar rx nodes new before after
    one_more_taken after taken = record {
      done = node ∷ so_far.done;
      split = regrouped_split;
      ports = taken.ports ∙ ap (put_by ring_ahead (ports_of node)) so_far.ports ∙ sym (put_append ring_ahead (ports_of node) (flat_map ports_of so_far.done) before.ports.items);
      ends = taken.ends ∙ ap (put_by ring_behind (rings_of node)) so_far.ends ∙ sym (put_append ring_behind (rings_of node) (flat_map rings_of so_far.done) (end_places rx before.ends.items));
      hosts = taken.hosts ∙ ap (λ list. list ++ member_transactions node) so_far.hosts ∙ ap (λ list. reverse (flat_map member_transactions so_far.done) ++ list) (sym (one_told node))
          ∙ sym (reverse-append (member_transactions node) (flat_map member_transactions so_far.done));
      memories = taken.memories ∙ ap (λ list. list ++ member_memories node) so_far.memories ∙ ap (λ list. reverse (flat_map member_memories so_far.done) ++ list) (sym (one_memory node))
          ∙ sym (reverse-append (member_memories node) (flat_map member_memories so_far.done));
      host_room = taken.host_room ∙ so_far.host_room;
      device_room = taken.device_room ∙ so_far.device_room;
    }

  -- where none is left, all are taken; what they tell is turned round
  pub all_taken : (rx : rx.Ghosts U) (nodes left : List (Member F T U)) (before after : Apart F T U) (hosts : List TransactionsSide) (devices : List DeviceState) → AreTakenSoFar rx nodes left before after → length left ≡ 0
      → hosts ≡ reverse after.hosts.items → devices ≡ reverse after.devices.items → (hosts ≡ flat_map member_transactions nodes) × (memories_of devices ≡ flat_map member_memories nodes)
      × (after.ports.items ≡ put_by ring_ahead (flat_map ports_of nodes) before.ports.items) × (end_places rx after.ends.items ≡ put_by ring_behind (flat_map rings_of nodes) (end_places rx before.ends.items))
  all_taken rx nodes left before after hosts devices so_far none hosts_are devices_are =
      let all : so_far.done ≡ nodes = sym (so_far.split ∙ ap (λ list. list ++ so_far.done) (nil_from_length left none)) in (
        hosts_are ∙ ap reverse so_far.hosts ∙ reverse-reverse (flat_map member_transactions so_far.done) ∙ ap (flat_map member_transactions) all,
        ap memories_of devices_are ∙ map_reverse (λ state. state.memory) after.devices.items ∙ ap reverse so_far.memories ∙ reverse-reverse (flat_map member_memories so_far.done) ∙ ap (flat_map member_memories) all,
        so_far.ports ∙ ap (λ list. put_by ring_ahead (flat_map ports_of list) before.ports.items) all,
        so_far.ends ∙ ap (λ list. put_by ring_behind (flat_map rings_of list) (end_places rx before.ends.items)) all,
      )
