-- The new entries of one device more were put behind the journal.
use Rattle.std.proofs.Common.{◌≡◌, ◌<◌, ◌+◌, ◌-◌, ◌++◌, ℕ, List, length, take, drop, set, sym, ap, ◌∙◌, append_assoc, arith}
use Rattle.std.specs.Prelude.{flat_map, slice_index_or}
use Rattle.std.specs.List.{range_with_len}
use Rattle.std.proofs.lemmas.List.{ext_get_or, get_or-map, get_or-set_other, get_or-set_same, length-append, length-drop, length-set}
use Rattle.std.proofs.Math.Seq.{take-length}
use Rattle.std.proofs.lemmas.List.FromFn.{get_or-range_with_len, length-map-range_with_len, length-range_with_len}
use Rattle.sb_packet.specs.declared.entry.Entry.{Entry}
use Rattle.sb_member.specs.Groups.{dealt_nodes, grouped_nodes}
use Rattle.sb_member.specs.Joints.{node_at}
use Rattle.sb_member.proofs.RingsJoined.{below_not, same_or_not}
use Rattle.sb_net.specs.Recorded.{counts_from, entries_behind, member_entries}
use Rattle.sb_net.proofs.CollectedPlaces.{places_more, places_room}
use Rattle.sb_net.proofs.collecting.collect.Goals as goal

-- a part of a list from a place on, up to its end
rest_of : (list : List Entry) (k : ℕ) → take (length list - k) (drop k list) ≡ drop k list
rest_of list k = ap (λ n. take n (drop k list)) (sym (length-drop k list)) ∙ take-length (drop k list)

-- the slice of a device's entries that is put behind the journal
piece : (entries served : List Entry) (seen was : ℕ) → entries ≡ served → seen ≡ was → take (length entries - seen) (drop seen entries) ≡ drop was served
piece entries served seen was is same = rest_of entries seen ∙ ap (λ k. drop k entries) same ∙ ap (λ (list : List Entry). drop was list) is

pub add_all-requires : goal.add_all-requires
add_all-requires g c =
    let nodes = dealt_nodes (grouped_nodes c.args.groups.now) in
    let first = c.args.first in
    let was = c.args.collected.now in
    let d = c.loop-device.device in
    let i = c.loop-device.invariant in
    let is = piece c.served-entries.result.now (member_entries (node_at nodes (first + d))) (slice_index_or c.loop-device.collected d 0) (slice_index_or was d 0) c.served-entries.ensures.entries (i.4 d (omega arith)) in
    let few = ap (λ (list : List Entry). length list) is in
    let lt = c.loop-device-test.true in
    let same = i.2 in
    let room = places_room (entries_behind first was nodes) d (length was) (omega (arith, lt, same)) in
    let spare = i.1 in
    let all = c.requires.room in
    record { room = omega (arith, few, room, spare, all) }

pub loop-device-preserved : goal.loop-device-preserved
loop-device-preserved g c =
    let nodes = dealt_nodes (grouped_nodes c.args.groups.now) in
    let first = c.args.first in
    let was = c.args.collected.now in
    let d = c.loop-device.device in
    let i = c.loop-device.invariant in
    let before = c.loop-device.collected in
    let f = entries_behind first was nodes in
    let so_far = flat_map f (range_with_len 0 d) in
    let served = c.served-entries.result.now in
    let is = piece served (member_entries (node_at nodes (first + d))) (slice_index_or before d 0) (slice_index_or was d 0) c.served-entries.ensures.entries (i.4 d (omega arith)) in
    let few = ap (λ (list : List Entry). length list) is in
    let lt = c.loop-device-test.true in
    let same = i.2 in
    let one = ap (λ (list : List Entry). length list) (places_more f d) ∙ length-append so_far (f d) in
    let spare = i.1 in
    let less = c.add_all.ensures.spare in
    let len : length (set before d (length served)) ≡ length was = length-set before d (length served) ∙ i.2 in (
      c.add_all.ensures.entries ∙ ap (λ list. c.loop-device.journal.entries ++ list) is ∙ ap (λ list. list ++ f d) i.0 ∙ append_assoc c.args.journal.now.entries so_far (f d)
          ∙ sym (ap (λ list. c.args.journal.now.entries ++ list) (places_more f d)),
      omega (arith, one, few, spare, less),
      len,
      (λ k below. same_or_not k d
          (λ e. ap (λ n. slice_index_or (set before d (length served)) n 0) e ∙ get_or-set_same before d (length served) 0 (omega (arith, lt))
          ∙ ap (λ (list : List Entry). length list) c.served-entries.ensures.entries ∙ ap (λ n. length (member_entries (node_at nodes (first + n)))) (sym e))
          (λ differs. get_or-set_other before d k (length served) 0 differs ∙ i.3 k (below_not k d below differs))),
      (λ k above. get_or-set_other before d k (length served) 0 (λ e. absurd (omega (arith, above, e))) ∙ i.4 k (omega (arith, above))),
    )

pub returns-clause-collected : goal.returns-clause-collected
returns-clause-collected g c =
    let nodes = dealt_nodes (grouped_nodes c.args.groups.now) in
    let first = c.args.first in
    let was = c.args.collected.now in
    let i = c.loop-device.invariant in
    let out = c.loop-device-test.false in
    let same = i.2 in
    let f : ℕ → ℕ = λ d. length (member_entries (node_at nodes (first + d))) in
    ext_get_or 0 c.loop-device.collected (counts_from first (length was) nodes) (i.2 ∙ sym (length-map-range_with_len f 0 (length was)))
    (λ k below. let inside : k < length was = omega (arith, below, same) in let plain : 0 + k ≡ k = omega arith in
    i.3 k (omega (arith, below, out)) ∙ sym (get_or-map f (range_with_len 0 (length was)) k 0 0 (omega (arith, inside, length-range_with_len 0 (length was)))
    ∙ ap f (get_or-range_with_len 0 (length was) k 0 inside ∙ plain)))
