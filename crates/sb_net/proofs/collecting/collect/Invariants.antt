-- The new entries of the first devices were put behind the journal.
use Rattle.std.proofs.Common.{◌≡◌, ◌≤◌, ◌<◌, ◌+◌, ◌++◌, ℕ, length}
use Rattle.std.specs.Prelude.{flat_map, slice_index_or}
use Rattle.std.specs.List.{range_with_len}
use Rattle.sb_member.specs.Groups.{dealt_nodes, grouped_nodes}
use Rattle.sb_member.specs.Joints.{node_at}
use Rattle.sb_net.specs.Recorded.{entries_behind, member_entries}
use Rattle.sb_net.proofs.collecting.collect.Given as goal

abbrev pub invariant-loop-device : goal.invariant-loop-device
invariant-loop-device g l =
    (l.journal.entries ≡ l.initial.journal.entries ++ flat_map (entries_behind l.first l.initial.collected (dealt_nodes (grouped_nodes l.groups))) (range_with_len 0 l.device))
    × (l.journal.spare + length (flat_map (entries_behind l.first l.initial.collected (dealt_nodes (grouped_nodes l.groups))) (range_with_len 0 l.device)) ≡ l.initial.journal.spare)
    × (length l.collected ≡ length l.initial.collected)
    × ((k : ℕ) → k < l.device → slice_index_or l.collected k 0 ≡ length (member_entries (node_at (dealt_nodes (grouped_nodes l.groups)) (l.first + k))))
    × ((k : ℕ) → l.device ≤ k → slice_index_or l.collected k 0 ≡ slice_index_or l.initial.collected k 0)
