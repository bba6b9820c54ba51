-- At any moment each entry of the journal is of a host, at a device that all its words aim at; so a whole run's journal is lawful.
use Rattle.std.proofs.Common.{◌≡◌, ◌<◌, ℕ, true, List, length, refl, sym, subst, arith}
use Rattle.std.specs.Prelude.{◌==◌, filter, map, All, Contains, IsTrue, get_or}
use Rattle.std.proofs.lemmas.Bool.Decides.{nat_tests}
use Rattle.std.proofs.lemmas.List.Elements.{All-weaker}
use Rattle.std.proofs.lemmas.List.FromFn.{get_or-map-range_with_len, length-map-range_with_len}
use Rattle.sb_packet.specs.Accesses.{Access, access_at, accesses_of}
use Rattle.sb_packet.specs.Messages.{message_of}
use Rattle.sb_packet.specs.Networks.{Network}
use Rattle.sb_packet.specs.Journals.{is_at, IsPlaced, IsLawful}
use Rattle.sb_packet.specs.declared.entry.Entry.{Entry}
use Rattle.sb_packet.specs.declared.packet.Packet.{Packet}
use Rattle.sb_packet.proofs.Lists.{All-pieces, All-kept}
use Rattle.sb_packet.proofs.Opcodes.{some_words}
use Rattle.sb_laws.specs.Layouts.{Layout, IsLayout}
use Rattle.sb_laws.specs.Moments.{Moment}
use Rattle.sb_laws.specs.Runs.{HasAllEnded, HasEntries, IsMomentOf}
use Rattle.sb_laws.proofs.FlowMembers.{of_host, of_device}
use Rattle.sb_laws.proofs.Journals.{Origin, origin}
use Rattle.sb_laws.proofs.WholeRuns.{whole_run_law}

-- what holds of all words of a packet holds of the first: there is one
first_word : (P : Access → Type 0) (p : Packet) → All P (accesses_of p) → P (access_at (message_of p) 0)
first_word P p all =
    let m = message_of p in
    let some : 0 < m.count = some_words p.cmd.op p.cmd.len in
    let inside : 0 < length (accesses_of p) = rw length-map-range_with_len some in
    subst P (get_or-map-range_with_len (access_at m) 0 m.count 0 0 (access_at m 0) some refl) (all 0 (access_at m 0) inside)

-- a word of a flow to a device is at it
at_device_of : (network : Network) (d : ℕ) (a : Access) → Origin network d a → is_at network d a ≡ true
at_device_of network d a o = subst (λ (e : ℕ). is_at network e a ≡ true) o.device (of_device network o.flow a o.of_flow)

module _ (network : Network) (layout : Layout) (journal : List Entry) (m : Moment) (laid : IsLayout network layout) (now : IsMomentOf network layout journal m) (entries : HasEntries network journal) where
  -- all words of an entry are of flows to its device
  entry_origins : All (λ e. All (Origin network e.device) (accesses_of e.packet)) journal
  entry_origins k x below =
      let e = get_or journal k x in
      let d = e.device in
      let there = origin network layout journal m laid now d (entries.devices k x below) in
      let pieces = All-pieces (Origin network d) (λ (f : Entry). accesses_of f.packet) (filter (λ (f : Entry). f.device == d) journal) there in
      All-kept (λ (f : Entry). f.device == d) (λ f. All (Origin network d) (accesses_of f.packet)) journal pieces k x below (let own : (d == d) ≡ true = grind (arith, nat_tests) in own)

  pub placed_entries : All (IsPlaced network) journal
  placed_entries k x below =
      let e = get_or journal k x in
      let origins = entry_origins k x below in
      let first = first_word (Origin network e.device) e.packet origins in
      record {
        host = subst (Contains (map (λ h. h.id) network.hosts)) (sym (of_host network first.flow (access_at (message_of e.packet) 0) first.of_flow)) first.host;
        device = entries.devices k x below;
        aimed = All-weaker (Origin network e.device) (λ a. IsTrue (is_at network e.device a)) (λ a o. at_device_of network e.device a o) (accesses_of e.packet) origins;
        narrow = entries.narrow k x below;
      }

  -- where all rings have given their Close, the journal is one legal history
  pub lawful_journal : HasAllEnded layout m → IsLawful network journal
  lawful_journal ended = record {
    in_script_order = (whole_run_law network layout journal m laid now ended.there ended.back).history;
    at_target = placed_entries;
    in_round_order = entries.in_round_order;
  }
