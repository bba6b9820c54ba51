-- A run under way: what holds before each round, and what follows of a round.
use Rattle.std.proofs.Common.{◌≡◌, ◌≤◌, ◌<◌, ◌+◌, ◌-◌, ◌++◌, ℕ, Bool, true, false, List, [], length, refl, sym, ap, subst, ◌∙◌, arith}
use Rattle.std.specs.Prelude.{◌^◌, ◌==◌, All, IsTrue, filter, flat_map, slice_index_or}
use Rattle.std.specs.List.{range_with_len}
use Rattle.std.proofs.lemmas.List.{length-append}
use Rattle.std.proofs.lemmas.List.Elements.{All-append, All-nil, All-weaker}
use Rattle.std.proofs.lemmas.List.FromFn.{get_or-map-range_with_len, length-map-range_with_len}
use Rattle.sb_packet.specs.Journals.{is_in_round_order, Ledger}
use Rattle.sb_packet.specs.Networks.{Network}
use Rattle.sb_packet.specs.declared.entry.Entry.{Entry}
use Rattle.sb_flow.specs.Accepted.{IsAccepted, word_count}
use Rattle.sb_member.specs.Joints.{HaveAllMet, MeetAlong, node_at}
use Rattle.sb_member.specs.Members.{IsWholeMember}
use Rattle.sb_member.specs.declared.joint.Joint.{Joint}
use Rattle.sb_member.specs.declared.member.Member.{Member}
use Rattle.sb_net.specs.Recorded.{IsRecorded, counts_from, device_entries, entries_behind, entries_from, entry_counts, member_entries, new_entries}
use Rattle.sb_net.specs.RingEnds.{AreLinked}
use Rattle.sb_net.specs.Running.{HasGone, HasRun, IsReady}
use Rattle.sb_net.specs.Spent.{network_moves, spent}
use Rattle.sb_net.specs.Standing.{StandsFor}
use Rattle.sb_net.proofs.LaterNets.{linked, stands_all_met, stands_turned}
use Rattle.sb_net.proofs.RoundsRecorded.{new_rounds, ordered_on, recorded_on, recorded_still, served_more}
use Rattle.sb_net.proofs.PromisesKept.{at_moment, has_entries}
use Rattle.sb_net.proofs.StandstillEnds.{met_still}
use Rattle.sb_net.proofs.Standstills.{whole_standstill}
use Rattle.sb_net.proofs.EndingNodes.{ended_is_over}
use Rattle.sb_net.proofs.SpendingBounds.{moves_are_small, nodes_are_few, spent_within}
use Rattle.sb_net.proofs.SpendingMeetings.{meetings_do_nothing}
use Rattle.sb_net.proofs.SpendingRounds.{round_adds}
use Rattle.sb_net.proofs.JournalRoom.{journal_within}

-- a round with the answer that a test found
pub gone_by : {F T U : Type 0} {number : ℕ} {before after : List (Member F T U)} {answer found : Bool} → answer ≡ found → HasGone number before after answer → HasGone number before after found
gone_by {number = number} {before = before} {after = after} is gone = subst (λ moved. HasGone number before after moved) is gone

-- Before the round of a number: the nodes stand, the journal has what the devices served, and no more rounds were made than what was spent.
pub record IsUnderWay {F T U : Type 0} (network : Network) (first start number : ℕ) (collected : List ℕ) (joints : List Joint) (nodes : List (Member F T U)) (journal : Ledger) : Type 0 where
  pub accepted : IsAccepted network
  pub stands : StandsFor network joints nodes
  pub met : HaveAllMet joints (length joints) nodes
  pub first_device : first ≡ length network.hosts + length network.routers
  pub collected_is : collected ≡ entry_counts network nodes
  pub recorded : IsRecorded network journal.entries nodes
  pub in_order : IsTrue (is_in_round_order journal.entries)
  pub early : All (λ e. e.round < number) journal.entries
  pub rounds : number ≤ spent joints nodes
  -- the journal had so much room from the start
  pub room : journal.spare + length journal.entries ≡ start
  pub enough : word_count network ≤ start

-- A run that is ready is before its first round.
pub ready_starts : {F T U : Type 0} (network : Network) (first : ℕ) (collected : List ℕ) (joints : List Joint) (nodes : List (Member F T U)) (journal : Ledger)
    → IsReady network first collected joints nodes journal → IsUnderWay network first journal.spare 0 collected joints nodes journal
ready_starts network first collected joints nodes journal ready =
    let built = ready.built in
    let none : (P : List Entry → Type 0) → P [] → P journal.entries = λ P. subst P (sym ready.empty) in
    let size : length journal.entries ≡ 0 = ap (λ (list : List Entry). length list) ready.empty in
    record {
      accepted = built.accepted;
      stands = built.stands;
      met = built.met;
      first_device = built.first_device;
      collected_is = built.nothing_collected;
      recorded = record {
        entries = λ d lt. none (λ list. filter (λ e. e.device == d) list ≡ device_entries network nodes d) (sym (built.unserved d lt));
        devices = none (All (λ e. e.device < length network.devices)) (All-nil (λ e. e.device < length network.devices));
      };
      in_order = none (λ list. IsTrue (is_in_round_order list)) refl;
      early = none (All (λ e. e.round < 0)) (All-nil (λ e. e.round < 0));
      rounds = omega arith;
      room = omega (arith, size);
      enough = ready.room;
    }

module _ {F T U : Type 0} (network : Network) (first start number : ℕ) (collected : List ℕ) (joints : List Joint) (before : List (Member F T U)) (journal : Ledger)
    (u : IsUnderWay network first start number collected joints before journal) where
  -- After a round in which no node moved the run is over.
  pub round_ends : (after : List (Member F T U)) → HasGone number before after false → All IsWholeMember after → HasRun network journal.entries joints after
  round_ends after gone whole =
      let stands = stands_turned network joints number before after false u.stands gone.turns whole in
      let met = met_still joints before after gone.turns.same (gone.turns.rested refl) stands.joined u.met in
      let links : AreLinked joints after = linked joints after met in
      let recorded = recorded_still network joints number before after journal.entries u.stands gone.turns u.recorded in
      let entries = has_entries network joints after journal.entries u.accepted stands links recorded u.in_order in
      let moment = at_moment network joints after journal.entries u.accepted stands links recorded in
      let still = whole_standstill network joints before after number (gone.none_moved refl).0 u.accepted stands u.met (gone.none_moved refl).1 journal.entries moment in
      record {
        over = ended_is_over network joints journal.entries after u.accepted stands recorded entries still;
        stands = stands;
        few = All-weaker (λ e. e.round < number) (λ e. e.round < network_moves network)
            (λ e lt. let rounds = u.rounds in let bound = spent_within network joints before u.stands (linked joints before u.met) in omega (arith, lt, rounds, bound)) journal.entries u.early;
      }

  -- There is no round so late that its number doesn't fit.
  pub never_so_late : 2 ^ 32 - 1 ≤ number → ⊥
  never_so_late late =
      let rounds = u.rounds in
      let bound = spent_within network joints before u.stands (linked joints before u.met) in
      let small = moves_are_small network u.accepted in
      absurd (omega (arith, late, rounds, bound, small))

  module _ (turned after : List (Member F T U)) (gone : HasGone number before turned true) (whole : All IsWholeMember turned) (meets : MeetAlong joints turned after) (met : HaveAllMet joints (length joints) after) where
    abbrev pub fresh : List Entry
    fresh = new_entries network (entry_counts network before) after

    stands_then : StandsFor network joints after
    stands_then = stands_all_met network joints turned after (stands_turned network joints number before turned true u.stands gone.turns whole) meets

    recorded_then : IsRecorded network (journal.entries ++ fresh) after
    recorded_then = recorded_on network joints number before turned after true u.stands gone.turns meets journal.entries u.recorded

    -- what is collected are the entries that are new
    pub collects : entries_from first collected after ≡ fresh
    collects =
        let count : length collected ≡ length network.devices = ap (λ (list : List ℕ). length list) u.collected_is ∙ length-map-range_with_len (λ d. length (device_entries network before d)) 0 (length network.devices) in
        ap (λ n. entries_from n collected after) u.first_device
        ∙ ap (λ n. flat_map (entries_behind (length network.hosts + length network.routers) collected after) (range_with_len 0 n)) count
        ∙ ap (λ list. new_entries network list after) u.collected_is

    all_fit : length journal.entries + length fresh ≤ word_count network
    all_fit = let few = journal_within network joints after stands_then (linked joints after met) u.accepted (journal.entries ++ fresh) recorded_then in
        let sizes = length-append journal.entries fresh in omega (arith, few, sizes)

    -- the journal has room for them
    pub has_room : length (entries_from first collected after) ≤ journal.spare
    has_room =
        let same = ap (λ (list : List Entry). length list) collects in
        let all = all_fit in let room = u.room in let enough = u.enough in
        omega (arith, same, all, room, enough)

    -- A round in which a node moved, the meetings behind it, and what was collected lead to the next round.
    pub round_goes_on : (collected_then : List ℕ) (journal_then : Ledger) → collected_then ≡ counts_from first (length collected) after
        → journal_then.entries ≡ journal.entries ++ entries_from first collected after → journal_then.spare + length (entries_from first collected after) ≡ journal.spare
        → IsUnderWay network first start (number + 1) collected_then joints after journal_then
    round_goes_on collected_then journal_then counts entries spare =
        let is : journal_then.entries ≡ journal.entries ++ fresh = entries ∙ ap (λ list. journal.entries ++ list) collects in
        let count : length collected ≡ length network.devices = ap (λ (list : List ℕ). length list) u.collected_is ∙ length-map-range_with_len (λ d. length (device_entries network before d)) 0 (length network.devices) in
        let size = ap (λ (list : List Entry). length list) is ∙ length-append journal.entries fresh in
        let same = ap (λ (list : List Entry). length list) collects in
        let room = u.room in
        let rounds = u.rounds in
        let more = round_adds network joints before turned number u.stands gone.turns in
        let met_same = meetings_do_nothing joints turned after (stands_turned network joints number before turned true u.stands gone.turns whole).joined meets in
        record {
          accepted = u.accepted;
          stands = stands_then;
          met = met;
          first_device = u.first_device;
          collected_is = counts ∙ ap (λ n. counts_from n (length collected) after) u.first_device ∙ ap (λ n. counts_from (length network.hosts + length network.routers) n after) count;
          recorded = subst (λ list. IsRecorded network list after) (sym is) recorded_then;
          in_order = subst (λ list. IsTrue (is_in_round_order list)) (sym is) (ordered_on network joints number before turned after true u.stands gone.turns meets journal.entries u.in_order u.early);
          early = subst (All (λ e. e.round < number + 1)) (sym is) (All-append (λ e. e.round < number + 1) journal.entries fresh
              (All-weaker (λ e. e.round < number) (λ e. e.round < number + 1) (λ e lt. omega (arith, lt)) journal.entries u.early)
              (All-weaker (λ e. e.round ≡ number) (λ e. e.round < number + 1) (λ e here. omega (arith, here)) fresh
              (new_rounds network joints number before turned after true u.stands gone.turns meets)));
          rounds = omega (arith, rounds, more, met_same);
          room = omega (arith, size, same, spare, room);
          enough = u.enough;
        }

    -- what collecting asks: the devices are among the nodes, and no device has fewer entries than were collected
    pub device_range : first + length collected ≤ length after
    device_range =
        let count : length collected ≡ length network.devices = ap (λ (list : List ℕ). length list) u.collected_is ∙ length-map-range_with_len (λ d. length (device_entries network before d)) 0 (length network.devices) in
        let all = stands_then.nodes_count in let at = u.first_device in omega (arith, count, all, at)

    pub none_fewer : (d : ℕ) → d < length collected → slice_index_or collected d 0 ≤ length (member_entries (node_at after (first + d)))
    none_fewer d lt =
        let count : length collected ≡ length network.devices = ap (λ (list : List ℕ). length list) u.collected_is ∙ length-map-range_with_len (λ d. length (device_entries network before d)) 0 (length network.devices) in
        let inside : d < length network.devices = omega (arith, lt, count) in
        let had = ap (λ (list : List ℕ). slice_index_or list d 0) u.collected_is ∙ get_or-map-range_with_len (λ d. length (device_entries network before d)) 0 (length network.devices) d d 0 inside (omega arith) in
        let more = served_more network joints number before turned after true u.stands gone.turns meets d inside in
        let same = ap (λ n. length (member_entries (node_at after (n + d)))) u.first_device in
        omega (arith, had, more, same)

    pub nodes_fit : length after < 2 ^ 64
    nodes_fit = let all = stands_then.nodes_count in let few = nodes_are_few network u.accepted.limits in omega (arith, all, few)
