-- In a whole network a round without a move is the end of a whole run.
use Rattle.std.proofs.Common.{◌≡◌, ◌<◌, ℕ, true, List}
use Rattle.std.specs.Prelude.{get_or}
use Rattle.std.proofs.lemmas.List.Elements.{All-weaker}
use Rattle.sb_packet.specs.Networks.{Network}
use Rattle.sb_link.specs.Traffic.{has_close}
use Rattle.sb_packet.specs.declared.entry.Entry.{Entry}
use Rattle.sb_laws.specs.Flows.{way_rings}
use Rattle.sb_laws.specs.Layouts.{Layout, IsLayout}
use Rattle.sb_laws.specs.Runs.{HasAllEnded, IsWholeRun}
use Rattle.sb_laws.specs.Standstills.{IsFinished, IsWholeStandstill, RoundEnd, Stages}
use Rattle.sb_laws.proofs.FlowMembers.{not_true}
use Rattle.sb_laws.proofs.WholeRuns.{whole_run_law}
use Rattle.sb_laws.proofs.Stillness.{finished}
use Rattle.sb_laws.proofs.Windows.{none_misses}

module _ (network : Network) (layout : Layout) (journal : List Entry) (stages : Stages) (s : RoundEnd) (laid : IsLayout network layout) (whole : IsWholeStandstill network layout journal stages s) where
  -- no host waits, so each ring is done
  pub all_finished : (r : ℕ) → r < stages.rings → IsFinished stages s r
  all_finished = finished stages s whole.still (λ r here. not_true (s.waits r) (λ waits.
      none_misses network layout journal stages s laid whole.still whole.moment whole.inside whole.within r (whole.windows r here waits)))

  ended : (r : ℕ) → r < stages.rings → has_close (s.at.received r) ≡ true
  ended r here = (all_finished r here).ended (whole.inside r here).1

  pub all_ended : HasAllEnded layout s.at
  all_ended = record {
    there = λ i d below. All-weaker (λ r. r < stages.rings) (λ r. has_close (s.at.received r) ≡ true) ended (way_rings layout.requests (get_or layout.requests.flows i d)) (whole.within i d below).there;
    back = λ i d below. All-weaker (λ r. r < stages.rings) (λ r. has_close (s.at.received r) ≡ true) ended (way_rings layout.answers (get_or layout.requests.flows i d)) (whole.within i d below).back;
  }

  pub standstill_run : IsWholeRun network layout journal s.at
  standstill_run = whole_run_law network layout journal s.at laid whole.moment all_ended.there all_ended.back
