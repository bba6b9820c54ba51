-- What is new of each device stands behind the journal.
use Rattle.sb_net.specs.Standing.{device_number}
use Rattle.sb_net.proofs.RoundsRecorded.{counts_kept, entries_kept, new_rounds, nothing_new, ordered_on, recorded_on}
use Rattle.sb_net.proofs.standing_laws.rounds_are_recorded.Goals as goal

pub returns-clause-recorded : goal.returns-clause-recorded
returns-clause-recorded g c = λ network joints round before turned after moved journal stands turns meets recorded. recorded_on network joints round before turned after moved stands turns meets journal recorded

pub returns-clause-rounds : goal.returns-clause-rounds
returns-clause-rounds g c = λ network joints round before turned after moved stands turns meets. new_rounds network joints round before turned after moved stands turns meets

pub returns-clause-in_order : goal.returns-clause-in_order
returns-clause-in_order g c = λ network joints round before turned after moved journal stands turns meets ordered early. ordered_on network joints round before turned after moved stands turns meets journal ordered early

pub returns-clause-none : goal.returns-clause-none
returns-clause-none g c = λ network joints round before turned after moved stands turns meets still. nothing_new network joints round before turned after moved stands turns meets still

pub returns-clause-kept : goal.returns-clause-kept
returns-clause-kept g c = λ network joints turned after d meets. entries_kept joints turned after meets (device_number network d)

pub returns-clause-counts_kept : goal.returns-clause-counts_kept
returns-clause-counts_kept g c = λ network joints turned after meets. counts_kept network joints turned after meets
