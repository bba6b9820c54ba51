-- A fault of the entries is one of the report.
use Rattle.sb_flow.specs.NetworkOf.{network_of}
use Rattle.sb_check.proofs.FollowLemmas.{entries_faulty}
use Rattle.sb_check.proofs.checking.judge.Goals as goal

pub returns-in-Err-clause-faulty : goal.returns-in-Err-clause-faulty
returns-in-Err-clause-faulty c =
    let read = c.in_ok-count.ensures.read in
    entries_faulty (network_of c.args.bundle.now) c.args.report.now _ read.0 c.in-Err.fault c.names_are_names.ensures c.requires.short read.3
    (c.in-Err.ensures.fault c.args.report.now read.0 read.4 read.1 read.3.spelled) (c.in-Err.ensures.unlawful read.0 read.4 read.1)
