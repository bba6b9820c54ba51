-- The network that was built has run on threads.
use Rattle.std.proofs.Common.{◌∙◌}
use Rattle.std.proofs.Math.Nat.{le_trans}
use Rattle.sb_flow.specs.NetworkOf.{network_of}
use Rattle.sb_tests.proofs.nets.run_at.Goals as goal

pub settle-settled-requires-clause-ran : goal.settle-settled-requires-clause-ran
settle-settled-requires-clause-ran g c κs =
    let network = network_of c.args.bundle.now in (
      network,
      c.run_at.new.journal.entries,
      c.run_at.ensures.run network (record {
        built = c.in_ok-net.ensures.built;
        empty = c.reserve.ensures.entries ∙ c.new-journal.ensures.empty;
        room = le_trans c.in_ok-net.ensures.built.accepted.words c.in_ok-reserve.ensures.room;
      }),
      c.in_ok-net.ensures.made,
      c.in_ok-net.ensures.unsettled,
    )
