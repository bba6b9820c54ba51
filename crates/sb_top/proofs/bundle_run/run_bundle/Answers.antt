-- The run is that of the network that was built of the bundle.
use Rattle.std.proofs.Common.{◌≡◌, ◌≤◌, ◌∙◌, ℕ, [], arith}
use Rattle.sb_packet.specs.Journals.{Ledger}
use Rattle.sb_packet.specs.Networks.{Network}
use Rattle.sb_flow.specs.Accepted.{word_count}
use Rattle.sb_flow.specs.NetworkOf.{network_of}
use Rattle.sb_flow.proofs.Bundles.{accepted}
use Rattle.sb_net.specs.Nets.{CanRun, IsNetOf, NetSide}
use Rattle.sb_top.proofs.bundle_run.run_bundle.Goals as goal

-- a net that was built can run, with an empty journal that has room for its words
can_run : {F T U : Type 0} (network : Network) (net : NetSide F T U) (journal : Ledger) (words : ℕ) → IsNetOf network net → journal.entries ≡ [] → words ≡ word_count network → words ≤ journal.spare → CanRun network net journal
can_run network net journal words built empty counted room = record { built = built; empty = empty; room = omega (arith, counted, room) }

pub run_net-requires-clause-ready : goal.run_net-requires-clause-ready
run_net-requires-clause-ready g c κs within = (
  network_of c.args.bundle.now,
  can_run _ c.in_ok-net.net _ _ c.in_ok-net.ensures.built (c.in_ok-reserve.ensures.entries ∙ c.requires.empty) c.bundle_words.ensures c.in_ok-reserve.ensures.room,
)

pub settle-requires-clause-ran : goal.settle-requires-clause-ran
settle-requires-clause-ran g c κs within =
    let network = network_of c.args.bundle.now in (
      network,
      c.run_net.new.journal.entries,
      c.run_net.ensures.run network (can_run _ c.in_ok-net.net _ _ c.in_ok-net.ensures.built (c.in_ok-reserve.ensures.entries ∙ c.requires.empty) c.bundle_words.ensures c.in_ok-reserve.ensures.room),
      c.in_ok-net.ensures.made,
      c.in_ok-net.ensures.unsettled,
    )

pub returns-clause-run : goal.returns-clause-run
returns-clause-run g c =
    let network = network_of c.args.bundle.now in
    let journal = c.run_net.new.journal.entries in
    let run = c.run_net.ensures.run network (can_run _ c.in_ok-net.net _ _ c.in_ok-net.ensures.built (c.in_ok-reserve.ensures.entries ∙ c.requires.empty) c.bundle_words.ensures c.in_ok-reserve.ensures.room) in record {
      ran = record {
        lawful = run.over.lawful;
        rings = c.settle.ensures.made ∙ c.in_ok-net.ensures.made;
        carried = c.settle.ensures.carried network journal run;
        rounds = run.few;
      };
      tells = c.settle.ensures.tells network journal run;
      fits = c.settle.ensures.fits network journal run (accepted c.args.bundle.now);
    }
