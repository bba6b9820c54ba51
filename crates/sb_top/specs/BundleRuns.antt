-- The run of a network, before its report is printed, and what a call leaves beside its text.
use Rattle.std.specs.Prelude.{ℕ, ◌≡◌, List, [], ◌<◌, All}
use Rattle.sb_packet.specs.Accesses.{Access}
use Rattle.sb_packet.specs.declared.entry.Entry.{Entry}
use Rattle.sb_link.specs.RingPlans.{RingPlan}
use Rattle.sb_packet.specs.Journals.{IsLawful}
use Rattle.sb_packet.specs.Networks.{Network}
use Rattle.sb_packet.specs.Answers.{run_results}
use Rattle.sb_flow.specs.Rings.{IsCarried}
use Rattle.sb_laws.specs.NetworkLayouts.{ring_count}
use Rattle.sb_net.specs.Legs.{first_plans}
use Rattle.sb_net.specs.Settled.{SettledSide, TellsRun}
use Rattle.sb_net.specs.Spent.{network_moves}
use Rattle.sb_text.specs.Told.{FitsNetwork}
use Rattle.sb_link.specs.declared.fabric.Fabric as fabrics

-- What a call leaves beside its text.

-- what a call leaves beside its text: the journal, the plans of the rings that the fabric made, and the words that each of these carried
pub record Effects : Type 0 where
  pub journal : List Entry
  pub made : List RingPlan
  pub carried : ℕ → List Access

-- what it leaves in a journal and a fabric
abbrev pub effects_in : {F T U : Type 0} → fabrics.Ghosts F T U → F → List Entry → Effects
effects_in fabric f journal = record { journal = journal; made = fabric.made f; carried = fabric.carried f }

-- nothing was run: the journal is empty, and no ring was made
pub record IsUntouched (effects : Effects) : Type 0 where
  pub no_entry : effects.journal ≡ []
  pub no_ring : effects.made ≡ []

-- A network was run, and leaves this journal and these rings: the journal is one legal history of a byte memory per device, which has each word of the scripts that is aimed at a device once, and those of one host at one device in order; each ring of the network was made by its plan, and carried just the words of its flows; and the rounds were no more than the rings' budgets allow.
pub record RanNetwork (network : Network) (effects : Effects) : Type 0 where
  pub lawful : IsLawful network effects.journal
  pub rings : effects.made ≡ first_plans network (ring_count network)
  pub carried : (ring : ℕ) → ring < ring_count network → IsCarried network effects.journal ring (effects.carried ring)
  pub rounds : All (λ e. e.round < network_moves network) effects.journal

-- A network was run, and what remains of it tells what the journal says, of all its hosts and devices.
pub record HasRunAs (network : Network) (effects : Effects) (settled : SettledSide) : Type 0 where
  pub ran : RanNetwork network effects
  pub tells : TellsRun network effects.journal settled
  pub fits : FitsNetwork network (run_results network effects.journal)
