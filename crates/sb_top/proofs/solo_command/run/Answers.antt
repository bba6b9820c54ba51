-- The script that is run is that of the bundle's one host.
use Rattle.std.proofs.Common.{◌≡◌, ◌∙◌, List, [], ◌∷◌, length, sym, ap, subst}
use Rattle.sb_packet.specs.Memories.{MemoryState}
use Rattle.sb_packet.specs.Networks.{Network}
use Rattle.sb_packet.specs.Answers.{Outcome, RunResults}
use Rattle.sb_packet.specs.declared.transaction.Txn.{Txn}
use Rattle.sb_flow.specs.declared.host_plan.HostPlan.{HostPlan}
use Rattle.sb_solo.specs.Solo.{IsSoloJournal}
use Rattle.sb_solo.specs.SoloRuns.{solo_memory_from, solo_opening, solo_outcomes_from}
use Rattle.sb_solo.proofs.SoloReports.{first_script, solo_fits}
use Rattle.sb_solo.proofs.SoloResults.{solo_results_are}
use Rattle.sb_top.proofs.solo_command.run.Goals as goal

pub returns-clause-tells : goal.returns-clause-tells
returns-clause-tells c =
    let script = c.args.script in
    let same : c.as_slice.result.now ≡ script = c.as_slice.ensures ∙ ap (λ (h : HostPlan). h.script) c.index.ensures
    ∙ first_script c.in_ok-bundle.bundle.hosts.items script c.index.result.now (ap (λ (n : Network). n.hosts) c.in_ok-bundle.ensures.network) in
    let ran = c.in_ok-run.ensures in
    let packets = subst (λ s. IsSoloJournal s c.run_script.new.journal.entries) same ran.journal in
    let outcomes = ran.outcomes ∙ ap (λ (s : List Txn). solo_outcomes_from s 0 solo_opening s) same in
    let memory = ran.memory ∙ ap (λ (s : List Txn). solo_memory_from s 0 solo_opening s) same in
    solo_results_are script c.run_script.new.journal.entries c.requires.transactions packets
    ∙ ap (λ (o : List Outcome). let r : RunResults = record { outcomes = o ∷ []; images = (solo_memory_from script 0 solo_opening script).bytes ∷ [] } in r) (sym outcomes)
    ∙ ap (λ (m : MemoryState). let r : RunResults = record { outcomes = c.in_ok-run.run'.outcomes.outcomes ∷ []; images = m.bytes ∷ [] } in r) (sym memory)

pub returns-clause-fits : goal.returns-clause-fits
returns-clause-fits c =
    let script = c.args.script in
    let same : c.as_slice.result.now ≡ script = c.as_slice.ensures ∙ ap (λ (h : HostPlan). h.script) c.index.ensures
    ∙ first_script c.in_ok-bundle.bundle.hosts.items script c.index.result.now (ap (λ (n : Network). n.hosts) c.in_ok-bundle.ensures.network) in
    let ran = c.in_ok-run.ensures in
    let packets = subst (λ s. IsSoloJournal s c.run_script.new.journal.entries) same ran.journal in
    let memory = ran.memory ∙ ap (λ (s : List Txn). solo_memory_from s 0 solo_opening s) same in
    solo_fits script c.run_script.new.journal.entries c.requires.transactions packets (ap (λ (m : MemoryState). length m.bytes) (sym memory) ∙ ran.size)
