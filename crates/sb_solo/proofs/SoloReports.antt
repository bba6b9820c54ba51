-- What a script's run tells is what its journal comes to, and of the size of its network.
use Rattle.std.proofs.Common.{◌≡◌, List, [], ◌∷◌, length, sym, ap, subst, arith}
use Rattle.std.specs.Prelude.{All, get_or, map}
use Rattle.sb_packet.specs.Answers.{RunResults, run_results}
use Rattle.sb_packet.specs.Scripts.{IsTransaction}
use Rattle.sb_packet.specs.declared.entry.Entry.{Entry}
use Rattle.sb_packet.specs.declared.transaction.Txn.{Txn}
use Rattle.sb_packet.specs.Networks.{NetHost}
use Rattle.sb_flow.specs.Rows.{host_of}
use Rattle.sb_flow.specs.declared.host_plan.HostPlan.{HostPlan}
use Rattle.sb_text.specs.Told.{FitsNetwork}
use Rattle.sb_solo.specs.Solo.{solo_host, solo_network, IsSoloJournal}
use Rattle.sb_solo.specs.SoloRuns.{solo_memory_from, solo_opening, solo_results}
use Rattle.sb_solo.proofs.SoloCounts.{length-solo_outcomes_from}
use Rattle.sb_solo.proofs.SoloResults.{solo_results_are}

-- the one host of the bundle has the script
pub first_script : (hosts : List HostPlan) (script : List Txn) (h : HostPlan) → map host_of hosts ≡ solo_host script ∷ [] → (get_or hosts 0 h).script ≡ script
first_script [] script h is = absurd (let long = ap (λ (list : List NetHost). length list) is in omega (arith, long))
first_script (x ∷ hosts) script h is = ap (λ (list : List NetHost). (get_or list 0 (solo_host script)).script) is

-- there is an outcome for each transaction, and a byte for each of the memory
pub solo_fits : (script : List Txn) (journal : List Entry) → All IsTransaction script → IsSoloJournal script journal → length (solo_memory_from script 0 solo_opening script).bytes ≡ 65536
    → FitsNetwork (solo_network script) (run_results (solo_network script) journal)
solo_fits script journal plain is size =
    let fits : FitsNetwork (solo_network script) (solo_results script) = record {
      outcomes = ap (λ n. n ∷ []) (length-solo_outcomes_from script 0 solo_opening script);
      images = ap (λ n. n ∷ []) size;
    } in
    subst (λ (r : RunResults). FitsNetwork (solo_network script) r) (sym (solo_results_are script journal plain is)) fits
