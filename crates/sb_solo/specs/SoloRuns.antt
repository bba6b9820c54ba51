-- The run of `solo`, transaction by transaction: what its memory answers, and what it becomes.
use Rattle.std.specs.Prelude.{ℕ, ◌≡◌, ◌+◌, List, [], ◌∷◌, filter_map, if◌then◌else◌}
use Rattle.sb_packet.specs.Accesses.{Access}
use Rattle.sb_packet.specs.Memories.{MemoryState, memory_after, answers_in}
use Rattle.sb_packet.specs.Networks.{has_address, opening_of}
use Rattle.sb_packet.specs.Scripts.{transaction_accesses}
use Rattle.sb_packet.specs.Answers.{Outcome, RunResults, outcome_of, unreached_by}
use Rattle.sb_solo.specs.Solo.{solo_device, solo_host}
use Rattle.sb_solo.specs.declared.solo.ScriptRun.{ScriptRun}
use Rattle.sb_packet.specs.declared.transaction.Txn.{Txn}

-- the memory before the first transaction
unfoldable pub solo_opening : MemoryState
solo_opening = opening_of solo_device

-- the answers to transaction i, from the memory before it
abbrev pub solo_answers : List Txn → ℕ → MemoryState → Txn → List Access
solo_answers script i m t =
    let words = transaction_accesses (solo_host script) i t in
    if has_address t.addr solo_device then filter_map (λ a. a) (answers_in m words) else filter_map (λ a. unreached_by a.op a) words

-- the memory after transaction i
abbrev pub solo_step : List Txn → ℕ → MemoryState → Txn → MemoryState
solo_step script i m t = if has_address t.addr solo_device then memory_after m (transaction_accesses (solo_host script) i t) else m

-- the outcomes of transactions from i on
abbrev pub solo_outcomes_from : List Txn → ℕ → MemoryState → List Txn → List Outcome
solo_outcomes_from script i m [] = []
solo_outcomes_from script i m (t ∷ txns) = outcome_of t.kind (solo_answers script i m t) ∷ solo_outcomes_from script (i + 1) (solo_step script i m t) txns

-- the memory after transactions from i on
abbrev pub solo_memory_from : List Txn → ℕ → MemoryState → List Txn → MemoryState
solo_memory_from script i m [] = m
solo_memory_from script i m (t ∷ txns) = solo_memory_from script (i + 1) (solo_step script i m t) txns

-- what the whole script comes to
abbrev pub solo_results : List Txn → RunResults
solo_results script = record {
  outcomes = solo_outcomes_from script 0 solo_opening script ∷ [];
  images = (solo_memory_from script 0 solo_opening script).bytes ∷ [];
}

-- The run of a script tells what came of its one host, and of its one memory.
abbrev pub TellsAlone : ScriptRun → RunResults → Type 0
TellsAlone run told = told ≡ record { outcomes = run.outcomes.outcomes ∷ []; images = run.memory.bytes ∷ [] }
