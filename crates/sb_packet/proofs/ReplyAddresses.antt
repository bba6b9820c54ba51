-- The reply addresses of a script rise from word to word, and tell its host.
use Rattle.std.proofs.Common.{◌≡◌, ◌≤◌, ◌<◌, ℕ, ◌+◌, ◌*◌, ◌/◌, ◌^◌, List, [], ◌∷◌, refl, arith, subst, length}
use Rattle.std.specs.Prelude.{flat_map, All, AllPairs}
use Rattle.std.specs.List.{enumerate_from}
use Rattle.std.proofs.Math.Nat.{mul-le-mul, mul-le-mul_right, pow-le-pow_right}
use Rattle.std.proofs.Math.Pow.{pow_pos}
use Rattle.std.proofs.lemmas.List.Elements.{All-nil, All-append, All-head, All-tail}
use Rattle.sb_packet.specs.Accesses.{Access, access_at}
use Rattle.sb_packet.specs.Networks.{NetHost}
use Rattle.sb_packet.specs.Scripts.{IsTransaction, reply_address, transaction_message, transaction_accesses, script_accesses}
use Rattle.sb_packet.specs.declared.transaction.Txn.{Txn}
use Rattle.sb_packet.proofs.Lists.{All-made}
use Rattle.sb_packet.proofs.RisingReplies.{Rises, rises_words, rises_less, pairs_from_rises}

-- the words of a host's transactions from number i on
abbrev pub words_from : NetHost → ℕ → List Txn → List Access
words_from host i txns = flat_map (λ p. transaction_accesses host p.0 p.1) (enumerate_from i txns)

-- a transaction speaks of at most 2,048 bytes
pub span_of_transaction : (t : Txn) → IsTransaction t → t.count * 2 ^ t.size ≤ 2048
span_of_transaction t is =
    let small : 2 ^ t.size ≤ 2 ^ 3 = pow-le-pow_right (omega arith) is.size in
    let most : t.count * 2 ^ t.size ≤ 256 * 2 ^ 3 = mul-le-mul is.most small in
    most

-- a word lies within its transaction
pub word_within : (size count j : ℕ) → j < count → j * 2 ^ size + 2 ^ size ≤ count * 2 ^ size
word_within size count j below =
    let within : (j + 1) * 2 ^ size ≤ count * 2 ^ size = mul-le-mul_right (2 ^ size) (omega arith) in
    omega (arith, within)

script_rises : (host : NetHost) (i : ℕ) (txns : List Txn) → All IsTransaction txns → Rises (reply_address host.id i) (words_from host i txns)
script_rises host i [] all = tt
script_rises host i (t ∷ txns) all =
    let s = 2 ^ t.size in
    let is : IsTransaction t = All-head IsTransaction t txns all in
    let short : t.count * s ≤ 2048 = span_of_transaction t is in
    let some : 0 < s = pow_pos t.size in
    let base = reply_address host.id i in
    let later = script_rises host (i + 1) txns (All-tail IsTransaction t txns all) in
    let rest = rises_less (base + (0 + t.count) * s) (reply_address host.id (i + 1)) (words_from host (i + 1) txns) (omega arith) later in
    let none : base + 0 * s ≡ base = omega arith in
    subst (λ (n : ℕ). Rises n (words_from host i (t ∷ txns))) none
    (rises_words (access_at (transaction_message host i t)) base s some (λ j. refl) 0 t.count (words_from host (i + 1) txns) rest)

-- each reply address of a script is below all later ones
pub reply_addresses_rise : (host : NetHost) → All IsTransaction host.script → AllPairs (λ a b. a.src < b.src) (script_accesses host)
reply_addresses_rise host all = pairs_from_rises (reply_address host.id 0) (script_accesses host) (script_rises host 0 host.script all)

hosts_told : (host : NetHost) (i : ℕ) (txns : List Txn) → All IsTransaction txns → i + length txns ≤ 65536 → All (λ a. a.src / 2 ^ 40 ≡ host.id) (words_from host i txns)
hosts_told host i [] all few = All-nil (λ a. a.src / 2 ^ 40 ≡ host.id)
hosts_told host i (t ∷ txns) all few =
    let is : IsTransaction t = All-head IsTransaction t txns all in
    let short : t.count * 2 ^ t.size ≤ 2048 = span_of_transaction t is in
    let each : (j : ℕ) → j < t.count → (reply_address host.id i + j * 2 ^ t.size) / 2 ^ 40 ≡ host.id = λ j below.
    let within = word_within t.size t.count j below in
    let some : 0 < 2 ^ t.size = pow_pos t.size in
    omega (arith, within) in
    All-append (λ a. a.src / 2 ^ 40 ≡ host.id) (transaction_accesses host i t) (words_from host (i + 1) txns)
    (All-made (λ a. a.src / 2 ^ 40 ≡ host.id) (access_at (transaction_message host i t)) t.count each)
    (hosts_told host (i + 1) txns (All-tail IsTransaction t txns all) (omega arith))

-- the reply address tells the host
pub reply_addresses_tell : (host : NetHost) → All IsTransaction host.script → length host.script ≤ 65536 → All (λ a. a.src / 2 ^ 40 ≡ host.id) (script_accesses host)
reply_addresses_tell host all few = hosts_told host 0 host.script all (omega arith)
