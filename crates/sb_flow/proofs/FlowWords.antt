-- The words of a flow are those of the transactions at its device.
use Rattle.std.proofs.Common.{◌≡◌, ◌≤◌, ◌<◌, ℕ, zero, suc, ◌+◌, ◌*◌, ◌%◌, ◌^◌, Bool, true, false, ◌&&◌, cond, List, [], ◌∷◌, length, get_or, refl, ap, sym, ◌∙◌, arith, None, eq-eqb, length-append}
use Rattle.std.specs.Prelude.{All, ◌==◌, filter, flat_map, map, sum_by, if◌then◌else◌}
use Rattle.std.specs.List.{AllByRecursion, enumerate_from, range_with_len}
use Rattle.std.proofs.Math.Nat.{mul-le-mul_right}
use Rattle.std.proofs.lemmas.Nat.{pow_pos}
use Rattle.std.proofs.lemmas.List.Elements.{filter-append, recursion_from_All}
use Rattle.std.proofs.lemmas.List.Sums.{sum_by-cons}
use Rattle.sb_packet.specs.Accesses.{Access, access_at}
use Rattle.sb_packet.specs.Networks.{NetDevice, NetHost, Network, has_address}
use Rattle.sb_packet.specs.Scripts.{IsTransaction, request_of, script_accesses, transaction_accesses, transaction_message}
use Rattle.sb_packet.specs.Journals.{flow_part, is_at, is_request}
use Rattle.sb_flow.specs.Ways.{is_aimed_at}
use Rattle.sb_flow.specs.Rings.{answered_at, is_answered, is_answered_kind, words_at}
use Rattle.sb_packet.specs.declared.transaction.Txn.{Txn}
use Rattle.sb_packet.specs.declared.transaction.Kind.{Kind}
use Rattle.sb_packet.specs.declared.transaction.Kind.TheVariants.{Read, Write, Posted, Atomic}
use Rattle.sb_flow.specs.Accepted.{misplaced_device, overlapping_device}
use Rattle.sb_flow.proofs.Maps.{sum_by_agree}
use Rattle.sb_flow.proofs.Pages.{device_at-page}
use Rattle.sb_flow.proofs.Apart.{device_at-is}

-- a test that all items of a table pass, or none
filter-constant : {A : Type 0} (p : A → Bool) (f : ℕ → A) (b : Bool) (a n : ℕ) → ((k : ℕ) → k < a + n → p (f k) ≡ b) → length (filter p (map f (range_with_len a n))) ≡ (if b then n else 0)
filter-constant p f true a zero same = refl
filter-constant p f false a zero same = refl
filter-constant p f true a (suc n) same = rw (same a (omega arith)) (ap suc (filter-constant p f true (a + 1) n (λ k h. same k (omega arith))))
filter-constant p f false a (suc n) same = rw (same a (omega arith)) (filter-constant p f false (a + 1) n (λ k h. same k (omega arith)))

-- where a test tells of a transaction whether its words pass, those that pass are the words of the transactions that do
script_count : (host : NetHost) (p : Access → Bool) (passes : Txn → Bool) (i : ℕ) (script : List Txn) → ((t : Txn) → IsTransaction t → (i j : ℕ) → j < t.count → p (access_at (transaction_message host i t) j) ≡ passes t) → AllByRecursion IsTransaction script → length (filter p (flat_map (λ q. transaction_accesses host q.0 q.1) (enumerate_from i script))) ≡ sum_by (λ t. if passes t then t.count else 0) script
script_count host p passes i [] tells lines = refl
script_count host p passes i (t ∷ script) tells lines =
    ap length (filter-append p (transaction_accesses host i t) (flat_map (λ q. transaction_accesses host q.0 q.1) (enumerate_from (i + 1) script)))
    ∙ length-append (filter p (transaction_accesses host i t)) (filter p (flat_map (λ q. transaction_accesses host q.0 q.1) (enumerate_from (i + 1) script)))
    ∙ rw (filter-constant p (access_at (transaction_message host i t)) (passes t) 0 t.count (λ k h. tells t lines.0 i k (omega arith)), script_count host p passes (i + 1) script tells lines.1) (sym (sum_by-cons (λ t. if passes t then t.count else 0) t script))

-- a transaction asks
pub request_asks : (kind : Kind) → is_request (request_of kind) ≡ true
request_asks Read = refl
request_asks Write = refl
request_asks Posted = refl
request_asks (Atomic type) = refl

-- a word of a transaction begins in the transaction's page
within : (j count word at : ℕ) → j < count → 0 < word → at + count * word ≤ 4096 → at + j * word < 4096
within j count word at h some page = let most : suc j * word ≤ count * word = mul-le-mul_right word h in omega arith

-- a word of a transaction is at the device that the transaction is aimed at
word_at : (network : Network) (d : ℕ) (host : NetHost) (i j : ℕ) (t : Txn) → misplaced_device network ≡ None → IsTransaction t → j < t.count → is_at network d (access_at (transaction_message host i t) j) ≡ is_aimed_at network d t
word_at network d host i j t placed line h = rw (request_asks t.kind, device_at-page network t.addr (j * 2 ^ t.size) placed (within j t.count (2 ^ t.size) (t.addr % 4096) h (pow_pos t.size) line.page)) refl

-- two tests, one after the other
filter-filter : {A : Type 0} (p q : A → Bool) (xs : List A) → filter q (filter p xs) ≡ filter (λ x. p x && q x) xs
filter-filter p q [] = refl
filter-filter p q (x ∷ xs) = by (p x) (q x) refl refl (filter-filter p q xs)
  where
    by : (b c : Bool) → p x ≡ b → q x ≡ c → filter q (filter p xs) ≡ filter (λ x. p x && q x) xs → filter q (cond b (x ∷ filter p xs) (filter p xs)) ≡ cond (b && c) (x ∷ filter (λ x. p x && q x) xs) (filter (λ x. p x && q x) xs)
    by true true is also rest = rw (also, rest) refl
    by true false is also rest = rw (also, rest) refl
    by false c is also rest = rest

-- a word of a transaction is of a flow where the transaction's address is in the range of the flow's device
of_flow : (network : Network) (host : NetHost) (d : ℕ) (device : NetDevice) (t : Txn) (i j : ℕ) → misplaced_device network ≡ None → overlapping_device network ≡ None → d < length network.devices → IsTransaction t → j < t.count → ((host.id == host.id) && is_at network d (access_at (transaction_message host i t) j)) ≡ has_address t.addr (get_or network.devices d device)
of_flow network host d device t i j placed apart there line h =
    rw (eq-eqb host.id host.id refl) (word_at network d host i j t placed line h ∙ device_at-is network t.addr d device apart there)

-- The words of a flow, by transactions.
pub flow_words : (network : Network) (host : NetHost) (d : ℕ) (device : NetDevice) → misplaced_device network ≡ None → overlapping_device network ≡ None → d < length network.devices → All IsTransaction host.script → length (flow_part network host d (script_accesses host)) ≡ sum_by (words_at (get_or network.devices d device)) host.script
flow_words network host d device placed apart there lines =
    script_count host (λ a. (a.host == host.id) && is_at network d a) (λ t. has_address t.addr (get_or network.devices d device)) 0 host.script
    (λ t line i j h. of_flow network host d device t i j placed apart there line h) (recursion_from_All IsTransaction host.script lines)

-- and those of them that are answered
pub flow_answered : (network : Network) (host : NetHost) (d : ℕ) (device : NetDevice) → misplaced_device network ≡ None → overlapping_device network ≡ None → d < length network.devices → All IsTransaction host.script → length (filter (λ a. is_answered a.op) (flow_part network host d (script_accesses host))) ≡ sum_by (answered_at (get_or network.devices d device)) host.script
flow_answered network host d device placed apart there lines =
    ap length (filter-filter (λ a. (a.host == host.id) && is_at network d a) (λ a. is_answered a.op) (script_accesses host))
    ∙ script_count host (λ a. ((a.host == host.id) && is_at network d a) && is_answered a.op) (λ t. has_address t.addr (get_or network.devices d device) && is_answered_kind t.kind) 0 host.script
    (λ t line i j h. rw (of_flow network host d device t i j placed apart there line h) refl) (recursion_from_All IsTransaction host.script lines)
    ∙ sum_by_agree (λ t. if has_address t.addr (get_or network.devices d device) && is_answered_kind t.kind then t.count else 0) (answered_at (get_or network.devices d device)) host.script (λ t. one (has_address t.addr (get_or network.devices d device)) (is_answered_kind t.kind) t.count)
  where
    one : (b c : Bool) (n : ℕ) → (if b && c then n else 0) ≡ (if c then (if b then n else 0) else 0)
    one true true n = refl
    one true false n = refl
    one false true n = refl
    one false false n = refl

-- The same by the transactions' own devices.
pub flow_transactions : (network : Network) (host : NetHost) (d : ℕ) → misplaced_device network ≡ None → All IsTransaction host.script → length (flow_part network host d (script_accesses host)) ≡ sum_by (λ t. if is_aimed_at network d t then t.count else 0) host.script
flow_transactions network host d placed lines =
    script_count host (λ a. (a.host == host.id) && is_at network d a) (is_aimed_at network d) 0 host.script
    (λ t line i j h. rw (eq-eqb host.id host.id refl) (word_at network d host i j t placed line h)) (recursion_from_All IsTransaction host.script lines)
