-- The transactions of a number, in order: they can be issued, and those from a state on are later ones of the number.
use Rattle.std.proofs.Common.{◌≡◌, ◌≤◌, ℕ, zero, suc, ◌+◌, ◌*◌, List, [], ◌∷◌, ◌++◌, length, ap, arith, refl, ◌∙◌}
use Rattle.std.specs.Prelude.{All, sum_by}
use Rattle.std.specs.List.{range_with_len}
use Rattle.std.proofs.lemmas.List.Elements.{All-cons, All-map, All-nil}
use Rattle.std.proofs.lemmas.List.FromFn.{length-map-range_with_len, map-range_with_len_more}
use Rattle.std.proofs.lemmas.List.Sums.{sum_by-append, sum_by-le}
use Rattle.sb_packet.specs.Scripts.{IsTransaction}
use Rattle.sb_packet.specs.declared.transaction.Txn.{Txn}
use Rattle.sb_gen.specs.Congruence.{draw, state_after}
use Rattle.sb_gen.specs.Drawn.{draws_of, drawn_kind, drawn_transaction}
use Rattle.sb_gen.specs.Generated.{gen_hosts, gen_script, gen_transaction, gen_transactions}
use Rattle.sb_gen.specs.declared.draws.Draws.{Draws}
use Rattle.sb_gen.proofs.DrawnTransactions.{drawn_is_transaction, few_words}
use Rattle.sb_gen.proofs.States.{draw_behind, state_after_more}

-- so many
pub length-gen_transactions : (number first count : ℕ) → length (gen_transactions number first count) ≡ count
unfolding gen_transactions
length-gen_transactions number first count = length-map-range_with_len (gen_transaction number) first count

-- none, and one more
pub no_transactions : (number first : ℕ) → gen_transactions number first 0 ≡ []
unfolding gen_transactions
no_transactions number first = refl

pub transactions_more : (number first count i : ℕ) → first + count ≡ i → gen_transactions number first (count + 1) ≡ gen_transactions number first count ++ gen_transaction number i ∷ []
unfolding gen_transactions
transactions_more number first count i at = map-range_with_len_more (gen_transaction number) first count i at

-- what holds of whatever draws make holds of all transactions
all_ranged : (P : ℕ → Type 0) → ((i : ℕ) → P i) → (first count : ℕ) → All P (range_with_len first count)
all_ranged P each first zero = All-nil P
all_ranged P each first (suc count) = All-cons P first (range_with_len (first + 1) count) (each first) (all_ranged P each (first + 1) count)

pub all_generated : (P : Txn → Type 0) → ((d : Draws) → P (drawn_transaction d)) → (number first count : ℕ) → All P (gen_transactions number first count)
unfolding gen_transactions
all_generated P each number first count =
    All-map P (gen_transaction number) (range_with_len first count) (all_ranged (λ i. P (gen_transaction number i)) (λ i. each (draws_of number i)) first count)

-- they can be issued
pub generated_are_transactions : (number first count : ℕ) → All IsTransaction (gen_transactions number first count)
generated_are_transactions number first count = all_generated IsTransaction drawn_is_transaction number first count

-- six draws from a state on
pub draws_behind : (number m i j : ℕ) → m + i ≡ j → draws_of (state_after number (6 * m)) i ≡ draws_of number j
draws_behind number m i j at =
    let later : (k n : ℕ) → 6 * m + k ≡ n → draw (state_after number (6 * m)) k ≡ draw number n = λ (k n : ℕ) (e : 6 * m + k ≡ n). draw_behind number (6 * m) k ∙ ap (draw number) e in
    let kind = later (6 * i) (6 * j) (omega arith) in
    let size = later (6 * i + 1) (6 * j + 1) (omega arith) in
    let device = later (6 * i + 2) (6 * j + 2) (omega arith) in
    let words = later (6 * i + 3) (6 * j + 3) (omega arith) in
    let page = later (6 * i + 4) (6 * j + 4) (omega arith) in
    let place = later (6 * i + 5) (6 * j + 5) (omega arith) in
    cc

-- transactions from a state on
pub transactions_behind : (number m first at count : ℕ) → m + first ≡ at → gen_transactions (state_after number (6 * m)) first count ≡ gen_transactions number at count
unfolding gen_transactions
transactions_behind number m first at zero e = refl
transactions_behind number m first at (suc count) e =
    let here : gen_transaction (state_after number (6 * m)) first ≡ gen_transaction number at = ap drawn_transaction (draws_behind number m first at e) in
    let behind = transactions_behind number m (first + 1) (at + 1) count (omega arith) in
    cc

-- some transactions, and so many behind them
transactions_then : (number first more count rest : ℕ) → first + count ≡ more → gen_transactions number first (count + rest) ≡ gen_transactions number first count ++ gen_transactions number more rest
unfolding gen_transactions
transactions_then number first more zero rest e =
    let same : first ≡ more = omega arith in
    let none : 0 + rest ≡ rest = omega arith in
    rw (none, same) refl
transactions_then number first more (suc count) rest e =
    let next : suc count + rest ≡ suc (count + rest) = omega arith in
    rw next (ap (λ (xs : List Txn). gen_transaction number first ∷ xs) (transactions_then number (first + 1) more count rest (omega arith)))

sum_then : (f : Txn → ℕ) (number first more count rest : ℕ) → first + count ≡ more → sum_by f (gen_transactions number first (count + rest)) ≡ sum_by f (gen_transactions number first count) + sum_by f (gen_transactions number more rest)
sum_then f number first more count rest e =
    ap (sum_by f) (transactions_then number first more count rest e) ∙ sum_by-append f (gen_transactions number first count) (gen_transactions number more rest)

-- all transactions are those of the four hosts
pub sum_of_hosts : (f : Txn → ℕ) (number : ℕ) → sum_by f (gen_transactions number 0 8192) ≡ sum_by (λ h. sum_by f h.script) (gen_hosts number)
sum_of_hosts f number =
    let one = sum_then f number 0 2048 2048 6144 refl in
    let two = sum_then f number 2048 4096 2048 4096 refl in
    let three = sum_then f number 4096 6144 2048 2048 refl in
    omega (arith, one, two, three)

-- 16 words each at most
pub words_of_script : (number first count : ℕ) → sum_by (λ t. t.count) (gen_transactions number first count) ≤ count * 16
words_of_script number first count =
    let few : All (λ (t : Txn). t.count ≤ 16) (gen_transactions number first count) = all_generated (λ t. t.count ≤ 16) (λ d. few_words (drawn_kind d) d.words) number first count in
    let all = sum_by-le (λ (t : Txn). t.count) 16 (gen_transactions number first count) few in
    rw (length-gen_transactions number first count) at all

-- the script of host h is drawn from the state behind the scripts before it
pub script_of_host : (number h state : ℕ) → state ≡ state_after number (12288 * h) → gen_transactions state 0 2048 ≡ gen_script number h
script_of_host number h state at =
    let draws : 12288 * h ≡ 6 * (2048 * h) = omega arith in
    ap (λ (s : ℕ). gen_transactions s 0 2048) (at ∙ ap (state_after number) draws) ∙ transactions_behind number (2048 * h) 0 (2048 * h) 2048 (omega arith)

pub state_of_next_host : (number h before after : ℕ) → before ≡ state_after number (12288 * h) → after ≡ state_after before 12288 → after ≡ state_after number (12288 * (h + 1))
state_of_next_host number h before after at next =
    let draws : 12288 * h + 12288 ≡ 12288 * (h + 1) = omega arith in
    next ∙ ap (λ (s : ℕ). state_after s 12288) at ∙ state_after_more number (12288 * h) 12288 ∙ ap (state_after number) draws
