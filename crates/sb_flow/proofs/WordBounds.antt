-- No link has more words than all scripts together.
use Rattle.std.proofs.Common.{◌≡◌, ◌≤◌, ◌<◌, ℕ, zero, suc, ◌+◌, Bool, true, false, List, [], ◌∷◌, length, get_or, refl, ap, sym, ◌∙◌, arith}
use Rattle.std.specs.Prelude.{All, map, sum_by}
use Rattle.std.specs.List.{enumerate_from, range_with_len}
use Rattle.std.proofs.lemmas.List.Elements.{All-head, All-tail}
use Rattle.std.proofs.lemmas.List.FromFn.{fill_by_all}
use Rattle.std.proofs.lemmas.List.Sums.{sum_by-cons, sum_by-le-sum_by}
use Rattle.sb_packet.specs.Networks.{NetDevice, NetHost, Network, has_address}
use Rattle.sb_packet.specs.Scripts.{IsTransaction}
use Rattle.sb_packet.specs.declared.transaction.Txn.{Txn}
use Rattle.sb_flow.specs.Accepted.{IsAccepted}
use Rattle.sb_flow.specs.Rings.{answered_at, words_at}
use Rattle.sb_flow.specs.Tables.{HostTable, flow_table_of, host_table_of, paths_of}
use Rattle.sb_flow.specs.Gathered.{all_words_on, counted_words, host_words_on, is_on, words_on}
use Rattle.sb_flow.proofs.Maps.{sum_by_map}
use Rattle.sb_flow.proofs.ScriptSums.{answered_at-le-words, if-le}
use Rattle.sb_flow.proofs.Singles.{sum_by-single}
use Rattle.sb_flow.proofs.Apart.{one_device}
use Rattle.sb_flow.proofs.FlowWords.{flow_answered, flow_words}

-- a sum of sums of two things
sum_by-plus : {A : Type 0} (f g : A → ℕ) (xs : List A) → sum_by (λ x. f x + g x) xs ≡ sum_by f xs + sum_by g xs
sum_by-plus f g [] = refl
sum_by-plus f g (x ∷ xs) = omega (arith, sum_by-cons (λ x. f x + g x) x xs, sum_by-cons f x xs, sum_by-cons g x xs, sum_by-plus f g xs)

-- nothing added up is nothing
pub sum_by-zeros : {A : Type 0} (xs : List A) → sum_by (λ x. 0) xs ≡ 0
sum_by-zeros [] = refl
sum_by-zeros (x ∷ xs) = omega (arith, sum_by-cons (λ x. 0) x xs, sum_by-zeros xs)

-- a table's sum is no more where its entries aren't
sum_range-le : (f g : ℕ → ℕ) (a n : ℕ) → ((k : ℕ) → k < a + n → f k ≤ g k) → sum_by f (range_with_len a n) ≤ sum_by g (range_with_len a n)
sum_range-le f g a zero le = omega arith
sum_range-le f g a (suc n) le = omega (arith, sum_by-cons f a (range_with_len (a + 1) n), sum_by-cons g a (range_with_len (a + 1) n), le a (omega arith), sum_range-le f g (a + 1) n (λ k h. le k (omega arith)))

-- a sum over places is one over what stands there
sum_places : {A : Type 0} (f : A → ℕ) (xs : List A) (d : A) → sum_by (λ k. f (get_or xs k d)) (range_with_len 0 (length xs)) ≡ sum_by f xs
sum_places f xs d =
    sym (sum_by_map f (λ k. get_or xs k d) (range_with_len 0 (length xs))) ∙ ap (sum_by f) (sym (fill_by_all (λ k. get_or xs k d) xs (length xs) d refl (λ k h. refl)))

-- the words of a script at all devices are no more than the script's
script_at_devices : (network : Network) (script : List Txn) → IsAccepted network → sum_by (λ device. sum_by (words_at device) script) network.devices ≤ sum_by (λ t. t.count) script
script_at_devices network [] good = omega (arith, sum_by-zeros network.devices)
script_at_devices network (t ∷ script) good =
    omega (arith, split, sum_by-plus (λ (device : NetDevice). words_at device t) (λ device. sum_by (words_at device) script) network.devices, sum_by-single (has_address t.addr) t.count network.devices (one_device network t.addr good.apart), script_at_devices network script good, sum_by-cons (λ (t : Txn). t.count) t script)
  where
    split : sum_by (λ device. sum_by (words_at device) (t ∷ script)) network.devices ≤ sum_by (λ device. words_at device t + sum_by (words_at device) script) network.devices
    split = sum_by-le-sum_by (λ (device : NetDevice). sum_by (words_at device) (t ∷ script)) (λ device. words_at device t + sum_by (words_at device) script) network.devices (λ device. omega (arith, sum_by-cons (words_at device) t script))

-- a device, where one is wanted for what is missing
no_device : NetDevice
no_device = record { name = []; base = 0; pages = 0; readonly = true; image = [] }

-- what counts of one flow on a link is no more than the flow's words
flow_words-le : (network : Network) (k : ℕ) (up : Bool) (h : ℕ) (host : NetHost) (d : ℕ) → IsAccepted network → All IsTransaction host.script → d < length network.devices → words_on k up (flow_table_of network h host d) ≤ sum_by (words_at (get_or network.devices d no_device)) host.script
flow_words-le network k up h host d good lines there = omega (arith, if-le (is_on k (flow_table_of network h host d)) (counted_words up (flow_table_of network h host d)), counted up)
  where
    counted : (up : Bool) → counted_words up (flow_table_of network h host d) ≤ sum_by (words_at (get_or network.devices d no_device)) host.script
    counted false = omega (arith, flow_words network host d no_device good.placed good.apart there lines)
    counted true = omega (arith, flow_answered network host d no_device good.placed good.apart there lines, sum_by-le-sum_by (answered_at (get_or network.devices d no_device)) (words_at (get_or network.devices d no_device)) host.script (answered_at-le-words (get_or network.devices d no_device)))

-- what goes over a link from one host is no more than its script
host_words-le : (network : Network) (k : ℕ) (up : Bool) (h : ℕ) (host : NetHost) → IsAccepted network → All IsTransaction host.script → host_words_on k up (host_table_of network h host).flows ≤ sum_by (λ t. t.count) host.script
host_words-le network k up h host good lines =
    omega (
      arith,
      sum_by_map (words_on k up) (flow_table_of network h host) (range_with_len 0 (length network.devices)),
      sum_range-le (λ d. words_on k up (flow_table_of network h host d)) (λ d. sum_by (words_at (get_or network.devices d no_device)) host.script) 0 (length network.devices) (λ d there. flow_words-le network k up h host d good lines (omega arith)),
      sum_places (λ (device : NetDevice). sum_by (words_at device) host.script) network.devices no_device,
      script_at_devices network host.script good,
    )

-- what goes over a link from all hosts is no more than all scripts
all_words-le : (network : Network) (k : ℕ) (up : Bool) (s : ℕ) (hosts : List NetHost) → IsAccepted network → All (λ h. All IsTransaction h.script) hosts → all_words_on k up (map (λ p. host_table_of network p.0 p.1) (enumerate_from s hosts)) ≤ sum_by (λ h. sum_by (λ t. t.count) h.script) hosts
all_words-le network k up s [] good lines = omega arith
all_words-le network k up s (host ∷ hosts) good lines =
    omega (
      arith,
      sum_by-cons (λ (h : HostTable). host_words_on k up h.flows) (host_table_of network s host) (map (λ p. host_table_of network p.0 p.1) (enumerate_from (s + 1) hosts)),
      sum_by-cons (λ (h : NetHost). sum_by (λ t. t.count) h.script) host hosts,
      host_words-le network k up s host good (All-head (λ h. All IsTransaction h.script) host hosts lines),
      all_words-le network k up (s + 1) hosts good (All-tail (λ h. All IsTransaction h.script) host hosts lines),
    )

-- The words over a link, and those that are answered, are at most 262,144.
pub words_bounded : (network : Network) (k : ℕ) (up : Bool) → IsAccepted network → all_words_on k up (paths_of network).hosts ≤ 262144
words_bounded network k up good = omega (arith, good.words, all_words-le network k up 0 network.hosts good good.lines)
