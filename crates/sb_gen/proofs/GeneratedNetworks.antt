-- The network of every number is accepted.
use Rattle.std.proofs.Common.{◌≡◌, ◌≤◌, ℕ, true, List, [], ◌∷◌, Option, None, filter, arith, refl}
use Rattle.std.specs.Prelude.{All, codes}
use Rattle.std.proofs.lemmas.List.Elements.{All-cons, All-filter, All-head, All-nil, All-tail}
use Rattle.sb_packet.specs.Networks.{NetHost}
use Rattle.sb_packet.specs.Scripts.{IsTransaction}
use Rattle.sb_flow.specs.Accepted.{IsAccepted, first_told, is_limited, lost_of_host, lost_on_way, route_fault, word_count}
use Rattle.sb_flow.specs.Ways.{aims_at}
use Rattle.sb_gen.specs.Generated.{gen_host, gen_hosts, gen_network}
use Rattle.sb_gen.proofs.TransactionLists.{generated_are_transactions, length-gen_transactions, words_of_script}

limited : (number : ℕ) → is_limited (gen_network number) ≡ true
limited number = simp length-gen_transactions

few_words_in_all : (number : ℕ) → word_count (gen_network number) ≤ 262144
few_words_in_all number =
    let one = words_of_script number 0 2048 in
    let two = words_of_script number 2048 2048 in
    let three = words_of_script number 4096 2048 in
    let four = words_of_script number 6144 2048 in
    omega (arith, one, two, three, four)

-- what holds of each of four things
all_four : {A : Type 0} (P : A → Type 0) (a b c d : A) → P a → P b → P c → P d → All P (a ∷ b ∷ c ∷ d ∷ [])
all_four P a b c d pa pb pc pd =
    All-cons P a (b ∷ c ∷ d ∷ []) pa (All-cons P b (c ∷ d ∷ []) pb (All-cons P c (d ∷ []) pc (All-cons P d [] pd (All-nil P))))

-- nothing is told of a list where nothing is told of its items
nothing_told : {A B : Type 0} (tell : A → Option B) (xs : List A) → All (λ x. tell x ≡ None) xs → first_told tell xs ≡ None
nothing_told tell [] all = refl
nothing_told {A = A} tell (x ∷ xs) all =
    let P : A → Type 0 = λ y. tell y ≡ None in
    let first : tell x ≡ None = All-head P x xs all in
    rw first (nothing_told tell xs (All-tail P x xs all))

-- each router on the ways of a host knows them, whatever the host aims at
on_all_ways : (number h : ℕ) (host : NetHost) → let IsWay : ℕ → Type 0 = λ d. lost_on_way (gen_network number) h d ≡ None in
    IsWay 0 → IsWay 1 → IsWay 2 → IsWay 3 → lost_of_host (gen_network number) h host ≡ None
on_all_ways number h host m0 m1 m2 m3 =
    let network = gen_network number in
    let P : ℕ → Type 0 = λ d. lost_on_way network h d ≡ None in
    let devices = 0 ∷ 1 ∷ 2 ∷ 3 ∷ [] in
    nothing_told (lost_on_way network h) (filter (aims_at network host) devices) (All-filter (aims_at network host) P devices (all_four P 0 1 2 3 m0 m1 m2 m3))

routed : (number : ℕ) → route_fault (gen_network number) ≡ None
routed number =
    let c0 = on_all_ways number 0 (gen_host number 0 (codes "c0")) refl refl refl refl in
    let c1 = on_all_ways number 1 (gen_host number 1 (codes "c1")) refl refl refl refl in
    let c2 = on_all_ways number 2 (gen_host number 2 (codes "c2")) refl refl refl refl in
    let c3 = on_all_ways number 3 (gen_host number 3 (codes "c3")) refl refl refl refl in
    rw (c0, c1, c2, c3) refl

lines_of_hosts : (number : ℕ) → All (λ h. All IsTransaction h.script) (gen_hosts number)
lines_of_hosts number =
    let P : NetHost → Type 0 = λ h. All IsTransaction h.script in
    let lines = generated_are_transactions number in
    all_four P (gen_host number 0 (codes "c0")) (gen_host number 1 (codes "c1")) (gen_host number 2 (codes "c2")) (gen_host number 3 (codes "c3"))
    (lines 0 2048) (lines 2048 2048) (lines 4096 2048) (lines 6144 2048)

pub generated_is_accepted : (number : ℕ) → IsAccepted (gen_network number)
generated_is_accepted number = record {
  limits = limited number;
  names = refl;
  link_names = refl;
  named = refl;
  ids = refl;
  placed = refl;
  apart = refl;
  images = refl;
  widths = refl;
  ends = refl;
  forward = refl;
  linked = refl;
  lines = lines_of_hosts number;
  routes = routed number;
  words = few_words_in_all number;
}
