-- What holds of the script of the host with some id, and of what a flow asks for.
use Rattle.std.proofs.Common.{◌≡◌, ◌≢◌, ◌<◌, ℕ, zero, suc, ◌/◌, ◌^◌, Bool, true, false, cond, List, [], ◌∷◌, refl, sym, ap, ◌∙◌, arith, subst}
use Rattle.std.specs.Prelude.{◌==◌, All, AllPairs, Option, Some, None, get_or}
use Rattle.std.specs.List.{find, enumerate_from}
use Rattle.std.specs.Option.{option_map_or}
use Rattle.std.proofs.lemmas.Bool.Decides.{nat_tests}
use Rattle.std.proofs.lemmas.List.Elements.{All-nil, All-head, All-tail, All-filter}
use Rattle.std.proofs.lemmas.List.Kept.{AllPairs-filter}
use Rattle.sb_packet.specs.Accesses.{Access, access_at}
use Rattle.sb_packet.specs.Networks.{NetHost, Network}
use Rattle.sb_packet.specs.Scripts.{transaction_message, transaction_accesses, script_accesses}
use Rattle.sb_packet.specs.Journals.{is_request, flow_part}
use Rattle.sb_link.specs.RingPlans.{NetFlow}
use Rattle.sb_packet.specs.declared.transaction.Kind.{Kind}
use Rattle.sb_packet.specs.declared.transaction.Kind.TheVariants.{Read, Write, Posted, Atomic}
use Rattle.sb_packet.proofs.Lists.{All-made, All-joined, AllPairs-head, AllPairs-tail}
use Rattle.sb_packet.proofs.ReplyAddresses.{reply_addresses_rise, reply_addresses_tell}
use Rattle.sb_link.proofs.Truths.{same_number}
use Rattle.sb_flow.proofs.FlowWords.{request_asks}
use Rattle.sb_laws.specs.Flows.{is_of, words_of_flow, words_of_script, asked_words}
use Rattle.sb_laws.specs.Layouts.{HasScripts}

-- what is found passes the test, and is one of the list
pub found_fact : {A : Type 0} (P : A → Type 0) (test : A → Bool) (xs : List A) (x : A) → find test xs ≡ Some x → All P xs → (test x ≡ true) × P x
found_fact P test [] x e h = absurd (cc)
found_fact {A} P test (y ∷ ys) x e h = by_test (test y) refl e (λ later. found_fact P test ys x later (All-tail P y ys h))
  where
    by_test : (b : Bool) → test y ≡ b → cond b (Some y) (find test ys) ≡ Some x → (find test ys ≡ Some x → (test x ≡ true) × P x) → (test x ≡ true) × P x
    by_test true t e later = let same : y ≡ x = cc in (subst (λ (z : A). test z ≡ true) same t, subst P same (All-head P y ys h))
    by_test false t e later = later e

-- all words of a script ask
script_words_ask : (host : NetHost) → All (λ a. is_request a.op ≡ true) (script_accesses host)
script_words_ask host = All-joined (λ a. is_request a.op ≡ true) (λ p. transaction_accesses host p.0 p.1) (enumerate_from 0 host.script)
    (λ k p below. All-made (λ a. is_request a.op ≡ true) (access_at (transaction_message host (get_or (enumerate_from 0 host.script) k p).0 (get_or (enumerate_from 0 host.script) k p).1)) (get_or (enumerate_from 0 host.script) k p).1.count (λ j inside. request_asks (get_or (enumerate_from 0 host.script) k p).1.kind))

other_number : (m n : ℕ) → m ≢ n → (m == n) ≡ false
other_number m n other = grind (arith, nat_tests)

-- where no two hosts have one id, each is found by its own
pub found_by_id : (hosts : List NetHost) → AllPairs (λ a b. a.id ≢ b.id) hosts → All (λ host. find (λ h. h.id == host.id) hosts ≡ Some host) hosts
found_by_id [] apart k d below = absurd (omega arith)
found_by_id (host ∷ hosts) apart zero d below = ap (λ (b : Bool). cond b (Some host) (find (λ (h : NetHost). h.id == host.id) hosts)) (same_number host.id)
found_by_id (host ∷ hosts) apart (suc k) d below =
    let other = get_or hosts k d in
    ap (λ (b : Bool). cond b (Some host) (find (λ (h : NetHost). h.id == other.id) hosts)) (other_number host.id other.id (AllPairs-head (λ a b. a.id ≢ b.id) host hosts apart k d (omega arith)))
    ∙ found_by_id hosts (AllPairs-tail (λ a b. a.id ≢ b.id) host hosts apart) k d (omega arith)

module _ (network : Network) (scripts : HasScripts network) where
  -- what holds of each host's script holds of the script of any id, which may be none
  script_fact : (P : ℕ → List Access → Type 0) → ((id : ℕ) → P id []) → All (λ host. P host.id (script_accesses host)) network.hosts → (id : ℕ) → P id (words_of_script network id)
  script_fact P none each id = by_found (find (λ h. h.id == id) network.hosts) refl
    where
      by_found : (o : Option NetHost) → find (λ h. h.id == id) network.hosts ≡ o → P id (option_map_or script_accesses o [])
      by_found None e = none id
      by_found (Some host) e =
          let is = found_fact (λ host. P host.id (script_accesses host)) (λ h. h.id == id) network.hosts host e each in
          let own : (host.id == id) ≡ true = is.0 in
          let same : host.id ≡ id = grind (arith, nat_tests) in
          subst (λ (n : ℕ). P n (script_accesses host)) same is.1

  pub script_asks : (id : ℕ) → All (λ a. is_request a.op ≡ true) (words_of_script network id)
  script_asks = script_fact (λ id list. All (λ a. is_request a.op ≡ true) list) (λ id. All-nil (λ (a : Access). is_request a.op ≡ true)) (λ k d below. script_words_ask (get_or network.hosts k d))

  pub script_rises : (id : ℕ) → AllPairs (λ a b. a.src < b.src) (words_of_script network id)
  script_rises = script_fact (λ id list. AllPairs (λ a b. a.src < b.src) list) (λ id i j d below inside. absurd (omega arith)) (λ k d below. reply_addresses_rise (get_or network.hosts k d) (scripts.transactions k d below))

  pub script_told : (id : ℕ) → All (λ a. a.src / 2 ^ 40 ≡ id) (words_of_script network id)
  script_told = script_fact (λ id list. All (λ a. a.src / 2 ^ 40 ≡ id) list) (λ id. All-nil (λ (a : Access). a.src / 2 ^ 40 ≡ id)) (λ k d below. reply_addresses_tell (get_or network.hosts k d) (scripts.transactions k d below) (scripts.few k d below))

  -- so of what a flow asks for
  pub asked_asks : (f : NetFlow) → All (λ a. is_request a.op ≡ true) (asked_words network f)
  asked_asks f = All-filter (is_of network f) (λ a. is_request a.op ≡ true) (words_of_script network f.host) (script_asks f.host)

  pub asked_rises : (f : NetFlow) → AllPairs (λ a b. a.src < b.src) (asked_words network f)
  asked_rises f = AllPairs-filter (λ a b. a.src < b.src) (is_of network f) (words_of_script network f.host) (script_rises f.host)

  pub asked_told : (f : NetFlow) → All (λ a. a.src / 2 ^ 40 ≡ f.host) (asked_words network f)
  asked_told f = All-filter (is_of network f) (λ a. a.src / 2 ^ 40 ≡ f.host) (words_of_script network f.host) (script_told f.host)

  -- what a host's script has for a device is what the flow asks for
  pub own_script : All (λ host. (d : ℕ) → (let f : NetFlow = record { host = host.id; device = d } in flow_part network host d (script_accesses host) ≡ asked_words network f)) network.hosts
  own_script k h below d =
      let host = get_or network.hosts k h in
      let f : NetFlow = record { host = host.id; device = d } in
      ap (λ (o : Option NetHost). words_of_flow network f (option_map_or script_accesses o [])) (sym (found_by_id network.hosts scripts.ids k h below))
