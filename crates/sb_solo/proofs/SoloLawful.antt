-- A solo journal is a lawful history of its script.
use Rattle.std.proofs.Common.{◌≡◌, ◌<◌, ℕ, zero, suc, List, [], ◌∷◌, ap, sym, ◌∙◌, refl, arith, subst, Bool, true, false, length}
use Rattle.std.specs.Prelude.{◌==◌, ◌&&◌, filter, flat_map, All, get_or}
use Rattle.std.proofs.lemmas.List.Elements.{All-nil, All-cons, All-tail, All-weaker}
use Rattle.sb_packet.specs.Accesses.{Access, access_at, accesses_of, message_accesses}
use Rattle.sb_packet.specs.Messages.{Message, message_of}
use Rattle.sb_packet.specs.Scripts.{IsTransaction, script_accesses}
use Rattle.sb_packet.specs.Journals.{journal_accesses, flow_part, is_at, is_in_round_order, IsPlaced, IsLawful}
use Rattle.sb_solo.specs.Solo.{solo_network, solo_host, IsSoloJournal}
use Rattle.sb_packet.specs.declared.entry.Entry.{Entry}
use Rattle.sb_packet.specs.declared.transaction.Txn.{Txn}
use Rattle.sb_packet.proofs.Lists.{All-pieces, filter_all, filter_none}
use Rattle.sb_packet.proofs.Opcodes.{some_words}
use Rattle.sb_packet.specs.Networks.{NetHost}
use Rattle.std.proofs.lemmas.Bool.Decides.{nat_tests}
use Rattle.std.proofs.lemmas.List.FromFn.{get_or-map-range_with_len, length-map-range_with_len}
use Rattle.sb_solo.proofs.SoloWords.{words_of_entries, aimed_words, is_in_flow, words_of_journal, no_entries, aimed_in_flow, flow_of_script, none_elsewhere}

-- at each device the journal has the words that the script has there, in its order
words_in_script_order : (script : List Txn) (journal : List Entry) → All IsTransaction script → IsSoloJournal script journal → (d : ℕ)
    → flow_part (solo_network script) (solo_host script) d (journal_accesses journal d) ≡ flow_part (solo_network script) (solo_host script) d (script_accesses (solo_host script))
words_in_script_order script journal all is zero =
    ap (filter (is_in_flow script 0)) (words_of_journal script journal is)
    ∙ filter_all (is_in_flow script 0) (aimed_words script 0 script) (aimed_in_flow script 0 script all)
    ∙ sym (flow_of_script script 0 script all)
words_in_script_order script journal all is (suc d) =
    ap (λ (entries : List Entry). filter (is_in_flow script (suc d)) (flat_map (λ e. accesses_of e.packet) entries)) (no_entries journal d is.one_device)
    ∙ sym (filter_none (is_in_flow script (suc d)) (script_accesses (solo_host script)) (none_elsewhere script d 0 script all))

-- what holds of all words of a message holds of its first
first_word : (P : Access → Type 0) (m : Message) → 0 < m.count → All P (message_accesses m) → P (access_at m 0)
first_word P m some all =
    let there : 0 < length (message_accesses m) = rw length-map-range_with_len some in
    subst P (get_or-map-range_with_len (access_at m) 0 m.count 0 0 (access_at m 0) some refl) (all 0 (access_at m 0) there)

both : (a b : Bool) → (a && b) ≡ true → (a ≡ true) × (b ≡ true)
both true b h = (refl, h)
both false b h = absurd (cc)

-- an entry whose words are all in the flow to the memory stands where it may
placed_entry : (script : List Txn) (e : Entry) → e.device ≡ 0 → All (λ a. is_in_flow script 0 a ≡ true) (accesses_of e.packet) → IsPlaced (solo_network script) e
placed_entry script e there flow =
    let first : (e.packet.cmd.host == 0) ≡ true = (both _ _ (first_word (λ a. is_in_flow script 0 a ≡ true) (message_of e.packet) (some_words e.packet.cmd.op e.packet.cmd.len) flow)).0 in
    let host : e.packet.cmd.host ≡ 0 = grind (arith, nat_tests) in
    record {
      host = (0, omega arith, sym host);
      device = rw there (omega arith);
      aimed = rw there (All-weaker (λ a. is_in_flow script 0 a ≡ true) (λ a. is_at (solo_network script) 0 a ≡ true) (λ a passes. (both _ _ passes).1) (accesses_of e.packet) flow);
      narrow = rw there e.packet.fits;
    }

-- entries of one round at one device stand in order
in_one_round : (journal : List Entry) → All (λ e. e.round ≡ 0) journal → All (λ e. e.device ≡ 0) journal → is_in_round_order journal ≡ true
in_one_round [] rounds devices = refl
in_one_round (a ∷ []) rounds devices = refl
in_one_round (a ∷ b ∷ rest) rounds devices =
    let a_round : a.round ≡ 0 = rounds 0 a (omega arith) in
    let b_round : b.round ≡ 0 = rounds 1 b (omega arith) in
    let a_device : a.device ≡ 0 = devices 0 a (omega arith) in
    let b_device : b.device ≡ 0 = devices 1 b (omega arith) in
    rw (a_round, b_round, a_device, b_device) (in_one_round (b ∷ rest) (All-tail (λ e. e.round ≡ 0) a (b ∷ rest) rounds) (All-tail (λ e. e.device ≡ 0) a (b ∷ rest) devices))

pub solo_lawful : (script : List Txn) (journal : List Entry) → All IsTransaction script → IsSoloJournal script journal → IsLawful (solo_network script) journal
solo_lawful script journal all is =
    let Keeps : NetHost → Type 0 = λ host. (d : ℕ) → flow_part (solo_network script) host d (journal_accesses journal d) ≡ flow_part (solo_network script) host d (script_accesses host) in
    let flow : All (λ a. is_in_flow script 0 a ≡ true) (flat_map (λ (e : Entry). accesses_of e.packet) journal) = rw (words_of_entries script journal is) (aimed_in_flow script 0 script all) in
    let flows = All-pieces (λ a. is_in_flow script 0 a ≡ true) (λ (e : Entry). accesses_of e.packet) journal flow in
    record {
      in_script_order = All-cons Keeps (solo_host script) [] (words_in_script_order script journal all is) (All-nil Keeps);
      at_target = λ k d below. placed_entry script (get_or journal k d) (is.one_device k d below) (flows k d below);
      in_round_order = in_one_round journal is.first_round is.one_device;
    }
