-- The example's run halfway; and a router that drops a word where its host sends more than may go over a ring.
use Rattle.std.proofs.Common.{◌≡◌, lit<, ℕ, zero, suc, true, refl, arith, List, [], ◌∷◌}
use Rattle.std.proofs.lemmas.List.Elements.{All-nil, All-from_recursion}
use Rattle.sb_packet.specs.Accesses.{Access, access_at}
use Rattle.sb_packet.specs.Messages.{message_of}
use Rattle.sb_packet.specs.Cuts.{IsSound}
use Rattle.sb_link.specs.Traffic.{item_accesses}
use Rattle.sb_packet.specs.declared.entry.Entry.{Entry}
use Rattle.sb_packet.specs.declared.item.Item.{Item}
use Rattle.sb_packet.specs.declared.item.Item.TheVariants as items
use Rattle.sb_link.specs.Prefixes.{IsPrefix, IsSubsequence, none, kept, left_out}
use Rattle.sb_node.proofs.Answering.{one_of}
use Rattle.sb_laws.specs.Flows.{AlongWay, CarriesItsFlows, Course, asked_words, is_of_ring, words_of_flow}
use Rattle.sb_device.specs.Served.{AreSound}
use Rattle.sb_laws.specs.Moments.{Moment}
use Rattle.sb_laws.specs.Runs.{ForwardsFlow, IsDevice, IsHost, IsMomentOf, KeepsOrder}
use Rattle.sb_laws.specs.Standstills.{MissesAnswer}
use Rattle.sb_laws.proofs.ClosedLists.{EndsAtClose, closes_last}
use Rattle.sb_node.proofs.Subsequences.{same_subsequence}
use Rattle.sb_laws.proofs.Prefixes.{front_prefix, same_prefix}
use Rattle.sb_laws.proofs.ExampleNetwork.{small, asking, write, posted, read, written}
use Rattle.sb_laws.proofs.ExampleLayout.{the_flow, is_request_ring, is_answer_ring, small_layout}
use Rattle.sb_laws.proofs.ExampleRun.{sound_write, sound_read, sound_written, sound_asking}
use Rattle.sb_host.specs.Places.{asked_of}

-- The host has sent all. The router has taken two packets: one went on and was stepped, and the other is held. The first answer waits in its ring.
abbrev pub half_sent : ℕ → List Item
half_sent zero = asking
half_sent (suc zero) = []
half_sent (suc (suc zero)) = items.Packet write ∷ []
half_sent (suc (suc (suc zero))) = items.Packet written ∷ []
half_sent (suc (suc (suc (suc n)))) = []

abbrev pub half_received : ℕ → List Item
half_received zero = items.Packet write ∷ items.Packet posted ∷ []
half_received (suc zero) = []
half_received (suc (suc zero)) = items.Packet write ∷ []
half_received (suc (suc (suc n))) = []

abbrev pub half_held : ℕ → List Access
half_held zero = item_accesses (items.Packet posted ∷ [])
half_held (suc n) = []

abbrev pub halfway : Moment
halfway = record { sent = half_sent; received = half_received; offered = λ r. item_accesses (half_sent r); held = half_held }

abbrev pub first_step : List Entry
first_step = record { round = 1; device = 0; packet = write } ∷ []

half_closes : (r : ℕ) → EndsAtClose (half_sent r)
half_closes zero = refl
half_closes (suc zero) = tt
half_closes (suc (suc zero)) = tt
half_closes (suc (suc (suc zero))) = tt
half_closes (suc (suc (suc (suc n)))) = tt

half_prefix : (r : ℕ) → IsPrefix (half_received r) (half_sent r)
half_prefix zero = front_prefix (items.Packet read ∷ items.Close ∷ []) refl
half_prefix (suc zero) = same_prefix refl
half_prefix (suc (suc zero)) = same_prefix refl
half_prefix (suc (suc (suc zero))) = front_prefix (items.Packet written ∷ []) refl
half_prefix (suc (suc (suc (suc n)))) = same_prefix refl

half_sound : (r : ℕ) → AreSound (half_sent r)
half_sound zero = sound_asking
half_sound (suc zero) = All-nil IsSound
half_sound (suc (suc zero)) = one_of IsSound (message_of write) sound_write
half_sound (suc (suc (suc zero))) = one_of IsSound (message_of written) sound_written
half_sound (suc (suc (suc (suc n)))) = All-nil IsSound

half_carried : (r : ℕ) → is_request_ring r ≡ true → CarriesItsFlows small small_layout.requests halfway r
half_carried zero e = All-from_recursion (λ a. is_of_ring small small_layout.requests 0 a ≡ true) (item_accesses (half_received 0)) (refl, (refl, tt))
half_carried (suc zero) e = absurd (cc)
half_carried (suc (suc zero)) e = All-from_recursion (λ a. is_of_ring small small_layout.requests 2 a ≡ true) (item_accesses (half_received 2)) (refl, tt)
half_carried (suc (suc (suc n))) e = absurd (cc)

half_carried_back : (r : ℕ) → is_answer_ring r ≡ true → CarriesItsFlows small small_layout.answers halfway r
half_carried_back zero e = absurd (cc)
half_carried_back (suc zero) e = All-nil (λ a. is_of_ring small small_layout.answers 1 a ≡ true)
half_carried_back (suc (suc zero)) e = absurd (cc)
half_carried_back (suc (suc (suc n))) e = All-nil (λ a. is_of_ring small small_layout.answers (suc (suc (suc n))) a ≡ true)

-- All promises hold halfway.
pub half_of_small : IsMomentOf small small_layout first_step halfway
half_of_small = record {
  links = λ r. record { in_order = half_prefix r; closes_last = closes_last (half_sent r) (half_closes r) };
  ports = λ r. record { in_order = same_prefix refl; sound = half_sound r; closed = λ e. refl };
  carried = half_carried;
  carried_back = half_carried_back;
  recorded = λ d there. let first : d ≡ 0 = omega arith in rw first refl;
  hosts = one_of (IsHost small small_layout halfway) the_flow (record { in_order = same_prefix refl; closed = λ e. refl });
  devices = one_of (IsDevice small small_layout first_step halfway) the_flow (record { whole = λ sound few. refl });
  routers = one_of (λ f. AlongWay (ForwardsFlow small small_layout.requests halfway f) 0 (2 ∷ [])) the_flow
      (record { in_order = kept none; whole = λ sound few. refl; closed = λ e. absurd (cc) }, tt);
  routers_back = one_of (λ f. AlongWay (ForwardsFlow small small_layout.answers halfway f) 3 (1 ∷ [])) the_flow
      (record { in_order = none; whole = λ sound few. refl; closed = λ e. refl }, tt);
}

-- the requests' direction, where only two words may go over its rings
abbrev pub tight : Course
tight = record small_layout.requests { allowance = λ f. 2 }

abbrev pub tight_items : ℕ → List Item
tight_items zero = asking
tight_items (suc zero) = []
tight_items (suc (suc zero)) = items.Packet write ∷ items.Packet read ∷ items.Close ∷ []
tight_items (suc (suc (suc n))) = []

-- the host has sent three words, and the router has dropped the posted one
abbrev pub dropped : Moment
dropped = record { sent = tight_items; received = tight_items; offered = λ r. item_accesses (tight_items r); held = λ r. [] }

tight_closes : (r : ℕ) → EndsAtClose (tight_items r)
tight_closes zero = refl
tight_closes (suc zero) = tt
tight_closes (suc (suc zero)) = refl
tight_closes (suc (suc (suc n))) = tt

tight_sound : (r : ℕ) → AreSound (tight_items r)
tight_sound zero = sound_asking
tight_sound (suc zero) = All-nil IsSound
tight_sound (suc (suc zero)) = All-from_recursion IsSound (message_of write ∷ message_of read ∷ []) (sound_write, (sound_read, tt))
tight_sound (suc (suc (suc n))) = All-nil IsSound

-- What is promised whatever is dropped holds there.
pub dropped_keeps_order : KeepsOrder small tight dropped (asked_words small)
dropped_keeps_order = record {
  links = λ r. record { in_order = same_prefix refl; closes_last = closes_last (tight_items r) (tight_closes r) };
  ports = λ r. record { in_order = same_prefix refl; sound = tight_sound r; closed = λ e. refl };
  sources = one_of (λ f. IsSubsequence (words_of_flow small f (item_accesses asking)) (asked_words small f)) the_flow (same_subsequence (item_accesses asking));
  routers = one_of (λ f. AlongWay (ForwardsFlow small tight dropped f) 0 (2 ∷ [])) the_flow
      (record { in_order = kept (left_out (kept none)); whole = λ sound few. absurd (omega arith); closed = λ e. refl }, tt);
}

-- The host misses the answer to its read: it has offered it, and nothing has come back.
pub halfway_misses : MissesAnswer small small_layout halfway 0
halfway_misses = record { flow = the_flow; word = access_at (message_of read) 0; is_flow = refl; leaves = refl; offered = (2, lit< tt, refl); answered = refl; missing = refl }
