-- The end of the example's run: all that the laws ask for holds of it.
use Rattle.std.proofs.Common.{◌≡◌, ◌≤◌, ◌<◌, lit≤, lit<, ℕ, zero, suc, true, refl, arith, List, [], ◌∷◌}
use Rattle.std.proofs.lemmas.List.Elements.{All-nil, All-from_recursion}
use Rattle.sb_packet.specs.Messages.{message_of}
use Rattle.sb_packet.specs.Spans.{span_of}
use Rattle.sb_packet.specs.Cuts.{IsSound}
use Rattle.sb_packet.specs.Networks.{width_to}
use Rattle.sb_packet.specs.Journals.{IsLawful}
use Rattle.sb_link.specs.Traffic.{has_close, item_accesses}
use Rattle.sb_packet.specs.declared.item.Item.{Item}
use Rattle.sb_node.proofs.Answering.{one_of}
use Rattle.sb_device.specs.Served.{AreSound}
use Rattle.sb_laws.specs.Moments.{Moment}
use Rattle.sb_laws.specs.Flows.{CarriesItsFlows, is_of_ring, AlongWay}
use Rattle.sb_laws.specs.Runs.{ForwardsFlow, HasAllEnded, HasEnded, HasEntries, IsDevice, IsHost, IsMomentOf}
use Rattle.sb_laws.proofs.Entries.{lawful_journal}
use Rattle.sb_laws.proofs.ClosedLists.{EndsAtClose, closes_last}
use Rattle.sb_node.proofs.Subsequences.{same_subsequence}
use Rattle.sb_laws.proofs.Prefixes.{same_prefix}
use Rattle.sb_laws.proofs.ExampleNetwork.{small, steps, asking, answering, write, posted, read, written, read_back}
use Rattle.sb_laws.proofs.ExampleLayout.{small_is_laid_out, the_flow, is_request_ring, is_answer_ring, small_layout}

-- what went over each ring in the end
abbrev pub all_items : ℕ → List Item
all_items zero = asking
all_items (suc zero) = answering
all_items (suc (suc zero)) = asking
all_items (suc (suc (suc zero))) = answering
all_items (suc (suc (suc (suc n)))) = []

-- all was sent and received, and nothing is held
abbrev pub the_end : Moment
the_end = record { sent = all_items; received = all_items; offered = λ r. item_accesses (all_items r); held = λ r. [] }

each_closes : (r : ℕ) → EndsAtClose (all_items r)
each_closes zero = refl
each_closes (suc zero) = refl
each_closes (suc (suc zero)) = refl
each_closes (suc (suc (suc zero))) = refl
each_closes (suc (suc (suc (suc n)))) = tt

-- all packets are sound
pub sound_write : IsSound (message_of write)
sound_write = record { page = lit≤ tt; border = λ e. absurd (cc); low = lit≤ tt; high = lit≤ tt; exclusive = λ e. absurd (cc) }

sound_posted : IsSound (message_of posted)
sound_posted = record { page = lit≤ tt; border = λ e. absurd (cc); low = lit≤ tt; high = lit≤ tt; exclusive = λ e. absurd (cc) }

pub sound_read : IsSound (message_of read)
sound_read = record { page = lit≤ tt; border = λ e. absurd (cc); low = lit≤ tt; high = lit≤ tt; exclusive = λ e. absurd (cc) }

pub sound_written : IsSound (message_of written)
sound_written = record { page = lit≤ tt; border = λ e. absurd (cc); low = lit≤ tt; high = lit≤ tt; exclusive = λ e. absurd (cc) }

sound_read_back : IsSound (message_of read_back)
sound_read_back = record { page = lit≤ tt; border = λ e. absurd (cc); low = lit≤ tt; high = lit≤ tt; exclusive = λ e. absurd (cc) }

pub sound_asking : AreSound asking
sound_asking = All-from_recursion IsSound (message_of write ∷ message_of posted ∷ message_of read ∷ []) (sound_write, (sound_posted, (sound_read, tt)))

sound_answering : AreSound answering
sound_answering = All-from_recursion IsSound (message_of written ∷ message_of read_back ∷ []) (sound_written, (sound_read_back, tt))

all_sound : (r : ℕ) → AreSound (all_items r)
all_sound zero = sound_asking
all_sound (suc zero) = sound_answering
all_sound (suc (suc zero)) = sound_asking
all_sound (suc (suc (suc zero))) = sound_answering
all_sound (suc (suc (suc (suc n)))) = All-nil IsSound

carried : (r : ℕ) → is_request_ring r ≡ true → CarriesItsFlows small small_layout.requests the_end r
carried zero e = All-from_recursion (λ a. is_of_ring small small_layout.requests 0 a ≡ true) (item_accesses asking) (refl, (refl, (refl, tt)))
carried (suc zero) e = absurd (cc)
carried (suc (suc zero)) e = All-from_recursion (λ a. is_of_ring small small_layout.requests 2 a ≡ true) (item_accesses asking) (refl, (refl, (refl, tt)))
carried (suc (suc (suc n))) e = absurd (cc)

carried_back : (r : ℕ) → is_answer_ring r ≡ true → CarriesItsFlows small small_layout.answers the_end r
carried_back zero e = absurd (cc)
carried_back (suc zero) e = All-from_recursion (λ a. is_of_ring small small_layout.answers 1 a ≡ true) (item_accesses answering) (refl, (refl, tt))
carried_back (suc (suc zero)) e = absurd (cc)
carried_back (suc (suc (suc zero))) e = All-from_recursion (λ a. is_of_ring small small_layout.answers 3 a ≡ true) (item_accesses answering) (refl, (refl, tt))
carried_back (suc (suc (suc (suc n)))) e = absurd (cc)

-- All promises hold at the end.
pub end_of_small : IsMomentOf small small_layout steps the_end
end_of_small = record {
  links = λ r. record { in_order = same_prefix refl; closes_last = closes_last (all_items r) (each_closes r) };
  ports = λ r. record { in_order = same_prefix refl; sound = all_sound r; closed = λ e. refl };
  carried = carried;
  carried_back = carried_back;
  recorded = λ d there. let first : d ≡ 0 = omega arith in rw first refl;
  hosts = one_of (IsHost small small_layout the_end) the_flow (record { in_order = same_prefix refl; closed = λ e. refl });
  devices = one_of (IsDevice small small_layout steps the_end) the_flow (record { whole = λ sound few. refl });
  routers = one_of (λ f. AlongWay (ForwardsFlow small small_layout.requests the_end f) 0 (2 ∷ [])) the_flow
      (record { in_order = same_subsequence (item_accesses asking); whole = λ sound few. refl; closed = λ e. refl }, tt);
  routers_back = one_of (λ f. AlongWay (ForwardsFlow small small_layout.answers the_end f) 3 (1 ∷ [])) the_flow
      (record { in_order = same_subsequence (item_accesses answering); whole = λ sound few. refl; closed = λ e. refl }, tt);
}

-- And each ring has given its Close.
pub small_has_ended : HasAllEnded small_layout the_end
small_has_ended = record {
  there = one_of (HasEnded small_layout.requests the_end) the_flow (All-from_recursion (λ r. has_close (all_items r) ≡ true) (0 ∷ 2 ∷ []) (refl, (refl, tt)));
  back = one_of (HasEnded small_layout.answers the_end) the_flow (All-from_recursion (λ r. has_close (all_items r) ≡ true) (3 ∷ 1 ∷ []) (refl, (refl, tt)));
}

-- The entries are at their device, and the journal is one legal history.
pub steps_of_small : HasEntries small steps
steps_of_small = record {
  devices = All-from_recursion (λ e. e.device < 1) steps (lit< tt, (lit< tt, (lit< tt, tt)));
  narrow = All-from_recursion (λ e. span_of e.packet.cmd ≤ width_to small e.device) steps (lit≤ tt, (lit≤ tt, (lit≤ tt, tt)));
  in_round_order = refl;
}

pub steps_are_lawful : IsLawful small steps
steps_are_lawful = lawful_journal small small_layout steps the_end small_is_laid_out end_of_small steps_of_small small_has_ended
