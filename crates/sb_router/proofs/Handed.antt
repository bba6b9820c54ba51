-- A packet that was handed to a port, and isn't held any longer.
use Rattle.std.proofs.Common.{◌≡◌, ◌⊎◌, inl, inr, ℕ, Some, set, sym, refl, ap, ◌∙◌, subst, length}
use Rattle.std.proofs.lemmas.List.{set-get_or}
use Rattle.sb_packet.specs.Messages.{message_of}
use Rattle.sb_link.specs.Traffic.{MayPass}
use Rattle.sb_packet.specs.declared.packet.Packet.{Packet}
use Rattle.sb_port.specs.Ports.{offered_words, PortSide}
use Rattle.sb_router.specs.Lanes.{LaneState, Route, inlet_at, next_place, no_port, outlet_at}
use Rattle.sb_router.specs.Steps.{IsHandedAt, IsHandedTo, emptied}
use Rattle.sb_router.specs.Popping.{Drops, Offers}
use Rattle.sb_router.proofs.SameLane.{same_lane}

-- it was offered, or dropped where it doesn't pass
pub handed_on : (route : Route) (s t u : LaneState) (i o : ℕ) (p : Packet) → (inlet_at s i).held ≡ Some p → next_place route (inlet_at s i).ring.plan p ≡ Some o
    → IsHandedAt o s t p → u ≡ record { inlets = set s.inlets i (emptied (inlet_at s i)); outlets = t.outlets } → Offers route i s u ⊎ Drops route i s u
handed_on route s t u i o p held next handed is = by_case handed.handed
  where
    same_outlets : t.outlets ≡ set s.outlets o handed.port
    same_outlets = ap (λ (x : LaneState). x.outlets) handed.state

    by_case : IsHandedTo (outlet_at s o) handed.port p → Offers route i s u ⊎ Drops route i s u
    by_case (inl given) = inl record { packet = p; place = o; port = handed.port; held = held; next = next; given = given; state = is ∙ same_lane refl same_outlets }
    by_case (inr away) = inr record {
      packet = p;
      held = held;
      refused = λ q e. let there : Some o ≡ Some q = sym next ∙ e in let same : o ≡ q = cc in subst (λ (k : ℕ). MayPass (outlet_at s k).plan (length (offered_words (outlet_at s k))) (message_of p) → ⊥) same away.fails;
      state = is ∙ same_lane refl (same_outlets ∙ ap (λ (y : PortSide). set s.outlets o y) away.same ∙ set-get_or s.outlets o no_port);
    }
