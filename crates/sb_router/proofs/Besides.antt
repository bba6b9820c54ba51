-- What one turn found besides what had been found before, where it was noted among it.
use Rattle.std.proofs.Common.{◌≡◌, inl, inr, Bool, true, false, Option, Some, None, refl, sym, ap, ◌∙◌, subst}
use Rattle.sb_link.specs.declared.answers.Cause.{Cause}
use Rattle.sb_port.specs.Ports.{PortSide}
use Rattle.sb_drive.proofs.Turned.{or_true, or_false}
use Rattle.sb_node.specs.declared.findings.Findings.{Findings}
use Rattle.sb_packet.specs.declared.packet.Packet.{Packet}
use Rattle.sb_packet.specs.declared.item.Item.TheVariants as items
use Rattle.sb_node.specs.Kept.{IsKeptRing}
use Rattle.sb_node.specs.Sides.{RingSide}
use Rattle.sb_node.specs.Steps.{IsItemPopped, IsPortTurned, IsRingEmpty}
use Rattle.sb_router.specs.Lanes.{InletState}
use Rattle.sb_router.specs.Popping.{FindsBesides, IsPopped, found_in_both, lower, nothing_found}
use Rattle.sb_router.proofs.Lowest.{lower_none, same_found}

-- a turn of a port that began with no cause of that kind
module _ (before : Findings) where
  -- a cause of a full ring was put aside, and then the lower one was kept
  abbrev pub lower_full : Findings → Findings
  lower_full found = record found { full = lower before.full found.full }

  abbrev pub lower_empty : Findings → Findings
  lower_empty found = record found { empty = lower before.empty found.empty }

  -- a move
  pub full_move : (found : Findings) → found ≡ record before { full = None; moved = true } → lower_full found ≡ found_in_both before (record nothing_found { moved = true })
  full_move found is = ap lower_full is ∙ same_found (or_true before.moved) refl (sym (lower_none before.waits)) (sym (lower_none before.empty))

  pub empty_move : (found : Findings) → found ≡ record before { empty = None; moved = true } → lower_empty found ≡ found_in_both before (record nothing_found { moved = true })
  empty_move found is = ap lower_empty is ∙ same_found (or_true before.moved) (sym (lower_none before.full)) (sym (lower_none before.waits)) refl

  -- a cause, or none
  pub full_cause_found : (found : Findings) (cause : Option Cause) → found ≡ record before { full = cause } → lower_full found ≡ found_in_both before (record nothing_found { full = cause })
  full_cause_found found cause is = ap lower_full is ∙ same_found (or_false before.moved) refl (sym (lower_none before.waits)) (sym (lower_none before.empty))

  pub empty_cause_found : (found : Findings) (cause : Option Cause) → found ≡ record before { empty = cause } → lower_empty found ≡ found_in_both before (record nothing_found { empty = cause })
  empty_cause_found found cause is = ap lower_empty is ∙ same_found (or_false before.moved) (sym (lower_none before.full)) (sym (lower_none before.waits)) refl

  -- a port's turn
  pub port_besides : (more : Bool) (x y : PortSide) (found : Findings) → IsPortTurned more x y (record before { full = None }) found → FindsBesides (IsPortTurned more x y nothing_found) before (lower_full found)
  port_besides more x y found (inl went) = record { one = record nothing_found { moved = true }; has = inl (record { more = went.more; found_move = refl }); both = full_move found went.found_move }
  port_besides more x y found (inr (inl full)) = record {
    one = record nothing_found { full = found.full };
    has = inr (inl (record { same = full.same; rest = full.rest; full = full.full; found_full = ap (λ (f : Findings). record nothing_found { full = f.full }) full.found_full }));
    both = full_cause_found found found.full (full.found_full ∙ sym (ap (λ (f : Findings). record before { full = f.full }) full.found_full));
  }
  port_besides more x y found (inr (inr clear)) = record {
    one = nothing_found;
    has = inr (inr (record { same = clear.same; ready = clear.ready; rest = clear.rest; found_nothing = refl }));
    both = full_cause_found found None clear.found_nothing;
  }

  -- a pop of a ring that was open, and of which nothing was held
  module _ {x : InletState} {ring : RingSide} (found : Findings) (unended : x.ended ≡ false) (free : x.held ≡ None) (kept : IsKeptRing x.ring ring) where
    pub packet_besides : (p : Packet) → IsItemPopped x.ring ring (items.Packet p) (record before { empty = None }) found → FindsBesides (IsPopped x (record { ring = ring; ended = x.ended; held = Some p })) before (lower_empty found)
    packet_besides p is = record {
      one = record nothing_found { moved = true };
      has = inr (inl (record {
        item = items.Packet p;
        received = record { open_before = unended; free = free; lawful = is.lawful; received = is.received; kept = kept; ended = unended; held = refl };
        found_move = refl;
      }));
      both = empty_move found is.found_move;
    }

    pub close_besides : IsItemPopped x.ring ring items.Close (record before { empty = None }) found → FindsBesides (IsPopped x (record { ring = ring; ended = true; held = x.held })) before (lower_empty found)
    close_besides is = record {
      one = record nothing_found { moved = true };
      has = inr (inl (record {
        item = items.Close;
        received = record { open_before = unended; free = free; lawful = is.lawful; received = is.received; kept = kept; ended = refl; held = free };
        found_move = refl;
      }));
      both = empty_move found is.found_move;
    }

    pub none_besides : IsRingEmpty x.ring ring (record before { empty = None }) found → FindsBesides (IsPopped x (record { ring = ring; ended = x.ended; held = x.held })) before (lower_empty found)
    none_besides is = record {
      one = record nothing_found { empty = found.empty };
      has = inr (inr (record {
        same = record { received = is.same; kept = kept; ended = refl; held = refl };
        open_after = unended;
        free = free;
        drained = is.drained;
        found_empty = ap (λ (f : Findings). record nothing_found { empty = f.empty }) is.found_empty;
      }));
      both = empty_cause_found found found.empty (is.found_empty ∙ sym (ap (λ (f : Findings). record before { empty = f.empty }) is.found_empty));
    }

  -- so it is of a ring that is seen by its model
  pub seen_besides : (found : Findings) {x v y w : InletState} {empty : Option Cause} → v ≡ x → y ≡ w → empty ≡ lower before.empty found.empty → FindsBesides (IsPopped v w) before (lower_empty found)
      → FindsBesides (IsPopped x y) before (record found { empty = empty })
  seen_besides found {x} {v} {y} {w} {empty} seen now lowered is = record {
    one = is.one;
    has = subst (λ (z : InletState). IsPopped z y is.one) seen (subst (λ (z : InletState). IsPopped v z is.one) (sym now) is.has);
    both = ap (λ (cause : Option Cause). record found { empty = cause }) lowered ∙ is.both;
  }
