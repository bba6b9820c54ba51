-- What one step keeps of a device.
use Rattle.std.proofs.Common.{◌≡◌, arith, ℕ, true, [], ◌∷◌, ◌++◌, refl, sym, ap, ◌∙◌, subst, append-nil}
use Rattle.std.proofs.lemmas.List.Elements.{All-nil, All-cons}
use Rattle.sb_packet.specs.Journals.{is_request}
use Rattle.sb_packet.specs.Memories.{MemoryState}
use Rattle.sb_link.specs.Traffic.{MayFollow, has_close, item_accesses}
use Rattle.sb_packet.specs.declared.entry.Entry.{Entry}
use Rattle.sb_packet.specs.declared.item.Item.TheVariants as items
use Rattle.sb_port.specs.Ports.{PortSide, IsFit, let_go, offered_words}
use Rattle.sb_port.proofs.Items.{has_close-close}
use Rattle.sb_node.specs.Sides.{RingSide}
use Rattle.sb_link.specs.Prefixes.{begins_itself}
use Rattle.sb_node.specs.Kept.{IsKeptPort, IsKeptRing, kept_port_same, kept_ring_same}
use Rattle.sb_device.specs.Sides.{DeviceSide, held_bytes}
use Rattle.sb_device.specs.Served.{AreSound, item_packets}
use Rattle.sb_device.specs.Requests.{ServesNone, ServesRequest, serves, serves_none, no_step, then_step}
use Rattle.sb_device.specs.Plans.{IsDeviceInOrder}
use Rattle.sb_device.specs.Devices.{IsKeptDevice, IsWholeDevice, kept_device_then}
use Rattle.sb_device.proofs.Requests.{front_sound}
use Rattle.sb_device.proofs.Orders.{close_packets, close_words, in_order_rest, served_none, served_request}

-- no request came in
pub kept_by_none : (round : ℕ) (x y : DeviceSide) → ServesNone x y → IsKeptRing x.requests y.requests → IsKeptPort x.answers y.answers
    → (AreSound y.requests.received → AreSound x.requests.received) → IsKeptDevice round x y
kept_by_none round x y none ring port sound = record {
  number = none.number;
  base = ap (λ (m : MemoryState). m.base) none.memory;
  size = ap held_bytes none.memory;
  readonly = ap (λ (m : MemoryState). m.readonly) none.memory;
  requests = ring;
  answers = port;
  journalled = record {
    added = [];
    joined = append-nil x.journal.entries ∙ sym none.entered;
    rounds = All-nil (λ (e : Entry). e.round ≡ round);
    devices = All-nil (λ (e : Entry). e.device ≡ x.number);
  };
  steps = then_step no_step (serves_none none);
  serves = λ opening h. served_none opening x y h none sound;
}

-- a request was served
pub kept_by_request : (round : ℕ) (x y : DeviceSide) → IsDeviceInOrder x → (s : ServesRequest round x y) → MayFollow x.requests.plan x.requests.received (items.Packet s.request)
    → is_request s.request.cmd.op ≡ true → y.memory.base ≡ x.memory.base → held_bytes y.memory ≡ held_bytes x.memory → y.memory.readonly ≡ x.memory.readonly
    → IsKeptRing x.requests y.requests → IsKeptPort x.answers y.answers → IsKeptDevice round x y
kept_by_request round x y o s lawful asked base size readonly ring port =
    let e : Entry = record { round = round; device = x.number; packet = s.request } in record {
      number = s.number;
      base = base;
      size = size;
      readonly = readonly;
      requests = ring;
      answers = port;
      journalled = record {
        added = e ∷ [];
        joined = sym s.entered;
        rounds = All-cons (λ (e : Entry). e.round ≡ round) e [] refl (All-nil (λ (e : Entry). e.round ≡ round));
        devices = All-cons (λ (e : Entry). e.device ≡ x.number) e [] refl (All-nil (λ (e : Entry). e.device ≡ x.number));
      };
      steps = then_step no_step (serves s);
      serves = λ opening h. served_request opening round x y o h s lawful asked;
    }

-- the ring was found empty
pub kept_by_empty : (round : ℕ) (x : DeviceSide) (ring : RingSide) → ring.received ≡ x.requests.received → IsKeptRing x.requests ring → IsKeptDevice round x (record x { requests = ring })
kept_by_empty round x ring same kept = kept_by_none round x (record x { requests = ring })
    (record { came = ap item_packets same; entered = refl; memory = refl; offered = refl; number = refl; plan = refl })
    kept (kept_port_same x.answers) (λ sound. subst AreSound same sound)

-- the port took its turn
kept_by_port : (round : ℕ) (x : DeviceSide) (port : PortSide) → offered_words port ≡ offered_words x.answers → IsKeptPort x.answers port → IsKeptDevice round x (record x { answers = port })
kept_by_port round x port words kept = kept_by_none round x (record x { answers = port })
    (record { came = refl; entered = refl; memory = refl; offered = words; number = refl; plan = kept.plan })
    (kept_ring_same x.requests) kept (λ sound. sound)

pub whole_by_port : (x : DeviceSide) (port : PortSide) → IsWholeDevice x → port.plan ≡ x.answers.plan → port.state.close_requested ≡ x.answers.state.close_requested → IsFit port.plan port.state
    → IsWholeDevice (record x { answers = port })
whole_by_port x port whole plan told fit = record {
  fit = fit;
  in_order = in_order_rest x (record x { answers = port }) whole.in_order refl refl refl refl plan refl refl refl (told ∙ whole.in_order.closes);
}

-- a step was taken, and then the port took its turn
pub kept_then_port : (round : ℕ) (x y : DeviceSide) (port : PortSide) → IsKeptDevice round x y → offered_words port ≡ offered_words y.answers → IsKeptPort y.answers port
    → IsKeptDevice round x (record y { answers = port })
kept_then_port round x y port before words kept = kept_device_then round x y (record y { answers = port }) before (kept_by_port round y port words kept)

-- a Close came in, and the port was told to close
module _ (x : DeviceSide) (ring : RingSide) (port : PortSide) (came : ring.received ≡ x.requests.received ++ items.Close ∷ [])
    (told : port ≡ record x.answers { state = record x.answers.state { close_requested = true } }) where
  abbrev pub closed_then : DeviceSide
  closed_then = record x { requests = ring; answers = port }

  -- nothing else happened to the port
  kept_port : IsKeptPort x.answers port
  kept_port = subst (IsKeptPort x.answers) (sym told) (record {
    plan = refl;
    mark = refl;
    offered_more = begins_itself (offered_words x.answers);
    let_more_go = begins_itself (let_go x.answers.state);
    sent_more = begins_itself x.answers.state.sent;
    learnt = omega arith;
    still_told = λ was. refl;
  })

  packets : item_packets ring.received ≡ item_packets x.requests.received
  packets = ap item_packets came ∙ close_packets x.requests.received

  pub kept_by_close : (round : ℕ) → IsKeptRing x.requests ring → IsKeptDevice round x closed_then
  kept_by_close round kept = kept_by_none round x closed_then
      (record { came = packets; entered = refl; memory = refl; offered = ap offered_words told; number = refl; plan = kept_port.plan })
      kept kept_port (λ sound. front_sound x.requests.received (items.Close ∷ []) (subst AreSound came sound))

  pub whole_by_close : IsWholeDevice x → IsKeptRing x.requests ring → IsFit port.plan port.state → IsWholeDevice closed_then
  whole_by_close whole kept fit = record {
    fit = fit;
    in_order = in_order_rest x closed_then whole.in_order refl refl refl kept.plan (ap (λ (p : PortSide). p.plan) told) refl packets (ap item_accesses came ∙ close_words x.requests.received)
        (ap (λ (p : PortSide). p.state.close_requested) told ∙ sym (has_close-close x.requests.received) ∙ sym (ap has_close came));
  }
