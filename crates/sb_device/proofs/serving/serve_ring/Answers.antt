-- Each item that comes in leaves the device in order, and what it served it goes on to serve.
use Rattle.std.proofs.Common.{◌∷◌, ◌++◌, [], ap, ◌∙◌, refl, subst}
use Rattle.sb_packet.specs.Journals.{Ledger}
use Rattle.sb_link.specs.Traffic.{MayFollow}
use Rattle.sb_packet.specs.declared.item.Item.{Item}
use Rattle.sb_packet.specs.declared.item.Item.TheVariants as items
use Rattle.sb_node.specs.Sides.{ring_side}
use Rattle.sb_device.specs.Devices.{kept_device_same}
use Rattle.sb_device.specs.SideOf.{side_of}
use Rattle.sb_device.proofs.Orders.{in_order_packet, room_for_entry, request_asks}
use Rattle.sb_device.proofs.PlannedPackets.{request_in_range}
use Rattle.sb_device.proofs.Keeping.{kept_by_empty, kept_by_close, kept_by_request, whole_by_close}
use Rattle.sb_device.proofs.serving.serve_ring.Goals as goal

pub returns-then-not-ready-clause-kept : goal.returns-then-not-ready-clause-kept
returns-then-not-ready-clause-kept g c = kept_device_same c.args.round (side_of g.U.RxEnd c.args.state.now c.args.requests.now c.args.answers.now)

pub serve_request-requires-clause-within : goal.serve_request-requires-clause-within
serve_request-requires-clause-within g c =
    let x = side_of g.U.RxEnd c.args.state.now c.args.requests.now c.args.answers.now in
    let o = c.requires.whole.in_order in
    let p = c.in-Some-Packet.request in
    let lawful : MayFollow x.requests.plan x.requests.received (items.Packet p) = subst (λ i. MayFollow x.requests.plan x.requests.received i) c.in-Some-Packet.field-0-is c.in-Some-Packet.ensures.popped.lawful in
    request_in_range x.number x.memory x.requests.plan x.answers.plan p o.planned (lawful.fit p refl).planned (request_asks x.requests.plan x.requests.received p o.planned.down lawful)

pub serve_request-requires-clause-room : goal.serve_request-requires-clause-room
serve_request-requires-clause-room g c =
    let x = side_of g.U.RxEnd c.args.state.now c.args.requests.now c.args.answers.now in
    let p = c.in-Some-Packet.request in
    let lawful : MayFollow x.requests.plan x.requests.received (items.Packet p) = subst (λ i. MayFollow x.requests.plan x.requests.received i) c.in-Some-Packet.field-0-is c.in-Some-Packet.ensures.popped.lawful in
    room_for_entry x p c.requires.whole.in_order lawful

pub returns-in-None-clause-kept : goal.returns-in-None-clause-kept
returns-in-None-clause-kept g c =
    kept_by_empty c.args.round (side_of g.U.RxEnd c.args.state.now c.args.requests.now c.args.answers.now) (ring_side g.U.RxEnd c.pop_ring.new.ring)
    c.in-None.ensures.popped.same c.pop_ring.ensures.kept

pub returns-in-Some-Packet-clause-kept : goal.returns-in-Some-Packet-clause-kept
returns-in-Some-Packet-clause-kept g c =
    let x = side_of g.U.RxEnd c.args.state.now c.args.requests.now c.args.answers.now in
    let y = side_of g.U.RxEnd c.serve_request.new.state c.pop_ring.new.ring c.serve_request.new.answers in
    let s = c.serve_request.ensures in
    let o = c.requires.whole.in_order in
    let popped = c.in-Some-Packet.ensures.popped in
    let p = c.in-Some-Packet.request in
    let lawful : MayFollow x.requests.plan x.requests.received (items.Packet p) = subst (λ i. MayFollow x.requests.plan x.requests.received i) c.in-Some-Packet.field-0-is popped.lawful in
    kept_by_request c.args.round x y o
    (record {
      request = p;
      came = popped.received ∙ ap (λ (i : Item). x.requests.received ++ i ∷ []) c.in-Some-Packet.field-0-is;
      entered = ap (λ (j : Ledger). j.entries) s.journal;
      stepped = s.memory;
      answered = s.served;
      number = s.number;
      plan = s.kept.plan;
    })
    lawful (request_asks x.requests.plan x.requests.received p o.planned.down lawful) s.base s.size s.readonly c.pop_ring.ensures.kept s.kept

pub returns-in-Some-Packet-clause-whole : goal.returns-in-Some-Packet-clause-whole
returns-in-Some-Packet-clause-whole g c =
    let x = side_of g.U.RxEnd c.args.state.now c.args.requests.now c.args.answers.now in
    let y = side_of g.U.RxEnd c.serve_request.new.state c.pop_ring.new.ring c.serve_request.new.answers in
    let s = c.serve_request.ensures in
    let popped = c.in-Some-Packet.ensures.popped in
    let p = c.in-Some-Packet.request in
    record {
      fit = s.fit;
      in_order = in_order_packet x y c.requires.whole.in_order s.number s.base s.size c.pop_ring.ensures.kept.plan s.kept.plan
          p (record { round = c.args.round; device = x.number; packet = p }) refl refl s.journal
          (subst (λ i. MayFollow x.requests.plan x.requests.received i) c.in-Some-Packet.field-0-is popped.lawful)
          (popped.received ∙ ap (λ (i : Item). x.requests.received ++ i ∷ []) c.in-Some-Packet.field-0-is) s.told;
    }

pub returns-in-Some-Close-clause-kept : goal.returns-in-Some-Close-clause-kept
returns-in-Some-Close-clause-kept g c =
    let x = side_of g.U.RxEnd c.args.state.now c.args.requests.now c.args.answers.now in
    kept_by_close x (ring_side g.U.RxEnd c.pop_ring.new.ring) c.close.new.self
    (c.in-Some-Close.ensures.popped.received ∙ ap (λ (i : Item). x.requests.received ++ i ∷ []) c.in-Some-Close.field-0-is) c.close.ensures.told
    c.args.round c.pop_ring.ensures.kept

pub returns-in-Some-Close-clause-whole : goal.returns-in-Some-Close-clause-whole
returns-in-Some-Close-clause-whole g c =
    let x = side_of g.U.RxEnd c.args.state.now c.args.requests.now c.args.answers.now in
    whole_by_close x (ring_side g.U.RxEnd c.pop_ring.new.ring) c.close.new.self
    (c.in-Some-Close.ensures.popped.received ∙ ap (λ (i : Item). x.requests.received ++ i ∷ []) c.in-Some-Close.field-0-is) c.close.ensures.told
    c.requires.whole c.pop_ring.ensures.kept c.close.ensures.fit
