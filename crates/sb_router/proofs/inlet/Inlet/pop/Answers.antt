-- pop: what the ring found stands beside what was found before.
use Rattle.std.proofs.Common.{◌≡◌, ◌≢◌, ◌⊎◌, inl, inr, true, false, is_some, Option, None, Some, refl, sym, ap, ◌∙◌, subst}
use Rattle.sb_link.specs.declared.answers.Cause.{Cause}
use Rattle.sb_packet.specs.declared.packet.Packet.{Packet}
use Rattle.sb_node.specs.declared.findings.Findings.{Findings}
use Rattle.sb_packet.specs.declared.item.Item.{Item}
use Rattle.sb_packet.specs.declared.item.Item.TheVariants as items
use Rattle.sb_node.specs.Sides.{RingSide, ring_side}
use Rattle.sb_node.specs.Steps.{IsItemPopped, IsRingEmpty}
use Rattle.sb_router.specs.Popping.{lower, nothing_found}
use Rattle.sb_router.specs.Lanes.{InletState}
use Rattle.sb_router.proofs.Besides.{close_besides, none_besides, packet_besides, seen_besides}
use Rattle.sb_router.proofs.Lowest.{found_nothing_more}
use Rattle.sb_router.proofs.inlet.Inlet.pop.Goals.{then-self-via-then-self, then-self-via-else-self+then-is_some, in-Some-Packet, in-Some-Close, in-None}
use Rattle.sb_router.proofs.inlet.Inlet.pop.Goals as goal

some_held : (held : Option Packet) → is_some held ≡ true → held ≢ None
some_held held e none = let no_way : ⊥ = cc (ap is_some none) in no_way

none_held : (held : Option Packet) → is_some held ≡ false → held ≡ None
none_held None e = refl
none_held (Some p) e = let no_way : ⊥ = cc in absurd no_way

pub returns-then-self : goal.returns-then-self
returns-then-self g c =
    let x : InletState = c.args.self.now in
    let cause : (x.ended ≡ true) ⊎ (x.held ≢ None) = elim c.then-self.branch [
      | then-self-via-then-self w ↦ inl (ap (λ (y : InletState). y.ended) (sym c.self.view_is) ∙ w.if-self.true)
      | then-self-via-else-self+then-is_some w ↦ inr (some_held x.held (ap (λ (y : InletState). is_some y.held) (sym c.self.view_is) ∙ sym w.is_some.ensures ∙ w.if-is_some.true))
    ] in
    record {
      popped = record { one = nothing_found; has = inl (record { same = refl; found_nothing = refl; cause = cause }); both = sym (found_nothing_more c.args.found.now) };
    }

pub returns : goal.returns
returns g c =
    let before : Findings = c.args.found.now in
    let found : Findings = c.pop_ring.new.found in
    let x : InletState = record { ring = ring_side g.U.RxEnd c.self.inside.end; ended = c.self.inside.ended; held = c.self.inside.held } in
    let ring : RingSide = ring_side g.U.RxEnd c.pop_ring.new.ring in
    let unended : x.ended ≡ false = c.if-self.false in
    let free : x.held ≡ None = none_held x.held (sym c.is_some.ensures ∙ c.if-is_some.false) in
    let empty : Option Cause = c.take-before.new.self in
    let none : empty ≡ None = c.take-before.ensures.after in
    let lowered = c.lower-found.ensures.lower ∙ ap (λ (cause : Option Cause). lower cause found.empty) c.take-before.ensures.value in
    elim c.match-pop_ring.branch [
      | in-Some-Packet w ↦
          let p = w.in-Some-Packet.packet in
          let is = subst (λ (cause : Option Cause). IsItemPopped x.ring ring (items.Packet p) (record before { empty = cause }) found) none
          (subst (λ (item : Item). IsItemPopped x.ring ring item (record before { empty = empty }) found) w.in-Some-Packet.field-0-is w.in-Some-Packet.ensures.popped) in
          record { popped = seen_besides before found c.self.view_is w.self-is lowered (packet_besides before found unended free c.pop_ring.ensures.kept p is) }
      | in-Some-Close w ↦
          let is = subst (λ (cause : Option Cause). IsItemPopped x.ring ring items.Close (record before { empty = cause }) found) none
          (subst (λ (item : Item). IsItemPopped x.ring ring item (record before { empty = empty }) found) w.in-Some-Close.field-0-is w.in-Some-Close.ensures.popped) in
          record { popped = seen_besides before found c.self.view_is w.self-is lowered (close_besides before found unended free c.pop_ring.ensures.kept is) }
      | in-None w ↦
          let is = subst (λ (cause : Option Cause). IsRingEmpty x.ring ring (record before { empty = cause }) found) none w.in-None.ensures.popped in
          record { popped = seen_besides before found c.self.view_is w.self-is lowered (none_besides before found unended free c.pop_ring.ensures.kept is) }
    ]
