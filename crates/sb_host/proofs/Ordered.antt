-- A host stays in order where it passes over transactions, offers its next packet, and tells its port to close.
use Rattle.std.proofs.Common.{◌≡◌, ◌≤◌, ◌+◌, ◌∷◌, ◌++◌, List, [], inl, inr, refl, None, true, false, true≢false, length, sym, ap, subst, ◌∙◌, arith, append-nil}
use Rattle.std.specs.Prelude.{◌⊎◌, flat_map, is_some}
use Rattle.sb_packet.specs.Accesses.{Access, message_accesses}
use Rattle.sb_packet.specs.Messages.{Message}
use Rattle.sb_link.specs.RingPlans.{RingPlan}
use Rattle.sb_link.specs.Prefixes.{IsPrefix}
use Rattle.sb_port.specs.Ports.{IsFit, PortSide, offered_words, owes}
use Rattle.sb_node.specs.Sides.{RingSide}
use Rattle.sb_host.specs.Hosts.{IsHostInOrder, IsWholeHost}
use Rattle.sb_host.specs.Progress.{HasComeTo, HasOffered, IsMadeFor, TransactionsSide, left_of}
use Rattle.sb_host.specs.Steps.{IsNextOffered}
use Rattle.sb_host.specs.Windows.{IsHeldBack, begun_count, begun_slots, window_cause, window_wait}
use Rattle.sb_host.proofs.Offering.{none_left}
use Rattle.sb_host.proofs.Passing.{next_offered}
use Rattle.sb_host.proofs.WindowKept.{window_taken, window_unmoved}

-- the words of the first packet that was left come behind those that were offered
pub offered_first : (m first : Message) (rest others left : List Message) (words words_then : List Access) → left ≡ first ∷ others → words_then ≡ words ++ message_accesses first
    → left ≡ m ∷ rest → IsPrefix (words ++ message_accesses m) words_then
offered_first m first rest others left words words_then is behind here =
    let both : first ∷ others ≡ m ∷ rest = sym is ∙ here in
    let same : first ≡ m = cc in
    let joined : words_then ≡ words ++ message_accesses m = behind ∙ ap (λ (x : Message). words ++ message_accesses x) same in
    record { rest = []; joined = append-nil (words ++ message_accesses m) ∙ sym joined }

-- behind the last transaction no packet is left
pub some_left : (t : TransactionsSide) (m : Message) (rest : List Message) → HasComeTo t.asked t.next t.part → length t.asked.lines ≤ t.next → left_of t ≡ m ∷ rest → ⊥
some_left t m rest come past left =
    let within = come.within in
    let all : t.next ≡ length t.asked.lines = omega (arith, within, past) in
    let none = none_left t.asked t.next t.part all in
    let both : m ∷ rest ≡ [] = sym left ∙ none in
    absurd (cc)

-- where no packet is offered, none is left, or the port owes an item, or the host waits for a slot
pub not_offered : (t t_then : TransactionsSide) (port port_then : PortSide) → HasComeTo t_then.asked t_then.next t_then.part → left_of t_then ≡ left_of t
    → (length t_then.asked.lines ≤ t_then.next) ⊎ ((owes port.state ≡ true) ⊎ (is_some (window_cause t_then) ≡ true)) → IsNextOffered t port port_then ⊎ IsHeldBack t t_then
not_offered t t_then port port_then come left (inl past) = inl (λ ready m rest here. absurd (some_left t_then m rest come past (left ∙ here)))
not_offered t t_then port port_then come left (inr (inl owing)) = inl (λ ready m rest here. absurd (true≢false (sym owing ∙ ready)))
not_offered t t_then port port_then come left (inr (inr waits)) = inr (record { left = left; waits = waits })

module _ (t t_then : TransactionsSide) (port port_then : PortSide) (ring : RingSide) where
  -- it passed over transactions of which no packet is left
  pub passed_in_order : t_then ≡ record t { next = t_then.next } → HasComeTo t_then.asked t_then.next t_then.part → t.next ≤ t_then.next → left_of t_then ≡ left_of t
      → begun_slots t_then ≡ begun_slots t → IsHostInOrder t port ring → IsHostInOrder t_then port ring
  passed_in_order is come onward left begun o =
      let n = t_then.next in
      let come_here : HasComeTo t.asked n t.part = subst (λ (x : TransactionsSide). HasComeTo x.asked x.next x.part) is come in
      let left_here : left_of (record t { next = n }) ≡ left_of t = subst (λ (x : TransactionsSide). left_of x ≡ left_of t) is left in
      subst (λ (x : TransactionsSide). IsHostInOrder x port ring) (sym is) (record {
        issuable = o.issuable;
        made = o.made;
        come = come_here;
        offered = ap (λ (list : List Message). offered_words port ++ flat_map message_accesses list) left_here ∙ o.offered;
        closes = λ told. let all = o.closes told in let within = come_here.within in omega (arith, all, within, onward);
        table = o.table;
        ends = o.ends;
        window = window_unmoved t (record t { next = n }) (subst (λ (x : TransactionsSide). begun_slots x ≡ begun_slots t) is begun) refl o.window;
      })

  -- it offered the first packet that was left
  pub offered_in_order : (m : Message) → t_then ≡ record t { next = t_then.next; part = t_then.part } → HasComeTo t_then.asked t_then.next t_then.part → left_of t ≡ m ∷ left_of t_then
      → port_then.plan ≡ port.plan → port_then.state.close_requested ≡ false → offered_words port_then ≡ offered_words port ++ message_accesses m
      → window_wait t ≡ None → begun_count t_then ≡ t.next + 1 → IsHostInOrder t port ring → IsHostInOrder t_then port_then ring
  offered_in_order m is come left plan untold words free begun o =
      let n = t_then.next in
      let k = t_then.part in
      let left_here : left_of t ≡ m ∷ left_of (record t { next = n; part = k }) = subst (λ (x : TransactionsSide). left_of t ≡ m ∷ left_of x) is left in
      subst (λ (x : TransactionsSide). IsHostInOrder x port_then ring) (sym is) (record {
        issuable = o.issuable;
        made = subst (λ (p : RingPlan). IsMadeFor p t.asked) (sym plan) o.made;
        come = subst (λ (x : TransactionsSide). HasComeTo x.asked x.next x.part) is come;
        offered = subst (λ (list : List Access). HasOffered t.asked n k list) (sym words) (next_offered t.asked t.next t.part n k (offered_words port) m o.offered left_here);
        closes = λ told. absurd (true≢false (sym told ∙ untold));
        table = o.table;
        ends = o.ends;
        window = window_taken t free o.window (record t { next = n; part = k }) refl refl (subst (λ (x : TransactionsSide). begun_count x ≡ t.next + 1) is begun);
      })

  -- it told its port to close, behind the last packet
  pub told_in_order : port_then ≡ record port { state = record port.state { close_requested = true } } → t.next ≡ length t.asked.lines → IsHostInOrder t port ring → IsHostInOrder t port_then ring
  told_in_order is all o = subst (λ (p : PortSide). IsHostInOrder t p ring) (sym is) (record {
    issuable = o.issuable;
    made = o.made;
    come = o.come;
    offered = o.offered;
    closes = λ told. all;
    table = o.table;
    ends = o.ends;
    window = o.window;
  })

-- a turn of its port changes nothing of that
turned_in_order : (t : TransactionsSide) (port port_then : PortSide) (ring : RingSide) → port_then.plan ≡ port.plan → offered_words port_then ≡ offered_words port
    → port_then.state.close_requested ≡ port.state.close_requested → IsHostInOrder t port ring → IsHostInOrder t port_then ring
turned_in_order t port port_then ring plan words told o = record {
  issuable = o.issuable;
  made = subst (λ (p : RingPlan). IsMadeFor p t.asked) (sym plan) o.made;
  come = o.come;
  offered = subst (λ (list : List Access). HasOffered t.asked t.next t.part list) (sym words) o.offered;
  closes = λ close_requested. o.closes (sym told ∙ close_requested);
  table = o.table;
  ends = o.ends;
  window = o.window;
}

-- nor whether the host is whole
pub turned_whole : (t : TransactionsSide) (port port_then : PortSide) (ring : RingSide) → port_then.plan ≡ port.plan → offered_words port_then ≡ offered_words port
    → port_then.state.close_requested ≡ port.state.close_requested → IsFit port_then.plan port_then.state → IsHostInOrder t port ring
    → IsWholeHost (record { transactions = t; requests = port_then; answers = ring })
turned_whole t port port_then ring plan words told fit o = record { fit = fit; in_order = turned_in_order t port port_then ring plan words told o }
