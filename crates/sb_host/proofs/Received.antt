-- A host stays in order where an item comes in.
use Rattle.std.proofs.Common.{◌≡◌, List, [], ◌∷◌, ◌++◌, true, sym, ap, subst, ◌∙◌, append-nil}
use Rattle.sb_packet.specs.Accesses.{Access, accesses_of}
use Rattle.sb_link.specs.Traffic.{has_close, item_accesses}
use Rattle.sb_packet.specs.declared.item.Item.{Item}
use Rattle.sb_packet.specs.declared.item.Item.TheVariants as items
use Rattle.sb_packet.specs.declared.packet.Packet.{Packet}
use Rattle.sb_port.specs.Ports.{PortSide}
use Rattle.sb_port.proofs.Items.{has_close-packet, has_close-close}
use Rattle.sb_node.specs.Sides.{RingSide, received_words}
use Rattle.sb_node.proofs.Items.{item_more}
use Rattle.sb_host.specs.declared.answer_row.AnswerRow.{AnswerRow}
use Rattle.sb_host.specs.Hosts.{IsHostInOrder}
use Rattle.sb_host.specs.Progress.{TransactionsSide}
use Rattle.sb_host.specs.Rows.{IsTable}
use Rattle.sb_host.proofs.WindowKept.{window_answered}

module _ (t : TransactionsSide) (port : PortSide) (ring ring_then : RingSide) where
  -- a packet came, and the table took it
  pub after_packet : (rows_then : List AnswerRow) (p : Packet) → ring_then.received ≡ ring.received ++ items.Packet p ∷ []
      → ((received : List Access) → IsTable t.asked received t.rows → IsTable t.asked (received ++ accesses_of p) rows_then)
      → IsHostInOrder t port ring → IsHostInOrder (record t { rows = rows_then }) port ring_then
  after_packet rows_then p came taken is = record {
    issuable = is.issuable;
    made = is.made;
    come = is.come;
    offered = is.offered;
    closes = is.closes;
    table = subst (λ (words : List Access). IsTable t.asked words rows_then) (sym (ap item_accesses came ∙ item_more ring.received (items.Packet p))) (taken (received_words ring) is.table);
    ends = is.ends ∙ sym (ap has_close came ∙ has_close-packet ring.received p);
    window = window_answered t rows_then (received_words ring) (accesses_of p) is.table (taken (received_words ring) is.table) is.window;
  }

  -- the Close came
  pub after_close : ring_then.received ≡ ring.received ++ items.Close ∷ [] → IsHostInOrder t port ring → IsHostInOrder (record t { ended = true }) port ring_then
  after_close came is = record {
    issuable = is.issuable;
    made = is.made;
    come = is.come;
    offered = is.offered;
    closes = is.closes;
    table = subst (λ (words : List Access). IsTable t.asked words t.rows) (sym (ap item_accesses came ∙ item_more ring.received items.Close ∙ append-nil (received_words ring))) is.table;
    ends = sym (ap has_close came ∙ has_close-close ring.received);
    window = is.window;
  }

  -- nothing came
  pub after_none : ring_then.received ≡ ring.received → IsHostInOrder t port ring → IsHostInOrder t port ring_then
  after_none same is = record {
    issuable = is.issuable;
    made = is.made;
    come = is.come;
    offered = is.offered;
    closes = is.closes;
    table = subst (λ (list : List Item). IsTable t.asked (item_accesses list) t.rows) (sym same) is.table;
    ends = is.ends ∙ sym (ap has_close same);
    window = is.window;
  }
