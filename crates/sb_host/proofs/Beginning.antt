-- A host that begins is in order.
use Rattle.std.proofs.Common.{◌≡◌, ◌<◌, ◌+◌, ℕ, arith, refl, sym, ap, subst, ◌∙◌, length, List, [], ◌∷◌, ◌++◌, true, false, true≢false}
use Rattle.std.specs.Prelude.{flat_map, map, All, if◌then◌else◌}
use Rattle.std.proofs.Math.ListN.{get_or}
use Rattle.std.proofs.lemmas.Grind.{flat_map-append}
use Rattle.std.proofs.lemmas.List.{get_or-map, length-map}
use Rattle.std.proofs.lemmas.List.Elements.{All-nil, All-cons, All-head, All-tail}
use Rattle.sb_packet.specs.Accesses.{Access, message_accesses}
use Rattle.sb_packet.specs.Cuts.{cut_parts}
use Rattle.sb_packet.specs.Networks.{NetHost, Network}
use Rattle.sb_packet.specs.Scripts.{IsTransaction}
use Rattle.sb_link.specs.Traffic.{item_accesses}
use Rattle.sb_packet.specs.declared.item.Item.{Item}
use Rattle.sb_packet.specs.declared.transaction.Txn.{Txn}
use Rattle.sb_packet.proofs.CutWords.{words_of_cut}
use Rattle.sb_port.specs.Ports.{PortSide, PortState, port_accesses}
use Rattle.sb_port.specs.Waiting.{nothing_waits}
use Rattle.sb_node.specs.Sides.{RingSide, has_ended}
use Rattle.sb_flow.specs.Accepted.{is_limited_host}
use Rattle.sb_flow.specs.NetworkOf.{network_of}
use Rattle.sb_flow.specs.Rows.{host_of}
use Rattle.sb_flow.specs.declared.bundle.Bundle.{Bundle}
use Rattle.sb_flow.specs.declared.host_plan.HostPlan.{HostPlan}
use Rattle.sb_flow.proofs.HostLimits.{host_limits, limits_of, passes_at}
use Rattle.sb_host.specs.declared.transaction_plan.TransactionPlan.{TransactionPlan}
use Rattle.sb_host.specs.declared.script_plan.ScriptPlan.{ScriptPlan}
use Rattle.sb_host.specs.Asked.{AreTransactions, Asked, accesses_from, line_accesses, line_in, line_message, packets_from, sent_accesses, sent_packets}
use Rattle.sb_host.specs.Hosts.{IsHostInOrder}
use Rattle.sb_host.specs.Progress.{IsMadeFor, TransactionsSide, packets_left}
use Rattle.sb_host.specs.Places.{AreIssuable, asked_of}
use Rattle.sb_host.specs.Rows.{IsTable}

-- the words of a transaction's packets are its words
words_of_line : (asked : Asked) (i : ℕ) (l : TransactionPlan) → flat_map message_accesses (sent_packets asked i l) ≡ sent_accesses asked i l
words_of_line asked i l =
    elim (l.aimed) as (λ b. flat_map message_accesses (if b then cut_parts 32 (line_message asked i l) else []) ≡ (if b then line_accesses asked i l else [])) [
      | true ↦ words_of_cut 32 (line_message asked i l)
      | false ↦ refl
    ]

-- the words of all packets are all words
pub words_of_packets : (asked : Asked) (i : ℕ) (lines : List TransactionPlan) → flat_map message_accesses (packets_from asked i lines) ≡ accesses_from asked i lines
words_of_packets asked i [] = refl
words_of_packets asked i (l ∷ lines) =
    flat_map-append message_accesses (sent_packets asked i l) (packets_from asked (i + 1) lines)
    ∙ ap (λ (words : List Access). words ++ flat_map message_accesses (packets_from asked (i + 1) lines)) (words_of_line asked i l)
    ∙ ap (λ (words : List Access). sent_accesses asked i l ++ words) (words_of_packets asked (i + 1) lines)

-- what the plan of a script asks for can be issued
pub orders_issuable : (script_plan : ScriptPlan) → AreIssuable (asked_of script_plan)
orders_issuable script_plan = record { id = script_plan.id_fits; qos = script_plan.qos_fits; prot = script_plan.prot_fits; few = script_plan.few; lines = script_plan.issuable }

-- a host that has offered nothing and received nothing
pub begins_in_order : (t : TransactionsSide) (port : PortSide) (ring : RingSide) → t ≡ record { asked = t.asked; rows = t.rows; next = 0; part = 0; ended = false }
    → AreIssuable t.asked → IsMadeFor port.plan t.asked
    → port.state ≡ record { sent = []; waiting = nothing_waits port.plan.width; close_requested = false; close_sent = false; words_offered = 0 } → ring.received ≡ [] → IsTable t.asked [] t.rows
    → IsHostInOrder t port ring
begins_in_order t port ring new issuable made state received table =
    let begins : IsHostInOrder (record { asked = t.asked; rows = t.rows; next = 0; part = 0; ended = false }) port ring = record {
      issuable = issuable;
      made = made;
      come = record { within = omega arith; begun = λ some d. absurd (omega arith) };
      offered = ap (λ (s : PortState). port_accesses s ++ flat_map message_accesses (packets_left t.asked 0 0)) state ∙ words_of_packets t.asked 0 t.asked.lines;
      closes = λ told. absurd (true≢false (sym told ∙ ap (λ (s : PortState). s.close_requested) state));
      table = subst (λ (list : List Item). IsTable t.asked (item_accesses list) t.rows) (sym received) table;
      ends = sym (ap (λ (list : List Item). has_ended (record ring { received = list })) received);
      window = λ k i at behind. absurd (omega (arith, behind));
    } in
    subst (λ (x : TransactionsSide). IsHostInOrder x port ring) (sym new) begins

lines_issuable : (network : Network) (script : List Txn) → All IsTransaction script → AreTransactions (map (line_in network) script)
lines_issuable network [] all = All-nil (λ l. IsTransaction l.txn)
lines_issuable network (t ∷ script) all =
    All-cons (λ l. IsTransaction l.txn) (line_in network t) (map (line_in network) script) (All-head IsTransaction t script all) (lines_issuable network script (All-tail IsTransaction t script all))

-- what a host of a bundle asks for can be issued
pub bundle_issuable : (b : Bundle) (h : ℕ) (plan : HostPlan) (lines : List TransactionPlan) → h < length b.hosts.items → plan ≡ get_or b.hosts.items h plan → lines ≡ map (line_in (network_of b)) plan.script
    → AreIssuable (record { id = plan.id; qos = plan.qos; prot = plan.prot; lines = lines })
bundle_issuable b h plan lines inside at is =
    let network = network_of b in
    let passes = passes_at is_limited_host network.hosts h (host_of plan) (host_limits network b.limits) (omega (arith, inside, length-map b.hosts.items host_of)) in
    let there : get_or network.hosts h (host_of plan) ≡ host_of plan = get_or-map host_of b.hosts.items h plan (host_of plan) inside ∙ ap host_of (sym at) in
    let limits = limits_of (host_of plan) (subst (λ (x : NetHost). is_limited_host x ≡ true) there passes) in
    record {
      id = limits.id;
      qos = limits.qos;
      prot = limits.prot;
      few = let few = limits.few in let long = ap length is ∙ length-map plan.script (line_in network) in omega (arith, few, long);
      lines = subst AreTransactions (sym is) (lines_issuable network plan.script plan.lines);
    }
