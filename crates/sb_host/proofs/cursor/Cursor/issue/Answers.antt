-- The packet that is issued was the first that is left, and behind the last packet of a transaction those of the next ones are left.
use Rattle.std.proofs.Common.{◌≡◌, ◌+◌, ap, ◌∙◌, true, List, ◌∷◌}
use Rattle.sb_packet.specs.Messages.{Message, message_of}
use Rattle.sb_host.specs.declared.transaction_plan.TransactionPlan.{TransactionPlan}
use Rattle.sb_host.specs.Places.{asked_of}
use Rattle.sb_host.proofs.PacketsLeft.{packet_first, behind_last}
use Rattle.sb_host.proofs.cursor.Cursor.issue.Goals as goal

pub returns-then-self-count-clause-packet : goal.returns-then-self-count-clause-packet
returns-then-self-count-clause-packet c =
    let o = c.args.script_plan.now in
    let asked = asked_of o in
    let l = c.index.result.now in
    let next = c.args.self.now.next in
    let part = c.args.self.now.part in
    let m = message_of c.packet_of-packet.result in
    let aimed : l.aimed ≡ true = ap (λ (x : TransactionPlan). x.aimed) c.index.ensures ∙ c.requires.aimed l in
    let first = packet_first asked next part l m c.requires.some c.index.ensures aimed c.packet_of-packet.ensures.packet in
    let all = c.if-self-count.true in
    let count = c.packets-count.ensures.packets o.id o.qos o.prot next in
    first ∙ ap (λ (list : List Message). m ∷ list) (behind_last asked next (part + 1) l c.requires.some c.index.ensures aimed (all ∙ count))

pub returns-else-self-count-clause-packet : goal.returns-else-self-count-clause-packet
returns-else-self-count-clause-packet c =
    let asked = asked_of c.args.script_plan.now in
    let l = c.index.result.now in
    let aimed : l.aimed ≡ true = ap (λ (x : TransactionPlan). x.aimed) c.index.ensures ∙ c.requires.aimed l in
    packet_first asked c.args.self.now.next c.args.self.now.part l (message_of c.packet_of-packet.result) c.requires.some c.index.ensures aimed c.packet_of-packet.ensures.packet
