-- The words and the marks of a flow are those of its way.
use Rattle.std.proofs.Common.{◌∙◌, sym, get_or}
use Rattle.sb_flow.specs.Rows.{host_of}
use Rattle.sb_flow.specs.NetworkOf.{network_of}
use Rattle.sb_flow.proofs.Bundles.{link_count, script_words, words_there, answered_there, flow_table_from}
use Rattle.sb_flow.proofs.flow_path.flow_path.Goals as goal

pub words-requires : goal.words-requires
words-requires c = rw c.as_slice-script.ensures (script_words c.args.bundle.now c.args.host c.index-plan.result.now c.requires.host (rw c.from.ensures at c.index-plan.ensures))

pub answered_words-requires : goal.answered_words-requires
answered_words-requires c = rw c.as_slice-script.ensures (script_words c.args.bundle.now c.args.host c.index-plan.result.now c.requires.host (rw c.from.ensures at c.index-plan.ensures))

pub returns : goal.returns
returns c = λ d.
    let host_at = rw c.from.ensures at c.index-plan.ensures in
    let device_at = rw c.from-2.ensures at c.index-row.ensures in
    flow_table_from (network_of c.args.bundle.now) c.args.host c.args.device c.len.result (host_of (get_or c.args.bundle.now.hosts.items c.args.host d)) c.in_ok-legs.legs.items c.in_ok-on.on.items c.words.result c.answered_words.result
    (c.len.ensures ∙ sym (link_count c.args.bundle.now)) (c.in_ok-legs.ensures d) (rw c.deref.ensures.value at c.in_ok-on.ensures)
    (rw c.as_slice-script.ensures at c.words.ensures ∙ sym (words_there c.args.bundle.now c.args.host c.args.device c.index-plan.result.now d c.index-row.result.now c.requires.host c.requires.device host_at device_at))
    (rw c.as_slice-script.ensures at c.answered_words.ensures ∙ sym (answered_there c.args.bundle.now c.args.host c.args.device c.index-plan.result.now d c.index-row.result.now c.requires.host c.requires.device host_at device_at))
