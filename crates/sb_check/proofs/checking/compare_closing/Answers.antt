-- What is gathered of a lawful journal tells what stands behind its history.
use Rattle.sb_packet.specs.Answers.{run_results}
use Rattle.sb_flow.specs.NetworkOf.{network_of}
use Rattle.sb_check.proofs.FollowLemmas.{text_faulty}
use Rattle.sb_check.proofs.HistoryLemmas.{lawful_read}
use Rattle.sb_check.proofs.TellingLaw.{tells_gathered}
use Rattle.sb_check.proofs.checking.compare_closing.Goals as goal

pub closing_difference-requires-clause-told : goal.closing_difference-requires-clause-told
closing_difference-requires-clause-told c =
    let of = c.requires.lawful in
    (run_results (network_of c.args.bundle.now) of.0, tells_gathered c.args.bundle.now of.0 c.args.gathered.now of.2 of.1)

pub returns-in-None-clause-lawful : goal.returns-in-None-clause-lawful
returns-in-None-clause-lawful c = λ report journal r lawful gathers.
    let network = network_of c.args.bundle.now in
    lawful_read network report c.args.rest.now journal r lawful (c.in-None.ensures.compared (run_results network journal) (tells_gathered c.args.bundle.now journal c.args.gathered.now gathers lawful))

pub returns-in-Some-clause-text : goal.returns-in-Some-clause-text
returns-in-Some-clause-text c = λ report journal r lawful gathers many short.
    let network = network_of c.args.bundle.now in
    text_faulty network report c.args.rest.now journal c.fault_at.result c.args.count c.in-Some.line c.fault_at.ensures.reason c.fault_at.ensures.line c.names_are_names.ensures short r lawful many
    (c.in-Some.ensures.compared (run_results network journal) (tells_gathered c.args.bundle.now journal c.args.gathered.now gathers lawful))
