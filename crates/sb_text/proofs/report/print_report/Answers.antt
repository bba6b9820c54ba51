-- One part of the report behind the other.
use Rattle.std.proofs.Common.{[], ◌∷◌, ◌++◌, ℕ, Bool, List, Err, refl}
use Rattle.std.specs.Prelude.{Option, Result, codes}
use Rattle.sb_io.specs.declared.output.WriteFailed.{WriteFailed}
use Rattle.sb_packet.specs.Networks.{Network}
use Rattle.sb_packet.specs.declared.entry.Entry.{Entry}
use Rattle.sb_flow.specs.NetworkOf.{network_of}
use Rattle.sb_text.specs.Reports.{devices_text, first_line, history_lines, hosts_text}
use Rattle.sb_text.specs.TextLines.{text_line}
use Rattle.sb_text.proofs.PrintLemmas.{printed_before, printed_then}
use Rattle.sb_text.proofs.report.print_report.Goals as goal

abbrev front : Network → List Entry → Bool → Option ℕ → List ℕ
front network entries history side = first_line side ++ history_lines network entries side history

abbrev ending : List ℕ
ending = text_line (codes "end" ∷ [])

pub returns-in_err-print_hosts-clause-printed : goal.returns-in_err-print_hosts-clause-printed
returns-in_err-print_hosts-clause-printed g c = λ told tells.
    let network = network_of c.args.bundle.now in
    let e = c.in_err-print_hosts.field-0.0 in
    let failed : Result (Unit {0}) WriteFailed = Err e in
    let first = front network c.args.entries.now c.args.history c.args.side in
    let hosts = hosts_text network told c.args.side in
    let devices = devices_text network told c.args.side in
    let before = c.in_ok-print_front.ensures.printed in
    let both = printed_then g.K.Sink failed _ _ _ _ _ _ first hosts before.done before.clean (c.in_err-print_hosts.ensures.printed told tells) in
    printed_before g.K.Sink c.from_residual-in_err-print_hosts.result e _ _ _ _ (first ++ hosts ++ devices) ending c.from_residual-in_err-print_hosts.ensures.0
    (printed_before g.K.Sink failed e _ _ _ _ (first ++ hosts) devices refl both)

pub returns-in_err-print_devices-clause-printed : goal.returns-in_err-print_devices-clause-printed
returns-in_err-print_devices-clause-printed g c = λ told tells.
    let network = network_of c.args.bundle.now in
    let e = c.in_err-print_devices.field-0.0 in
    let failed : Result (Unit {0}) WriteFailed = Err e in
    let first = front network c.args.entries.now c.args.history c.args.side in
    let hosts = hosts_text network told c.args.side in
    let devices = devices_text network told c.args.side in
    let before = c.in_ok-print_front.ensures.printed in
    let both = printed_then g.K.Sink _ _ _ _ _ _ _ first hosts before.done before.clean (c.in_ok-print_hosts.ensures.printed told tells) in
    let all = printed_then g.K.Sink failed _ _ _ _ _ _ (first ++ hosts) devices both.done both.clean (c.in_err-print_devices.ensures.printed told tells) in
    printed_before g.K.Sink c.from_residual-in_err-print_devices.result e _ _ _ _ (first ++ hosts ++ devices) ending c.from_residual-in_err-print_devices.ensures.0 all

pub returns-clause-printed : goal.returns-clause-printed
returns-clause-printed g c = λ told tells.
    let network = network_of c.args.bundle.now in
    let first = front network c.args.entries.now c.args.history c.args.side in
    let hosts = hosts_text network told c.args.side in
    let devices = devices_text network told c.args.side in
    let before = c.in_ok-print_front.ensures.printed in
    let both = printed_then g.K.Sink _ _ _ _ _ _ _ first hosts before.done before.clean (c.in_ok-print_hosts.ensures.printed told tells) in
    let all = printed_then g.K.Sink _ _ _ _ _ _ _ (first ++ hosts) devices both.done both.clean (c.in_ok-print_devices.ensures.printed told tells) in
    printed_then g.K.Sink c.print_last.result _ _ _ _ _ _ (first ++ hosts ++ devices) ending all.done all.clean c.print_last.ensures.printed
