-- Both lines and all entries are read and followed, or there is a fault of form.
use Rattle.std.proofs.Common.{◌≤◌, ◌^◌, ◌+◌, arith}
use Rattle.sb_flow.specs.NetworkOf.{network_of}
use Rattle.sb_check.specs.ReportLines.{report_lines}
use Rattle.sb_check.proofs.FollowLemmas.{form_faulty}
use Rattle.sb_check.proofs.ReadingLemmas.{entries_bounded, form_fault_read, history_read}
use Rattle.sb_check.proofs.checking.follow_history.Goals as goal

pub returns-in-Err-clause-form : goal.returns-in-Err-clause-form
returns-in-Err-clause-form c =
    let network = network_of c.args.bundle.now in
    form_faulty network c.args.lines.now.rest.now c.fault_at.result c.in-Err.line c.fault_at.ensures.reason c.fault_at.ensures.line c.names_are_names.ensures c.requires.short (c.in-Err.ensures.form network)

pub overflow_add-place : goal.overflow_add-place
overflow_add-place c =
    let read = c.in-Err-read_entries.ensures.form in
    let few = entries_bounded (network_of c.args.bundle.now) c.args.lines.now.rest.now c.read_heading.new.lines.rest.now read.1 read.0 c.in-Ok.count c.in-Ok.ensures.headed read.4 in
    let short = c.requires.short in
    let many = read.3 in
    omega arith

pub fault_at-requires-in-Err-read_entries : goal.fault_at-requires-in-Err-read_entries
fault_at-requires-in-Err-read_entries c =
    let read = c.in-Err-read_entries.ensures.form in
    let few = entries_bounded (network_of c.args.bundle.now) c.args.lines.now.rest.now c.read_heading.new.lines.rest.now read.1 read.0 c.in-Ok.count c.in-Ok.ensures.headed read.4 in
    let short = c.requires.short in
    let many = read.3 in
    omega arith

pub returns-in-Ok-read_entries-clause-read : goal.returns-in-Ok-read_entries-clause-read
returns-in-Ok-read_entries-clause-read c =
    let network = network_of c.args.bundle.now in
    let report = c.args.lines.now.rest.now in
    let mid = c.read_heading.new.lines.rest.now in
    let rest = c.read_entries.new.lines.rest.now in
    let read = c.in-Ok-read_entries.ensures.read in
    let few = entries_bounded network report mid (report_lines rest) read.0 c.in-Ok.count c.in-Ok.ensures.headed read.2 in
    let short = c.requires.short in
    let many = read.1 in
    let bounded : c.in-Ok.count ≤ 2 ^ 26 = omega arith in
    (read.0, read.1, bounded, history_read network report mid rest read.0 c.in-Ok.count c.in-Ok.ensures.headed read.2 read.1, read.3)

pub returns-in-Err-read_entries-clause-form : goal.returns-in-Err-read_entries-clause-form
returns-in-Err-read_entries-clause-form c =
    let network = network_of c.args.bundle.now in
    let report = c.args.lines.now.rest.now in
    let read = c.in-Err-read_entries.ensures.form in
    form_faulty network report c.fault_at-in-Err-read_entries.result (2 + c.in-Err-read_entries.place) c.fault_at-in-Err-read_entries.ensures.reason c.fault_at-in-Err-read_entries.ensures.line c.names_are_names.ensures c.requires.short
    (form_fault_read network report c.read_heading.new.lines.rest.now read.1 read.0 c.in-Ok.count c.in-Err-read_entries.place c.in-Ok.ensures.headed read.4 read.3 read.2 read.5)
