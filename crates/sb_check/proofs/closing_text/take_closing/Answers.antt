-- The lines of hosts, of devices, and the last one.
use Rattle.std.proofs.Common.{◌++◌, ◌∷◌, [], ℕ, List, None, append_assoc, sym}
use Rattle.std.specs.Prelude.{codes}
use Rattle.sb_flow.specs.NetworkOf.{network_of}
use Rattle.sb_text.specs.Reports.{devices_text, hosts_text}
use Rattle.sb_text.specs.TextLines.{text_line}
use Rattle.sb_check.proofs.CompareLemmas.{compared_as, compared_before, compared_then}
use Rattle.sb_check.proofs.closing_text.take_closing.Goals as goal

abbrev last : List ℕ
last = text_line (codes "end" ∷ [])

pub returns-in_err-take_hosts : goal.returns-in_err-take_hosts
returns-in_err-take_hosts g c = record {
  compared = λ told tells.
      let network = network_of c.args.bundle.now in
      let hosts = hosts_text network told None in
      let devices = devices_text network told None in
      compared_as c.from_residual.result _ _ _ _ (sym (append_assoc hosts devices last)) (compared_before c.from_residual.result _ _ hosts (devices ++ last) c.from_residual.ensures.0 (c.in_err-take_hosts.ensures.compared told tells).differs);
}

pub returns-in_err-take_devices : goal.returns-in_err-take_devices
returns-in_err-take_devices g c = record {
  compared = λ told tells.
      let network = network_of c.args.bundle.now in
      let hosts = hosts_text network told None in
      let devices = devices_text network told None in
      compared_as c.from_residual-in_err-take_devices.result _ _ _ _ (sym (append_assoc hosts devices last))
      (compared_then c.from_residual-in_err-take_devices.result _ _ _ hosts (devices ++ last) (c.in_ok-take_hosts.ensures.compared told tells).there
      (compared_before c.from_residual-in_err-take_devices.result _ _ devices last c.from_residual-in_err-take_devices.ensures.0 (c.in_err-take_devices.ensures.compared told tells).differs));
}

pub returns : goal.returns
returns g c = record {
  compared = λ told tells.
      let network = network_of c.args.bundle.now in
      let hosts = hosts_text network told None in
      let devices = devices_text network told None in
      compared_as c.take_end.result _ _ _ _ (sym (append_assoc hosts devices last))
      (compared_then c.take_end.result _ _ _ hosts (devices ++ last) (c.in_ok-take_hosts.ensures.compared told tells).there
      (compared_then c.take_end.result _ _ _ devices last (c.in_ok-take_devices.ensures.compared told tells).there c.take_end.ensures.compared));
}
