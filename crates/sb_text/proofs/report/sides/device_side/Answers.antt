-- The side is that of the row's link.
use Rattle.std.proofs.Common.{◌∙◌}
use Rattle.sb_packet.specs.Networks.{leads_to, side_at}
use Rattle.sb_flow.specs.NetworkOf.{network_of}
use Rattle.sb_flow.specs.Rows.{link_of}
use Rattle.sb_text.proofs.SideLemmas.{found_by}
use Rattle.sb_text.proofs.report.sides.device_side.Goals as goal

pub returns-in-Some : goal.returns-in-Some
returns-in-Some c = c.side_at.ensures ∙ found_by link_of (leads_to c.args.device) (λ l. side_at (network_of c.args.bundle.now) l.from) c.args.bundle.now.links.items _ c.in-Some.ensures

pub returns-in-None : goal.returns-in-None
returns-in-None c = found_by link_of (leads_to c.args.device) (λ l. side_at (network_of c.args.bundle.now) l.from) c.args.bundle.now.links.items _ c.in-None.ensures
