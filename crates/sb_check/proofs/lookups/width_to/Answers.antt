-- The width is that of the row that is found.
use Rattle.std.proofs.Common.{List, ap, sym, ◌∙◌}
use Rattle.std.specs.List.{find}
use Rattle.std.specs.Option.{option_copied, option_map_or}
use Rattle.sb_packet.specs.Networks.{leads_to}
use Rattle.sb_flow.specs.Rows.{link_of}
use Rattle.sb_flow.specs.declared.link_row.LinkRow.{LinkRow}
use Rattle.sb_check.proofs.BundleLookups.{width_found}
use Rattle.sb_check.proofs.lookups.width_to.Goals as goal

pub returns-in-None : goal.returns-in-None
returns-in-None c =
    let d = c.args.device in
    sym (width_found c.args.bundle.now d (option_copied c.link_to.result) (c.link_to.ensures ∙ ap (λ (rows : List LinkRow). find (λ row. leads_to d (link_of row)) rows) c.deref.ensures.value)
    ∙ ap (λ o. option_map_or (λ (row : LinkRow). row.width) (option_copied o) 0) c.in-None.is)

pub returns-in-Some : goal.returns-in-Some
returns-in-Some c =
    let d = c.args.device in
    sym (width_found c.args.bundle.now d (option_copied c.link_to.result) (c.link_to.ensures ∙ ap (λ (rows : List LinkRow). find (λ row. leads_to d (link_of row)) rows) c.deref.ensures.value)
    ∙ ap (λ o. option_map_or (λ (row : LinkRow). row.width) (option_copied o) 0) c.in-Some.is)
