-- A ring whose ends have met keeps a link's promise.
use Rattle.sb_laws.proofs.SidePromises.{link_promise}
use Rattle.sb_laws.proofs.side_laws.met_rings_are_links.Goals as goal

pub returns : goal.returns
returns c = record { link = λ m r port ring has got turn prefix. link_promise m r port ring has got turn prefix }
