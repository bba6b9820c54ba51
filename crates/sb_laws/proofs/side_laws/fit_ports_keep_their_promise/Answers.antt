-- A fit port keeps a port's promise.
use Rattle.sb_laws.proofs.SidePromises.{port_promise}
use Rattle.sb_laws.proofs.side_laws.fit_ports_keep_their_promise.Goals as goal

pub returns : goal.returns
returns c = record { promise = λ m r port fit has. port_promise m r port fit has }
