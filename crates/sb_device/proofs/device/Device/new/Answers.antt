-- Nothing was served yet.
use Rattle.std.proofs.Common.{ap, ◌∙◌}
use Rattle.sb_port.specs.Ports.{PortSide, offered_words}
use Rattle.sb_device.specs.SideOf.{side_of}
use Rattle.sb_device.proofs.Meetings.{service_begins}
use Rattle.sb_device.proofs.device.Device.new.Goals as goal

pub returns-clause-serves : goal.returns-clause-serves
returns-clause-serves g c = service_begins
    (side_of g.F.Rx.RxEnd (record { number = c.args.number; memory = c.args.memory; journal = c.reserve.new.self }) c.args.leg.requests c.new.result)
    (c.in_ok-reserve.ensures.entries ∙ c.new-journal.ensures.empty) (ap (λ (p : PortSide). offered_words p) c.new.ensures.fresh)
