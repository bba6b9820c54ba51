-- device_with: the first pair that holds the bytes is the first range that does.
use Rattle.std.proofs.Common.{sym, ◌∙◌}
use Rattle.sb_link.proofs.Ranges.{first_range}
use Rattle.sb_link.proofs.flows.Flows.device_with.Goals as goal

pub returns-in_err-place : goal.returns-in_err-place
returns-in_err-place c = let self = c.args.self.now in
    record { device = c.from_residual.ensures ∙ sym c.in_err-place.was ∙ c.range_with.ensures.place ∙ first_range self.base self.bytes self.count self.bases self.lengths self.counted c.from-count.result c.args.address c.args.bytes c.from-count.ensures }

pub returns : goal.returns
returns c = let self = c.args.self.now in
    record { device = sym c.in_ok-place.was ∙ c.range_with.ensures.place ∙ first_range self.base self.bytes self.count self.bases self.lengths self.counted c.from-count.result c.args.address c.args.bytes c.from-count.ensures }
