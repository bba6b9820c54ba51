-- A wrong entry is a fault, and so is a last one where words are missing.
use Rattle.sb_flow.specs.NetworkOf.{network_of}
use Rattle.sb_check.specs.declared.verdict.Reason.TheVariants as reasons
use Rattle.sb_check.proofs.FollowLemmas.{fault_is, none_wrong, right_followed, short_entries, wrong_entry, wrong_followed}
use Rattle.sb_check.proofs.course.Course.ended.Goals as goal

pub returns-in-Some-clause-fault : goal.returns-in-Some-clause-fault
returns-in-Some-clause-fault c = λ report journal f many s.
    let w = wrong_followed (network_of c.args.bundle.now) journal _ c.in-Some.place _ _ c.in-Some.is f in
    fault_is (network_of c.args.bundle.now) report _ reasons.Entry _ _ c.fault_at.ensures.reason c.fault_at.ensures.line (wrong_entry (network_of c.args.bundle.now) report journal c.in-Some.place s w)

pub returns-in-Some-clause-unlawful : goal.returns-in-Some-clause-unlawful
returns-in-Some-clause-unlawful c = λ journal f many lawful.
    none_wrong (network_of c.args.bundle.now) journal c.in-Some.place (wrong_followed (network_of c.args.bundle.now) journal _ c.in-Some.place _ _ c.in-Some.is f) lawful

pub returns-else-is_whole-clause-fault : goal.returns-else-is_whole-clause-fault
returns-else-is_whole-clause-fault c = λ report journal f many s.
    let r = right_followed (network_of c.args.bundle.now) journal _ _ _ c.in-None.is f in
    fault_is (network_of c.args.bundle.now) report _ reasons.Short _ _ c.fault_at-else-is_whole.ensures.reason c.fault_at-else-is_whole.ensures.line
    (short_entries (network_of c.args.bundle.now) report journal c.args.count s many r.0.lawful (c.if-is_whole.ensures.short journal r.0))
