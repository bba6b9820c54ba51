-- An entry that doesn't come rightly behind some that do is the first.
use Rattle.sb_check.proofs.FollowLemmas.{now_wrong, right_followed}
use Rattle.sb_check.proofs.course.Course.follow.Goals as goal

pub returns-else-admits : goal.returns-else-admits
returns-else-admits c = record {
  followed = λ journal f range at.
      let r = right_followed _ journal _ _ _ c.in-None.is f in
      now_wrong _ journal c.args.entry.now c.args.place at r.0.lawful (c.if-admits.ensures.fault journal r.0 range);
}
