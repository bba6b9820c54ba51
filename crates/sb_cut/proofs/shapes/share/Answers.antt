-- share: what is carried is all that the packet speaks of, and stands at the front of its body.
use Rattle.std.proofs.Common.{◌≡◌, ◌≤◌, ◌+◌, ◌-◌, ℕ, length, sym, arith, refl, inl, inr}
use Rattle.std.proofs.lemmas.List.{length-take, length-drop}
use Rattle.sb_packet.specs.Spans.{carried_by, span_of}
use Rattle.sb_cut.proofs.Slices.{middle}
use Rattle.sb_cut.proofs.shapes.share.Goals as goal

pub returns-in-ReqWr : goal.returns-in-ReqWr
returns-in-ReqWr c =
    let p = c.args.packet.now in
    let all : (n : ℕ) → carried_by p.cmd.op n ≡ n = elim c.in-ReqWr.is [
      | inl is ↦ λ n. rw is refl
      | inr others ↦ elim others [ inl is ↦ λ n. rw is refl | inr more ↦ elim more [ inl is ↦ λ n. rw is refl | inr is ↦ λ n. rw is refl ] ]
    ] in
    let count : c.args.start + c.args.count - c.args.start ≡ c.args.count = omega arith in
    let long : length p.body ≡ 32 = p.whole in
    let fits : span_of p.cmd ≤ 32 = p.fits in
    let within : c.args.start + c.args.count ≤ span_of p.cmd = c.requires.inside in
    record {
      bytes = rw (count, all (span_of p.cmd)) (sym (middle c.args.start c.args.count (span_of p.cmd) p.body within));
      len = rw (count, all c.args.count, length-take, length-drop) (omega (arith, long, fits, within));
    }
